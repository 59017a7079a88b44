use Rattle.std.proofs.Common.{take, drop, Ok, subst, refl}
use Rattle.std.proofs.lemmas.List.{take_rest}
use Rattle.journal.specs.Records.{Encoded}
use Rattle.journal.proofs.Encoding.{held_on}
use Rattle.journal.proofs.Joins.{went_on}
use Rattle.journal.proofs.gather.Journal.append.Goals as goal

pub returns-clause-file : goal.returns-clause-file
returns-clause-file c =
    let j = c.args.self.now in
    let bytes = j.bytes.now in
    let lent : Encoded c.args.number c.args.writes.now (drop j.len bytes) c.encode.new.out (Ok c.in_ok-n.n) =
    subst (λ l. Encoded c.args.number c.args.writes.now l c.encode.new.out (Ok c.in_ok-n.n)) (take_rest bytes j.len) c.in_ok-n.ensures.bytes
    in
    went_on c.args.number c.args.writes.now (take j.len bytes) _ (held_on c.args.number c.args.writes.now j.len _ bytes c.encode.new.out j.within refl c.in_ok-n.n lent)
