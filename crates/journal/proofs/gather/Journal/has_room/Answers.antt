use Rattle.std.proofs.Common.{arith}
use Rattle.std.proofs.lemmas.Bool.{leb-true}
use Rattle.journal.specs.Held.{room_of}
use Rattle.journal.proofs.Back.{none_stray}
use Rattle.journal.proofs.Encoding.{it_fits}
use Rattle.journal.proofs.gather.Journal.has_room.Goals as goal

pub returns-clause-any : goal.returns-clause-any
returns-clause-any c = λ e es fine.
    let l = leb-true 390 c.free.result e in
    it_fits es (room_of c.args.self.now) fine.0 (omega (arith, l, c.free.ensures, fine.0)) (none_stray es fine.1)
