use Rattle.std.proofs.Common.{◌≡◌, ◌<◌, ◌≤◌, length, take, arith, leb-false, length-set, sym}
use Rattle.std.proofs.lemmas.List.{take-take}
use Rattle.transactions.specs.Transactions.{writes_of}
use Rattle.transactions.proofs.Arrays.{read_more, within_more, length-reads}
use Rattle.transactions.proofs.transaction.Transaction.read_noted.Goals as goal

pub invariant_of-self : goal.invariant_of-self
invariant_of-self c =
    let t = c.args.self in
    let m : t.read_count ≤ length t.reads = omega arith in
    let l : t.read_count < length t.reads = omega (arith, leb-false _ _ (sym c.if-reads_full.ensures), length-reads (writes_of t) t.reads t.read_count m) in
    record { reads_long = simp length-set (omega arith); writes_long = omega arith; few_reads = omega arith; few_writes = omega arith; own_within = within_more _ _ _ _ l (omega arith) t.own_within }

pub returns : goal.returns
returns c =
    let t = c.args.self in
    let m : t.read_count ≤ length t.reads = omega arith in
    let f = leb-false _ _ (sym c.if-reads_full.ensures) in
    let l : t.read_count < length t.reads = omega (arith, f, length-reads (writes_of t) t.reads t.read_count m) in
    let a = read_more (writes_of t) t.reads t.read_count (record { from = c.args.from; to = c.args.to; at = c.args.at; own = t.write_count }) l in
    let b : take t.write_count (writes_of t) ≡ writes_of t = take-take t.write_count t.write_count t.writes (omega arith) in
    (omega (arith, f), cc)
