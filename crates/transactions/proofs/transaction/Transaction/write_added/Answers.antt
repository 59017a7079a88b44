use Rattle.std.proofs.Common.{◌≡◌, ◌<◌, ◌≤◌, length, arith}
use Rattle.std.proofs.lemmas.List.{take_more_set, length-take-le}
use Rattle.transactions.specs.Transactions.{writes_of}
use Rattle.transactions.proofs.Arrays.{reads_kept}
use Rattle.transactions.proofs.transaction.Transaction.write_added.Goals as goal

pub returns : goal.returns
returns c =
    let t = c.args.self in
    let l : t.write_count < length t.writes = omega arith in
    let m : t.write_count ≤ length t.writes = omega arith in
    let n : length (writes_of t) ≡ t.write_count = length-take-le t.write_count t.writes m in
    let a = take_more_set t.writes t.write_count c.args.e l in
    let b = reads_kept c.args.e (writes_of t) t.read_count t.reads (λ k h. omega (arith, t.own_within k h)) in
    (omega arith, cc)
