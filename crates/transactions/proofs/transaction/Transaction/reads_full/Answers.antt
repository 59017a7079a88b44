use Rattle.std.proofs.Common.{◌≤◌, leb, length, sym, ap, arith}
use Rattle.transactions.specs.Transactions.{writes_of}
use Rattle.transactions.proofs.Arrays.{length-reads}
use Rattle.transactions.proofs.transaction.Transaction.reads_full.Goals as goal

pub returns : goal.returns
returns c =
    let t = c.args.self.now in
    let m : t.read_count ≤ length t.reads = omega arith in
    sym (ap (leb 64) (length-reads (writes_of t) t.reads t.read_count m))
