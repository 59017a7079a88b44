use Rattle.std.proofs.Common.{◌≡◌, ◌+◌, ◌-◌, length, arith}
use Rattle.journal.proofs.Places.{part-written}
use Rattle.journal.proofs.writer.put.Goals as goal

pub returns : goal.returns
returns c =
    let e : c.args.at + length c.args.bytes.now - c.args.at ≡ length c.args.bytes.now = omega arith in
    part-written _ _ _ _ _ e c.copy_from_slice.ensures.after
