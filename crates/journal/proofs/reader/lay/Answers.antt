use Rattle.std.proofs.Common.{set, ap, ◌∙◌, arith}
use Rattle.journal.proofs.Entries.{laid-more}
use Rattle.journal.proofs.reader.lay.Goals as goal

pub loop-i-preserved : goal.loop-i-preserved
loop-i-preserved c =
    ap (set c.loop-i.writes c.loop-i.i) c.entry_of.ensures
    ∙ laid-more c.args.parts.now c.args.writes.now c.loop-i.writes c.loop-i.i _ c.loop-i-test.true (omega (arith, c.requires, c.loop-i-test.true)) c.loop-i.invariant
