use Rattle.std.proofs.Common.{[], rules}
use Rattle.lines.specs.Said.{pairs}
use Rattle.lines.proofs.Pairs.{pair_said, pairs_said}
use Rattle.lines.proofs.answers.say_entries.Goals as goal

pub loop-e-preserved : goal.loop-e-preserved
loop-e-preserved g c = (
  search rules,
  pair_said (g.T.Text.bytes c.loop-e.out) _ _ c.loop-e.separator.now c.args.entries.now c.loop-e.e-index _ c.loop-e-test.true c.in_ok-say_entry.ensures c.loop-e.invariant.1,
)

pub returns : goal.returns
returns g c =
    let entries = c.args.entries.now in
    pairs_said c.append.result (g.T.Text.bytes c.args.out.now) (g.T.Text.bytes c.loop-e.out) (g.T.Text.bytes c.append.new.self) (pairs [] entries) c.loop-e.separator.now entries c.loop-e.e-index c.loop-e-test.false c.loop-e.invariant.1
    c.append.ensures.text
