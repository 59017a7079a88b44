use Rattle.std.proofs.Common.{[], rules}
use Rattle.serial_runs.specs.Text.{numerals}
use Rattle.serial_runs.proofs.Numbers.{number_said, numbers_said}
use Rattle.serial_runs.proofs.text.say_order.Goals as goal

pub loop-n-preserved : goal.loop-n-preserved
loop-n-preserved g c = (
  search rules,
  number_said (g.T.Text.bytes c.loop-n.out) _ _ _ c.loop-n.separator.now c.args.order.now c.loop-n.n-index _ c.loop-n-test.true c.in_ok-append.ensures.text c.in_ok-say_number.ensures.text c.loop-n.invariant.1,
)

pub returns : goal.returns
returns g c =
    let order = c.args.order.now in
    numbers_said c.append-2.result (g.T.Text.bytes c.args.out.now) (g.T.Text.bytes c.loop-n.out) (g.T.Text.bytes c.append-2.new.self) (numerals [] order) c.loop-n.separator.now order c.loop-n.n-index c.loop-n-test.false c.loop-n.invariant.1
    c.append-2.ensures.text
