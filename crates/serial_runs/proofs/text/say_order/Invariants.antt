use Rattle.std.proofs.Common.{◌≡◌, [], ◌++◌, drop}
use denote.Text.{Utf8}
use denote.Shadow.{shadow}
use Rattle.serial_runs.specs.Text.{numerals}
use Rattle.serial_runs.proofs.text.say_order.Given as goal

abbrev pub invariant-loop-n : goal.invariant-loop-n
invariant-loop-n g l =
    shadow (Utf8 l.separator)
    × (g.T.Text.bytes l.out ++ numerals l.separator (drop l.n-index l.order) ≡ g.T.Text.bytes l.initial.out ++ numerals [] l.order)
