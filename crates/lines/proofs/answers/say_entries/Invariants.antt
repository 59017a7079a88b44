use Rattle.std.proofs.Common.{◌≡◌, [], ◌++◌, drop}
use denote.Text.{Utf8}
use denote.Shadow.{shadow}
use Rattle.lines.specs.Said.{pairs}
use Rattle.lines.proofs.answers.say_entries.Given as goal

abbrev pub invariant-loop-e : goal.invariant-loop-e
invariant-loop-e g l =
    shadow (Utf8 l.separator)
    × (g.T.Text.bytes l.out ++ pairs l.separator (drop l.e-index l.entries) ≡ g.T.Text.bytes l.initial.out ++ pairs [] l.entries)
