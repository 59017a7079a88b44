use Rattle.std.proofs.Common.{◌≡◌, ◌++◌, take, drop, map}
use Rattle.journal.specs.Parsing.{entry_of}
use Rattle.journal.proofs.reader.lay.Given as goal

abbrev pub invariant-loop-i : goal.invariant-loop-i
invariant-loop-i l = l.writes ≡ map entry_of (take l.i l.parts) ++ drop l.i l.initial.writes
