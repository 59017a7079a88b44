use Rattle.std.proofs.Common.{◌≡◌, ◌+◌, ◌≤◌, drop}
use Rattle.model.specs.Versions.{keys_of}
use Rattle.versions.proofs.writes.versions_of.Given as goal

abbrev pub invariant-loop-i : goal.invariant-loop-i
invariant-loop-i l = (l.n ≤ l.i) × (l.n + keys_of (drop l.i l.writes) ≡ keys_of l.writes)
