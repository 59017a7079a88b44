use Rattle.std.proofs.Common.{◌-◌, ◌≤◌, List, length}
use Rattle.model.specs.declared.Entry.{Entry}
use Rattle.store.specs.Restored.{Restored}
use Rattle.store.proofs.Replaying.{Going}
use Rattle.store.proofs.state.Tables.replay.Given as goal

abbrev pub invariant-loop-found : goal.invariant-loop-found
invariant-loop-found l = (l.at ≤ length l.bytes) × ((ws : List (List Entry)) → Restored ws l.initial.self → Going ws l.bytes l.at l.self)

abbrev pub decreases-loop-found : goal.decreases-loop-found
decreases-loop-found l = length l.bytes - l.at
