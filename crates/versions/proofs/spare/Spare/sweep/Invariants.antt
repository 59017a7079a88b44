use Rattle.std.proofs.Common.{◌≡◌, ℕ, ◌<◌, ◌≤◌, [], length}
use Rattle.model.specs.Versions.{swept}
use Rattle.versions.specs.Lent.{view}
use Rattle.versions.proofs.spare.Spare.sweep.Given as goal

-- the keys below key are copied, and of the others there is nothing yet
abbrev pub invariant-loop-key : goal.invariant-loop-key
invariant-loop-key l =
    (l.self.to.room ≡ l.chains.room)
    × (length l.self.stack.now ≡ length l.initial.self.stack.now)
    × ((k : ℕ) → k < l.key → view l.self.to k ≡ swept l.floor (view l.chains k))
    × ((k : ℕ) → l.key ≤ k → view l.self.to k ≡ [])
