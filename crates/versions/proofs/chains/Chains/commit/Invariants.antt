use Rattle.std.proofs.Common.{◌≡◌, ℕ, ◌+◌, cond, drop}
use Rattle.model.specs.Transactions.{names}
use Rattle.model.specs.Versions.{keys_of, committed}
use Rattle.versions.specs.Lent.{view}
use Rattle.versions.proofs.chains.Chains.commit.Given as goal

-- the keys that the writes from i on do not name are done
abbrev pub invariant-loop-i : goal.invariant-loop-i
invariant-loop-i l =
    (l.self.room ≡ l.initial.self.room)
    × (l.self.count + keys_of (drop l.i l.writes) ≡ l.initial.self.count + keys_of l.writes)
    × ((k : ℕ) → view l.self k ≡ cond (names k (drop l.i l.writes)) (view l.initial.self k) (committed l.number l.writes k (view l.initial.self k)))
