use Rattle.std.proofs.Common.{◌≡◌, ℕ, ◌+◌, ◌<◌, ◌≤◌, ◌++◌, map, get_or, take}
use Rattle.model.specs.Versions.{swept}
use Rattle.versions.specs.Chain.{chain, version_at}
use Rattle.versions.specs.Lent.{inside, view}
use Rattle.versions.proofs.chains.Chains.kept.Given as goal

-- what is on the stack, and what stays from the place on
abbrev pub invariant-loop-place : goal.invariant-loop-place
invariant-loop-place l =
    (l.n + l.place ≤ l.self.count)
    × ((i : ℕ) → i < l.n → get_or l.stack i 0 ≤ l.self.count)
    × (map (version_at (inside l.self)) (take l.n l.stack) ++ swept l.floor (chain (inside l.self) l.place) ≡ swept l.floor (view l.self l.key))

abbrev pub decreases-loop-place : goal.decreases-loop-place
decreases-loop-place l = l.place
