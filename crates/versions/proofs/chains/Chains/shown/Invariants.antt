use Rattle.std.proofs.Common.{◌≡◌, ◌≤◌}
use Rattle.model.specs.Versions.{shown}
use Rattle.versions.specs.Chain.{chain}
use Rattle.versions.specs.Lent.{inside, view}
use Rattle.versions.proofs.chains.Chains.shown.Given as goal

-- what is shown from the place on is what is shown of the key
abbrev pub invariant-loop-place : goal.invariant-loop-place
invariant-loop-place l = (l.place ≤ l.self.count) × (shown l.at (chain (inside l.self) l.place) ≡ shown l.at (view l.self l.key))

abbrev pub decreases-loop-place : goal.decreases-loop-place
decreases-loop-place l = l.place
