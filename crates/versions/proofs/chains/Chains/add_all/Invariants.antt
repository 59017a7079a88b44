use Rattle.std.proofs.Common.{◌≡◌, ℕ, ◌+◌, ◌++◌, cond, eqb, map, length, drop}
use Rattle.versions.specs.Chain.{version_at}
use Rattle.versions.specs.Lent.{inside, view}
use Rattle.versions.proofs.chains.Chains.add_all.Given as goal

-- the versions at the places behind the rest are there
abbrev pub invariant-loop-place : goal.invariant-loop-place
invariant-loop-place l =
    let rest = l.place-iterator.iter.rest.now in
    (l.self.room ≡ l.initial.self.room)
    × (l.self.count + length rest ≡ l.initial.self.count + length l.places)
    × (rest ++ drop (length rest) l.places ≡ l.places)
    × ((k : ℕ) → view l.self k ≡ cond (eqb k l.key) (map (version_at (inside l.from)) (drop (length rest) l.places) ++ view l.initial.self l.key) (view l.initial.self k))
