-- Laws of walks along links that lead to lower places.
use Rattle.std.proofs.Common.{◌≡◌, ℕ, zero, suc, ◌<◌, ◌≤◌, false, leb, [], ◌∷◌, length, get_or, sym, refl, ap, ◌∙◌, inl, inr, arith, le-ltb, lt-ltb}
use lib.ListN.{get_or-eq_default}
use Rattle.std.proofs.lemmas.Bool.{cases_lt}
use Rattle.model.specs.Versions.{shown, swept, newer}
use Rattle.versions.specs.Chain.{Links, version_at, walk, chain, listed, Falls, Sound}

module _ (w : Links) where
  pub walk_none : (f : ℕ) → walk w f 0 ≡ []
  unfolding walk
  walk_none zero = refl
  walk_none (suc f) = refl

  pub chain-none : (p : ℕ) → p ≡ 0 → chain w p ≡ []
  unfolding chain walk
  chain-none zero e = refl
  chain-none (suc p) e = let z : ⊥ = omega arith in elim z [ ]

  -- nothing is shown, stays or is newer where there is no version
  pub shown-none : (at p : ℕ) → p ≡ 0 → shown at (chain w p) ≡ 0
  unfolding shown
  shown-none at p e = rw (chain-none p e)

  pub swept_none : (floor p : ℕ) → p ≡ 0 → swept floor (chain w p) ≡ []
  unfolding swept
  swept_none floor p e = rw (chain-none p e)

  pub newer-none : (begin p : ℕ) → p ≡ 0 → newer begin (chain w p) ≡ false
  newer-none begin p e = ap (newer begin) (chain-none p e)

  module _ (c : ℕ) (falls : Falls w c) where
    -- from a place on, so many as the place are enough
    enough : (f g p : ℕ) → p ≤ f → p ≤ g → p ≤ c → walk w f p ≡ walk w g p
    unfolding walk
    enough f g zero h k r = walk_none f ∙ sym (walk_none g)
    enough zero g (suc q) h k r = let z : ⊥ = omega arith in elim z [ ]
    enough (suc f) zero (suc q) h k r = let z : ⊥ = omega arith in elim z [ ]
    enough (suc f) (suc g) (suc q) h k r =
        let low : get_or w.next (suc q) 0 < suc q = falls (suc q) (omega arith) r in
        ap (λ vs. version_at w (suc q) ∷ vs) (enough f g (get_or w.next (suc q) 0) (omega arith) (omega arith) (omega arith))

    pub chain-at : (p : ℕ) → 0 < p → p ≤ c → chain w p ≡ version_at w p ∷ chain w (get_or w.next p 0)
    unfolding walk chain
    chain-at zero h r = let z : ⊥ = omega arith in elim z [ ]
    chain-at (suc q) h r =
        let low : get_or w.next (suc q) 0 < suc q = falls (suc q) (omega arith) r in
        ap (λ vs. version_at w (suc q) ∷ vs) (enough q (get_or w.next (suc q) 0) (get_or w.next (suc q) 0) (omega arith) (omega arith) (omega arith))

    module _ (p : ℕ) (pos : 0 < p) (low : p ≤ c) where
      -- what is shown from a place on: the version there, or what is shown behind it
      pub shown-here : (at : ℕ) → get_or w.number p 0 < at → shown at (chain w p) ≡ get_or w.value p 0
      unfolding shown
      shown-here at lt = rw (chain-at p pos low, lt-ltb (get_or w.number p 0) at lt)

      pub shown-behind : (at : ℕ) → at ≤ get_or w.number p 0 → shown at (chain w p) ≡ shown at (chain w (get_or w.next p 0))
      unfolding shown
      shown-behind at ge = rw (chain-at p pos low, le-ltb (get_or w.number p 0) at ge)

      -- what stays from a place on
      pub swept-here : (floor : ℕ) → get_or w.number p 0 < floor → swept floor (chain w p) ≡ version_at w p ∷ []
      unfolding swept
      swept-here floor lt = rw (chain-at p pos low, lt-ltb (get_or w.number p 0) floor lt)

      pub swept-behind : (floor : ℕ) → floor ≤ get_or w.number p 0 → swept floor (chain w p) ≡ version_at w p ∷ swept floor (chain w (get_or w.next p 0))
      unfolding swept
      swept-behind floor ge = rw (chain-at p pos low, le-ltb (get_or w.number p 0) floor ge)

      pub newer-here : (begin : ℕ) → newer begin (chain w p) ≡ leb begin (get_or w.number p 0)
      newer-here begin = ap (newer begin) (chain-at p pos low)

-- a key that there is not has no versions
pub listed-far : (w : Links) (count room k : ℕ) → Sound w count room → 4096 ≤ k → listed w k ≡ []
unfolding listed
listed-far w count room k sound far = chain-none w (get_or w.heads k 0) none
  where
    none : get_or w.heads k 0 ≡ 0
    none =
        elim (cases_lt 0 room) [
          | inl lt ↦ let past : length w.heads ≤ k = omega (arith, sound.0.1 lt, far) in get_or-eq_default w.heads 0 past
          | inr ge ↦ omega (arith, sound.1, sound.3 k, ge)
        ]
