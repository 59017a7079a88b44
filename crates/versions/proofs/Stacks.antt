-- Places on a stack, and the versions there.
use Rattle.std.proofs.Common.{◌≡◌, ℕ, ◌+◌, ◌<◌, ◌≤◌, Bool, true, false, cond, ◌≢◌, List, [], ◌∷◌, ◌++◌, map, length, get_or, take, drop, set, sym, refl, ap, ◌∙◌, inl, inr, append_assoc, add-one, arith, get_or-set_other, get_or-set_same, take-suc-set}
use mathlib.Core.List.{map-append}
use Rattle.std.proofs.lemmas.Bool.{cases_lt}
use Rattle.std.specs.List.{push}
use Rattle.std.proofs.lemmas.List.{drop_at, length-append}
use Rattle.std.proofs.Math.Seq.{get_or-append_seam}

-- one place more on the stack
pub pushed : {X : Type 0} (f : ℕ → X) (st : List ℕ) (n p : ℕ) (rest : List X) → n < length st
    → map f (take (n + 1) (set st n p)) ++ rest ≡ map f (take n st) ++ f p ∷ rest
pushed f st n p rest h = rw (add-one n, take-suc-set st n p h, map-append f (take n st) (p ∷ []), append_assoc (map f (take n st)) (f p ∷ []) rest)

pub pushed-below : (st : List ℕ) (n p b : ℕ) → n < length st → p ≤ b → ((i : ℕ) → i < n → get_or st i 0 ≤ b) → (i : ℕ) → i < n + 1 → get_or (set st n p) i 0 ≤ b
pushed-below st n p b h q below i l =
    elim (cases_lt i n) [
      | inl lt ↦ let ne : i ≢ n = λ e. omega arith in rw (get_or-set_other st n i p 0 ne) (below i lt)
      | inr ge ↦ let e : i ≡ n = omega arith in rw (e, get_or-set_same st n p 0 h) q
    ]

-- p is the last of the places that are left, and less is what is left without it
module _ (places rest less : List ℕ) (p : ℕ) (e : rest ≡ push less p) (f : rest ++ drop (length rest) places ≡ places) where
  parted : less ++ p ∷ drop (length rest) places ≡ places
  parted = sym (append_assoc less (p ∷ []) (drop (length rest) places)) ∙ ap (λ l. l ++ drop (length rest) places) (sym e) ∙ f

  pub last_behind : drop (length less) places ≡ p ∷ drop (length rest) places
  last_behind = ap (drop (length less)) (sym parted) ∙ drop_at less (p ∷ drop (length rest) places) (length less) refl

  pub last_left : less ++ drop (length less) places ≡ places
  last_left = ap (λ l. less ++ l) last_behind ∙ parted

  pub last_within : (b : ℕ) → ((i : ℕ) → i < length places → get_or places i 0 ≤ b) → (p ≤ b) × (0 < length places)
  last_within b used =
      let l : length less < length places = omega (arith, ap length parted, length-append less (p ∷ drop (length rest) places)) in
      let r : get_or places (length less) 0 ≡ p = ap (λ l. get_or l (length less) 0) (sym parted) ∙ get_or-append_seam less p (drop (length rest) places) 0 in
      (omega (arith, r, used (length less) l), omega arith)

-- one version more in front of those of the one key that b says
pub one_more : {X : Type 0} (b : Bool) (v : X) (new cur old some more : List X) → new ≡ cond b (v ∷ cur) cur → cur ≡ cond b some old → more ≡ v ∷ some → new ≡ cond b more old
one_more true v new cur old some more p q r = cc
one_more false v new cur old some more p q r = cc
