-- The line takes each once, and nobody who has to stand before one comes after it.
use Rattle.std.proofs.Common.{◌≡◌, ℕ, zero, suc, ◌<◌, false, not, List, [], ◌∷◌, ◌++◌, length, sym, ap, subst, inl, inr, arith}
use Rattle.std.specs.List.Sorted.{IsPermutation}
use Rattle.std.proofs.lemmas.List.Sorted.{IsPermutation-refl, IsPermutation-cons, IsPermutation-trans, length_permutation}
use Rattle.std.proofs.ByRecursion.{all_shuffled}
use Rattle.std.proofs.lemmas.Bool.{not-true, not_from_false}
use Rattle.model.specs.Transactions.{Txn}
use Rattle.conflicts.specs.Laws.{Allowed}
use Rattle.order.specs.Order.{stands_before, commit_at, blocked, without, then_those, lined, AllSerial}
use Rattle.order.proofs.Members.{In, in_left, in_right, all_in, all_from, any_none, Asc, asc-kept, in_without, to_front, low_some}
use Rattle.order.proofs.Stands.{one_free}

pub shuffled_in : {A : Type 0} (x : A) (xs ys : List A) → IsPermutation xs ys → In x ys → In x xs
shuffled_in x xs ys s m = all_in (λ y. In y xs) x ys (all_shuffled (λ y. In y xs) xs ys s (all_from (λ y. In y xs) xs (λ y n. n))) m

module _ (done : List Txn) where
  -- b, another than a, may come after it
  abbrev pub Follows : ℕ → ℕ → Type 0
  Follows a b = (stands_before (commit_at done b) (commit_at done a) ≡ false) × (b ≡ a → ⊥)

  abbrev pub InLine : List ℕ → Type 0
  InLine [] = Unit {0}
  InLine (a ∷ rest) = ((b : ℕ) → In b rest → Follows a b) × InLine rest

  pub inline-front : (xs ys : List ℕ) → InLine (xs ++ ys) → InLine xs
  inline-front [] ys h = tt
  inline-front (x ∷ xs) ys h = (λ b m. h.0 b (in_left b xs ys m), inline-front xs ys h.1)

  pub inline-rest : (xs ys : List ℕ) → InLine (xs ++ ys) → InLine ys
  inline-rest [] ys h = h
  inline-rest (x ∷ xs) ys h = inline-rest xs ys h.1

  pub inline_across : (xs ys : List ℕ) (a b : ℕ) → InLine (xs ++ ys) → In a xs → In b ys → Follows a b
  inline_across [] ys a b h m n = absurd m
  inline_across (x ∷ xs) ys a b h (inl e) n = subst (λ y. Follows y b) (sym e) (h.0 b (in_right b xs ys n))
  inline_across (x ∷ xs) ys a b h (inr m) n = inline_across xs ys a b h.1 m n

  abbrev pub Lined : List ℕ → List ℕ → Type 0
  Lined left ls = InLine ls × IsPermutation left ls

  module _ (allowed : Allowed done) (serials : AllSerial done) where
    pub lined-whole : (n : ℕ) (left : List ℕ) → length left ≡ n → Asc left → ((i : ℕ) → In i left → i < length done) → Lined left (lined done n left)
    unfolding lined
    lined-whole zero [] h a b = (tt, IsPermutation-refl [])
    lined-whole zero (x ∷ xs) h a b = absurd (omega arith)
    lined-whole (suc n) left h a b =
        let free = one_free done allowed serials left a b (omega arith) in
        let f = low_some (λ i. not (blocked done left i)) free.0 left free.1 (not_from_false (blocked done left free.0) free.2) in
        let x = f.0 in
        let rest = without x left in
        let front : IsPermutation left (x ∷ rest) = to_front x left a f.1 in
        let k : suc (length rest) ≡ length left = length_permutation left (x ∷ rest) front in
        let ih = lined-whole n rest (omega arith) (asc-kept _ left a) (λ i m. b i (in_without x i left m).0) in
        let ls = lined done n rest in
        let follow : (b : ℕ) → In b ls → Follows x b = λ b m.
        let i = in_without x b left (shuffled_in b rest ls ih.1 m) in
        (any_none (λ (j : ℕ). stands_before (commit_at done j) (commit_at done x)) b left i.0 (not-true (blocked done left x) f.2), i.1) in
        subst (Lined left) (sym (ap (λ o. then_those o (λ i. lined done n (without i left))) f.3))
        ((follow, ih.0), IsPermutation-trans left (x ∷ rest) (x ∷ ls) front (IsPermutation-cons x rest ls ih.1))
