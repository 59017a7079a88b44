-- The lowest begin of those under way whose level counts.
use Rattle.std.proofs.Common.{◌≡◌, ℕ, zero, suc, ◌≤◌, min, Bool, true, List, [], ◌∷◌, get_or, Some, None, Option, refl, ap, arith}
use Rattle.std.proofs.lemmas.Bool.{cond_both, cond-true}
use Rattle.model.specs.declared.Level.{Level}
use Rattle.history.specs.Engine.{Life, lower, floor_in}
use Rattle.history.proofs.Lists.{none_some}

module _ (p : Level → Bool) where
  lower-below : (n : ℕ) (o : Option Life) → lower p n o ≤ n
  lower-below n None = omega arith
  lower-below n (Some l) = cond_both (p l.txn.level) (min n l.txn.begin) n (λ x. x ≤ n) (λ _. omega arith) (λ _. omega arith)

  lower-counts : (n : ℕ) (o : Option Life) (l : Life) → o ≡ Some l → p l.txn.level ≡ true → lower p n o ≤ l.txn.begin
  lower-counts n None l e h = absurd (none_some e)
  lower-counts n (Some k) l e h =
      let a : k ≡ l = cc in
      let b : p k.txn.level ≡ true = cc in
      let c : k.txn.begin ≡ l.txn.begin = ap (λ (x : Life). x.txn.begin) a in
      let d = cond-true (p k.txn.level) (min n k.txn.begin) n b in
      omega arith

  lower-least : (m n : ℕ) (o : Option Life) → m ≤ n → ((l : Life) → o ≡ Some l → p l.txn.level ≡ true → m ≤ l.txn.begin) → m ≤ lower p n o
  lower-least m n None l h = l
  lower-least m n (Some k) l h = cond_both (p k.txn.level) (min n k.txn.begin) n (λ x. m ≤ x) (λ e. omega (arith, h k refl e)) (λ _. l)

  pub floor-below : (n : ℕ) (s : List (Option Life)) → floor_in p n s ≤ n
  unfolding floor_in
  floor-below n [] = omega arith
  floor-below n (o ∷ s) = omega (arith, floor-below (lower p n o) s, lower-below n o)

  pub floor-counts : (n : ℕ) (s : List (Option Life)) (i : ℕ) (l : Life) → get_or s i None ≡ Some l → p l.txn.level ≡ true → floor_in p n s ≤ l.txn.begin
  unfolding floor_in
  floor-counts n [] i l e h = absurd (none_some e)
  floor-counts n (o ∷ s) zero l e h = omega (arith, floor-below (lower p n o) s, lower-counts n o l e h)
  floor-counts n (o ∷ s) (suc i) l e h = floor-counts (lower p n o) s i l e h

  pub floor-least : (m n : ℕ) (s : List (Option Life)) → m ≤ n → ((i : ℕ) (l : Life) → get_or s i None ≡ Some l → p l.txn.level ≡ true → m ≤ l.txn.begin) → m ≤ floor_in p n s
  unfolding floor_in
  floor-least m n [] l h = l
  floor-least m n (o ∷ s) l h = floor-least m (lower p n o) s (lower-least m n o l (λ k. h 0 k)) (λ i. h (suc i))
