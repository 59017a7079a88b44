-- Sums over the keys.
use Rattle.std.proofs.Common.{◌≡◌, ℕ, zero, suc, ◌+◌, ◌<◌, ◌≤◌, ◌≢◌, List, [], length, refl, ap, subst, inl, inr, arith}
use Rattle.std.proofs.lemmas.Bool.{cases_lt}
use Rattle.model.specs.Versions.{Version}
use Rattle.versions.specs.Chain.{sum_to, total}

sum_le : (n : ℕ) (f g : ℕ → ℕ) → ((k : ℕ) → k < n → f k ≤ g k) → sum_to n f ≤ sum_to n g
unfolding sum_to
sum_le zero f g h = omega arith
sum_le (suc n) f g h =
    let a : sum_to n f ≤ sum_to n g = sum_le n f g (λ k l. h k (omega arith)) in
    let b : f n ≤ g n = h n (omega arith) in omega arith

-- x more at one place is x more in all
pub sum_fits : (n j x : ℕ) (f g : ℕ → ℕ) → j < n → f j + x ≤ g j → ((k : ℕ) → k < n → f k ≤ g k) → sum_to n f + x ≤ sum_to n g
unfolding sum_to
sum_fits zero j x f g l e h = let z : ⊥ = omega arith in elim z [ ]
sum_fits (suc n) j x f g l e h =
    elim (cases_lt j n) [
      | inl lt ↦
          let a : sum_to n f + x ≤ sum_to n g = sum_fits n j x f g lt e (λ k m. h k (omega arith)) in
          let b : f n ≤ g n = h n (omega arith) in omega arith
      | inr ge ↦
          let s : j ≡ n = omega arith in
          let a : sum_to n f ≤ sum_to n g = sum_le n f g (λ k m. h k (omega arith)) in
          let b : f n + x ≤ g n = subst (λ (y : ℕ). f y + x ≤ g y) s e in omega arith
    ]

pub sum_same : (n : ℕ) (f g : ℕ → ℕ) → ((k : ℕ) → k < n → f k ≡ g k) → sum_to n f ≡ sum_to n g
sum_same n f g h =
    let a : sum_to n f ≤ sum_to n g = sum_le n f g (λ k l. omega (arith, h k l)) in
    let b : sum_to n g ≤ sum_to n f = sum_le n g f (λ k l. omega (arith, h k l)) in omega arith

pub sum_one : (n j : ℕ) (f g : ℕ → ℕ) → j < n → g j ≡ f j + 1 → ((k : ℕ) → k < n → k ≢ j → g k ≡ f k) → sum_to n g ≡ sum_to n f + 1
unfolding sum_to
sum_one zero j f g l e h = let z : ⊥ = omega arith in elim z [ ]
sum_one (suc n) j f g l e h =
    elim (cases_lt j n) [
      | inl lt ↦
          let a : sum_to n g ≡ sum_to n f + 1 = sum_one n j f g lt e (λ k m. h k (omega arith)) in
          let b : g n ≡ f n = h n (omega arith) (λ x. omega arith) in omega arith
      | inr ge ↦
          let s : j ≡ n = omega arith in
          let a : sum_to n g ≡ sum_to n f = sum_same n g f (λ k m. h k (omega arith) (λ x. omega arith)) in
          let b : g n ≡ f n + 1 = subst (λ (x : ℕ). g x ≡ f x + 1) s e in omega arith
    ]

sum_none : (n : ℕ) → sum_to n (λ k. 0) ≡ 0
unfolding sum_to
sum_none zero = refl
sum_none (suc n) = let a : sum_to n (λ k. 0) ≡ 0 = sum_none n in omega arith

pub total-same : (f g : ℕ → List Version) → ((k : ℕ) → k < 4096 → f k ≡ g k) → total f ≡ total g
unfolding total
total-same f g h = sum_same 4096 (λ k. length (f k)) (λ k. length (g k)) (λ k l. ap length (h k l))

sum_ones : (n : ℕ) → sum_to n (λ k. 1) ≡ n
unfolding sum_to
sum_ones zero = refl
sum_ones (suc n) = let a : sum_to n (λ k. 1) ≡ n = sum_ones n in omega arith

pub total-few : (f : ℕ → List Version) → ((k : ℕ) → k < 4096 → length (f k) ≤ 1) → total f ≤ 4096
unfolding total
total-few f h = let a : sum_to 4096 (λ k. length (f k)) ≤ sum_to 4096 (λ k. 1) = sum_le 4096 (λ k. length (f k)) (λ k. 1) h in omega (arith, sum_ones 4096)

pub total-none : (f : ℕ → List Version) → ((k : ℕ) → f k ≡ []) → total f ≡ 0
unfolding total
total-none f h = let e : sum_to 4096 (λ k. length (f k)) ≡ sum_to 4096 (λ k. 0) = sum_same 4096 (λ k. length (f k)) (λ k. 0) (λ k l. ap length (h k)) in omega (arith, sum_none 4096)
