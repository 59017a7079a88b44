-- What a sweep leaves is no more than there was.
use Rattle.std.proofs.Common.{◌≡◌, ℕ, ◌+◌, ◌<◌, ◌≤◌, Bool, true, false, cond, ltb, List, [], ◌∷◌, length, refl, ap, inl, inr, arith}
use Rattle.std.proofs.lemmas.Bool.{cases_lt}
use Rattle.model.specs.Versions.{Version, swept}
use Rattle.versions.specs.Chain.{total}
use Rattle.versions.proofs.Sums.{sum_fits}

swept_shorter : (floor : ℕ) (vs : List Version) → length (swept floor vs) ≤ length vs
unfolding swept
swept_shorter floor [] = omega arith
swept_shorter floor (v ∷ vs) =
    elim (ltb v.number floor) as (λ (b : Bool). length (cond b (v ∷ []) (v ∷ swept floor vs)) ≤ length (v ∷ vs))
    [ true ↦ omega arith | false ↦ let h : length (swept floor vs) ≤ length vs = swept_shorter floor vs in omega arith ]

pub swept_nothing : (floor : ℕ) → swept floor [] ≡ []
unfolding swept
swept_nothing floor = refl

-- where the keys below key are copied, and nothing of the others, one key more makes no more than there was
pub copies_fit : (to from : ℕ → List Version) (floor key : ℕ) → key < 4096
    → ((k : ℕ) → k < key → to k ≡ swept floor (from k)) → ((k : ℕ) → key ≤ k → to k ≡ [])
    → total to + length (swept floor (from key)) ≤ total from
unfolding total
copies_fit to from floor key lt done left =
    let each : (k : ℕ) → k < 4096 → length (to k) ≤ length (from k) = λ k h.
    elim (cases_lt k key) [
      | inl lo ↦ let e : length (to k) ≡ length (swept floor (from k)) = ap length (done k lo) in omega (arith, swept_shorter floor (from k))
      | inr hi ↦ let e : length (to k) ≡ length {A = Version} [] = ap length (left k hi) in omega arith
    ] in
    let none : length (to key) ≡ 0 = ap length (left key (omega arith)) in
    sum_fits 4096 key (length (swept floor (from key))) (λ k. length (to k)) (λ k. length (from k)) lt (omega (arith, none, swept_shorter floor (from key))) each
