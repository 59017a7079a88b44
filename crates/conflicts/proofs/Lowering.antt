-- The first commit that passes a test has the lowest number.
use Rattle.std.proofs.Common.{◌≡◌, ℕ, zero, suc, ◌+◌, ◌<◌, Bool, true, false, cond, List, [], ◌∷◌, length, is_some, Some, None, Option, sym, refl, ap, ◌∙◌, arith, MatchOption}
use Rattle.model.specs.Lists.{any}
use Rattle.model.specs.Transactions.{Txn}
use Rattle.model.specs.Commits.{Commit, numbered, commits}
use Rattle.conflicts.specs.Marks.{lowest}
use Rattle.conflicts.specs.Held.{commit_number}
use Rattle.conflicts.specs.Laws.{nth, commit_at, Lowest}
use Rattle.conflicts.proofs.Firsts.{some_lowest, lowest_step}
use Rattle.conflicts.proofs.Numbers.{commit}

-- the i-th of those numbered from n on passes the test, and none before it does
record First (p : Commit → Bool) (n : ℕ) (ts : List Txn) (k : ℕ) : Type 0 where
  place : ℕ
  numbers : k ≡ n + place
  within : place < length ts
  here : p (commit k (nth ts place)) ≡ true
  before : (j : ℕ) → j < place → p (commit (n + j) (nth ts j)) ≡ false

first-from : (p : Commit → Bool) (n : ℕ) (ts : List Txn) (k : ℕ) → lowest commit_number p (numbered n ts) ≡ Some k → First p n ts k
unfolding numbered
first-from p n [] k e = let z : ◌≡◌ {A = ℕ} 0 1 = cc in absurd (omega arith)
first-from p n (t ∷ ts) k e = go (p (commit n t)) refl (sym (lowest_step commit_number p (commit n t) (numbered (suc n) ts)) ∙ e) (first-from p (suc n) ts k)
  where
    later : p (commit n t) ≡ false → (m : First p (suc n) ts k) (j : ℕ) → j < suc m.place → p (commit (n + j) (nth (t ∷ ts) j)) ≡ false
    later q m zero l = let z : n ≡ n + 0 = omega arith in ap (λ i. p (commit i t)) (sym z) ∙ q
    later q m (suc j) l = let z : suc n + j ≡ n + suc j = omega arith in ap (λ i. p (commit i (nth ts j))) (sym z) ∙ m.before j (omega arith)

    go : (b : Bool) → p (commit n t) ≡ b → cond b (Some n) (lowest commit_number p (numbered (suc n) ts)) ≡ Some k → (lowest commit_number p (numbered (suc n) ts) ≡ Some k → First p (suc n) ts k) → First p n (t ∷ ts) k
    go true q e ih =
        let z : k ≡ n = cc in
        record { place = 0; numbers = omega arith; within = omega arith; here = ap (λ i. p (commit i t)) z ∙ q; before = λ j l. absurd (omega arith) }
    go false q e ih =
        let m = ih e in
        record { place = suc m.place; numbers = omega (arith, m.numbers); within = omega (arith, m.within); here = m.here; before = later q m }

pub lowest-kept_is : Lowest
lowest-kept_is done p = go (lowest commit_number p (commits done)) refl
  where
    go : (o : Option ℕ) → lowest commit_number p (commits done) ≡ o → MatchOption o (any p (commits done) ≡ false) (λ k. (k < length done) × (p (commit_at done k) ≡ true) × ((j : ℕ) → j < k → p (commit_at done j) ≡ false))
    go None e = sym (some_lowest commit_number p (commits done)) ∙ ap is_some e
    go (Some k) e =
        let m = first-from p 0 done k e in
        let z : m.place ≡ k = omega (arith, m.numbers) in (
          omega (arith, m.within),
          ap (λ i. p (commit k (nth done i))) (sym z) ∙ m.here,
          λ j l. let y : 0 + j ≡ j = omega arith in ap (λ i. p (commit i (nth done j))) (sym y) ∙ m.before j (omega arith),
        )
