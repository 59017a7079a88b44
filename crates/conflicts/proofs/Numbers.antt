-- Commits and their numbers.
use Rattle.std.proofs.Common.{◌≡◌, ℕ, suc, ◌+◌, ◌<◌, ◌≤◌, List, [], ◌∷◌, ◌++◌, length, ap, ◌∙◌, arith}
use Rattle.std.specs.List.{AllByRecursion}
use Rattle.model.specs.Transactions.{Txn}
use Rattle.model.specs.Commits.{Commit, numbered, commits}
use Rattle.conflicts.specs.Held.{Timely}

abbrev pub commit : ℕ → Txn → Commit
commit n t = record { number = n; txn = t }

numbered_push : (n : ℕ) (ts : List Txn) (t : Txn) → numbered n (ts ++ (t ∷ [])) ≡ numbered n ts ++ (commit (n + length ts) t ∷ [])
unfolding numbered
numbered_push n [] t = let e : n ≡ n + 0 = omega arith in ap (λ k. commit k t ∷ []) e
numbered_push n (u ∷ ts) t =
    let e : suc n + length ts ≡ n + suc (length ts) = omega arith in
    ap (λ l. commit n u ∷ l) (numbered_push (suc n) ts t ∙ ap (λ k. numbered (suc n) ts ++ (commit k t ∷ [])) e)

pub commits_push : (ts : List Txn) (t : Txn) → commits (ts ++ (t ∷ [])) ≡ commits ts ++ (commit (length ts) t ∷ [])
commits_push ts t = let e : 0 + length ts ≡ length ts = omega arith in numbered_push 0 ts t ∙ ap (λ k. commits ts ++ (commit k t ∷ [])) e

-- committed before number n, and begun by then
abbrev pub Before : ℕ → Commit → Type 0
Before n a = (a.number < n) × (a.txn.begin ≤ n)

before-from : (k n : ℕ) (ts : List Txn) → Timely k ts → k + length ts ≤ n → AllByRecursion (Before n) (numbered k ts)
unfolding numbered
before-from k n [] h l = tt
before-from k n (t ∷ ts) h l = let b = h.0 in ((omega arith, omega arith), before-from (suc k) n ts h.1 (omega arith))

pub before-all : (ts : List Txn) → Timely 0 ts → AllByRecursion (Before (length ts)) (commits ts)
before-all ts h = before-from 0 (length ts) ts h (omega arith)

timely-from : (k : ℕ) (ts : List Txn) (t : Txn) → Timely k ts → t.begin ≤ k + length ts → Timely k (ts ++ (t ∷ []))
timely-from k [] t h l = (omega arith, tt)
timely-from k (u ∷ ts) t h l = (h.0, timely-from (suc k) ts t h.1 (omega arith))

pub timely_push : (ts : List Txn) (t : Txn) → Timely 0 ts → t.begin ≤ length ts → Timely 0 (ts ++ (t ∷ []))
timely_push ts t h l = timely-from 0 ts t h (omega arith)
