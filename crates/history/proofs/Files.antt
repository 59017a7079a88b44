-- How many whole records there are in the first bytes of a file.
use Rattle.std.proofs.Common.{ℕ, zero, suc, ◌-◌, ◌≤◌, leb, List, [], ◌∷◌, length, take, arith}
use Rattle.std.proofs.lemmas.Bool.{cond_both, leb-false}
use Rattle.model.specs.Transactions.{Txn}
use Rattle.history.specs.Engine.{record_size, bytes_in, whole_in}

pub whole-within : (p : ℕ) (ts : List Txn) → whole_in p ts ≤ length ts
unfolding whole_in
whole-within p [] = omega arith
whole-within p (t ∷ ts) =
    cond_both (leb (record_size t) p) (suc (whole_in (p - record_size t) ts)) 0 (λ k. k ≤ suc (length ts)) (λ _. omega (arith, whole-within (p - record_size t) ts)) (λ _. omega arith)

-- the first n records are whole if their bytes are there
pub whole-counts : (n p : ℕ) (ts : List Txn) → n ≤ length ts → bytes_in (take n ts) ≤ p → n ≤ whole_in p ts
unfolding whole_in bytes_in
whole-counts zero p ts l h = omega arith
whole-counts (suc n) p [] l h = absurd (omega arith)
whole-counts (suc n) p (t ∷ ts) l h =
    cond_both (leb (record_size t) p) (suc (whole_in (p - record_size t) ts)) 0 (λ k. suc n ≤ k)
    (λ _. omega (arith, whole-counts n (p - record_size t) ts (omega arith) (omega arith)))
    (λ e. absurd (omega (arith, leb-false (record_size t) p e)))
