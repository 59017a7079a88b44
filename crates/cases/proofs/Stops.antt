-- How many commits a stop may leave.
use Rattle.std.proofs.Common.{◌≡◌, ℕ, zero, suc, ◌+◌, ◌-◌, ◌≤◌, leb, List, [], ◌∷◌, length, take, refl, ap, ◌∙◌, arith, length-take}
use lib.ListN.{length-map}
use Rattle.std.proofs.lemmas.Bool.{cond-true, cond-false, le-leb, lt-leb}
use Rattle.model.specs.Transactions.{Txn}
use Rattle.history.specs.Engine.{txn_of, txns, count, record_size, bytes_in, whole_in, Event, led}
use Rattle.history.proofs.Files.{whole-within}
use Rattle.history.proofs.Promising.{stop_keeps}
use Rattle.cases.specs.Rows.{synced_bytes, left_at, Leaves}

-- the bytes of the first n records hold n whole ones
whole-exactly : (n : ℕ) (ts : List Txn) → n ≤ length ts → whole_in (bytes_in (take n ts)) ts ≡ n
unfolding whole_in bytes_in
whole-exactly zero [] l = refl
whole-exactly zero (t ∷ ts) l = cond-false (leb (record_size t) 0) (suc (whole_in (0 - record_size t) ts)) 0 (lt-leb (record_size t) 0 (omega arith))
whole-exactly (suc n) [] l = absurd (omega arith)
whole-exactly (suc n) (t ∷ ts) l =
    let b = bytes_in (take n ts) in
    let p = record_size t + b in
    let rest : p - record_size t ≡ b = omega arith in
    cond-true (leb (record_size t) p) (suc (whole_in (p - record_size t) ts)) 0 (le-leb (record_size t) p (omega arith))
    ∙ ap (λ (q : ℕ). suc (whole_in q ts)) rest
    ∙ ap suc (whole-exactly n ts (omega arith))

-- more records have more bytes
more_bytes : (m n : ℕ) (ts : List Txn) → m ≤ n → bytes_in (take m ts) ≤ bytes_in (take n ts)
unfolding bytes_in
more_bytes zero n ts l = omega arith
more_bytes (suc m) zero ts l = absurd (omega arith)
more_bytes (suc m) (suc n) [] l = omega arith
more_bytes (suc m) (suc n) (t ∷ ts) l = omega (arith, more_bytes m n ts (omega arith))

module _ (h : List Event) where
  all_there : length (txns (led h)) ≡ count (led h)
  all_there = length-map (led h).done txn_of

  left-whole : (p : ℕ) → synced_bytes (led h) ≤ p → left_at h p ≡ whole_in p (txns (led h))
  left-whole p l =
      let w : whole_in p (txns (led h)) ≤ count (led h) = omega (arith, whole-within p (txns (led h)), all_there) in
      omega (arith, w, ap length (stop_keeps h p l).0, length-take (whole_in p (txns (led h))) (led h).done)

  -- a stop leaves the synced commits at least, and may leave any number from these to all
  pub stop_leaves : Leaves h (led h).synced (count (led h))
  stop_leaves = (
    (λ p l. (
      omega (arith, left-whole p l, (stop_keeps h p l).1),
      omega (arith, left-whole p l, whole-within p (txns (led h)), all_there),
    )),
    λ n low high.
        let p = bytes_in (take n (txns (led h))) in
        let l : synced_bytes (led h) ≤ p = more_bytes (led h).synced n (txns (led h)) low in
        (p, l, left-whole p l ∙ whole-exactly n (txns (led h)) (omega (arith, all_there))),
  )
