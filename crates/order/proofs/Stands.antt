-- Who has to stand before whom, by reasons, and that the first of those left, or one that it waits for, is free.
use Rattle.std.proofs.Common.{◌≡◌, ℕ, zero, suc, ◌+◌, ◌<◌, ◌≤◌, Bool, true, false, not, ◌||◌, eqb, ltb, leb, ◌⊎◌, List, [], ◌∷◌, length, get_or, refl, ap, ◌∙◌, inl, inr, arith}
use Rattle.std.proofs.lemmas.Bool.{cases_Bool, and_parts, and_from, or_cases, or_left, or_right, le-leb, leb-true, ltb-true, lt-ltb, eqb-false, ne_eqb, not-true, not_from_false}
use Rattle.model.specs.declared.Level.TheVariants.{Latest}
use Rattle.model.specs.Lists.{any}
use Rattle.model.specs.Transactions.{Txn, reads_some, both_write, is_serial, is_latest, began}
use Rattle.model.specs.Commits.{Commit, numbered, commits, passes, is_pivot, has_pivot}
use Rattle.conflicts.specs.Laws.{nth, Allowed}
use Rattle.conflicts.proofs.Allowing.{first_wins, no_pivot}
use Rattle.conflicts.proofs.Passing.{of_earlier}
use Rattle.order.specs.Order.{wrote_first, was_seen, did_not_see, stands_before, commit_at, blocked, AllSerial}
use Rattle.order.proofs.Members.{In, clash, any_some, Asc}

pub data Stands (a b : Commit) : Type 0 where
  wrote : a.number < b.number → both_write b.txn.writes a.txn.writes ≡ true → Stands a b
  seen : a.number < b.txn.begin → reads_some b.txn.reads a.txn.writes ≡ true → Stands a b
  missed : (a.number ≡ b.number → ⊥) → a.txn.begin ≤ b.number → reads_some a.txn.reads b.txn.writes ≡ true → Stands a b

module _ (a b : Commit) where
  abbrev apart : Bool
  apart = not (eqb a.number b.number)

  pub reasons : stands_before a b ≡ true → Stands a b
  reasons h = go (or_cases (wrote_first a b) (was_seen a b || did_not_see a b) p.1)
    where
      p : (apart ≡ true) × ((wrote_first a b || (was_seen a b || did_not_see a b)) ≡ true)
      p = and_parts apart (wrote_first a b || (was_seen a b || did_not_see a b)) h

      read : (was_seen a b ≡ true) ⊎ (did_not_see a b ≡ true) → Stands a b
      read (inl e) = let q = and_parts (ltb a.number b.txn.begin) (reads_some b.txn.reads a.txn.writes) e in seen (ltb-true _ _ q.0) q.1
      read (inr e) =
          let q = and_parts (leb a.txn.begin b.number) (reads_some a.txn.reads b.txn.writes) e in
          missed (eqb-false a.number b.number (not-true (eqb a.number b.number) p.0)) (leb-true _ _ q.0) q.1

      go : (wrote_first a b ≡ true) ⊎ ((was_seen a b || did_not_see a b) ≡ true) → Stands a b
      go (inl e) = let q = and_parts (ltb a.number b.number) (both_write b.txn.writes a.txn.writes) e in wrote (ltb-true _ _ q.0) q.1
      go (inr e) = read (or_cases (was_seen a b) (did_not_see a b) e)

  for_a_reason : (a.number ≡ b.number → ⊥) → (wrote_first a b || (was_seen a b || did_not_see a b)) ≡ true → stands_before a b ≡ true
  for_a_reason n h = and_from apart (wrote_first a b || (was_seen a b || did_not_see a b)) (not_from_false (eqb a.number b.number) (ne_eqb a.number b.number n)) h

  pub stands-wrote : a.number < b.number → both_write b.txn.writes a.txn.writes ≡ true → stands_before a b ≡ true
  stands-wrote l h = for_a_reason (λ e. omega arith) (or_left (wrote_first a b) (was_seen a b || did_not_see a b) (and_from _ _ (lt-ltb a.number b.number l) h))

  pub stands-seen : (a.number ≡ b.number → ⊥) → a.number < b.txn.begin → reads_some b.txn.reads a.txn.writes ≡ true → stands_before a b ≡ true
  stands-seen n l h = for_a_reason n (or_right (wrote_first a b) (was_seen a b || did_not_see a b) (or_left (was_seen a b) (did_not_see a b) (and_from _ _ (lt-ltb a.number b.txn.begin l) h)))

  pub stands-missed : (a.number ≡ b.number → ⊥) → a.txn.begin ≤ b.number → reads_some a.txn.reads b.txn.writes ≡ true → stands_before a b ≡ true
  stands-missed n l h = for_a_reason n (or_right (wrote_first a b) (was_seen a b || did_not_see a b) (or_right (was_seen a b) (did_not_see a b) (and_from _ _ (le-leb a.txn.begin b.number l) h)))

any-numbered : (p : Commit → Bool) (n : ℕ) (ts : List Txn) (i : ℕ) (d : Txn) → i < length ts → p (record { number = n + i; txn = get_or ts i d }) ≡ true → any p (numbered n ts) ≡ true
unfolding numbered
any-numbered p n [] i d l h = absurd (omega arith)
any-numbered p n (t ∷ ts) zero d l h =
    let e : n ≡ n + 0 = omega arith in
    or_left (p (record { number = n; txn = t })) (any p (numbered (suc n) ts)) (ap (λ k. p (record { number = k; txn = t })) e ∙ h)
any-numbered p n (t ∷ ts) (suc i) d l h =
    let e : suc n + i ≡ n + suc i = omega arith in
    or_right (p (record { number = n; txn = t })) (any p (numbered (suc n) ts)) (any-numbered p (suc n) ts i d (omega arith) (ap (λ k. p (record { number = k; txn = get_or ts i d })) e ∙ h))

module _ (done : List Txn) (allowed : Allowed done) (serials : AllSerial done) where
  abbrev Done : ℕ → Type 0
  Done i = i < length done

  pub serial-at : (i : ℕ) → Done i → is_serial (nth done i).level ≡ true
  serial-at i l = ap is_serial (serials i l)

  pub not-latest-at : (i : ℕ) → Done i → is_latest (nth done i).level ≡ false
  not-latest-at i l = ap is_latest (serials i l)

  any-commit : (p : Commit → Bool) (i : ℕ) → Done i → p (commit_at done i) ≡ true → any p (commits done) ≡ true
  any-commit p i l h = let e : 0 + i ≡ i = omega arith in any-numbered p 0 done i (began Latest 0) l (ap (λ k. p (record { number = k; txn = nth done i })) e ∙ h)

  pass : (i j : ℕ) → Done i → Done j → (nth done i).begin ≤ j → (nth done j).begin ≤ i → (i ≡ j → ⊥) → reads_some (nth done i).reads (nth done j).writes ≡ true → passes (commit_at done i) (commit_at done j) ≡ true
  pass i j li lj bi bj n h =
      of_earlier (commit_at done i) (commit_at done j) (serial-at i li) (serial-at j lj) (le-leb _ _ bi) (ne_eqb i j n)
      ∙ and_from _ _ (le-leb (nth done j).begin i bj) h

  -- where p has to stand before t, the lowest number, nobody has to stand before p
  waits_once : (t p q : ℕ) → Done t → Done p → Done q → t ≤ p → t ≤ q → Stands (commit_at done p) (commit_at done t) → Stands (commit_at done q) (commit_at done p) → ⊥
  waits_once t p q lt lp lq hp hq (wrote l h) s = omega arith
  waits_once t p q lt lp lq hp hq (seen l h) s = omega (arith, (allowed t lt).1)
  waits_once t p q lt lp lq hp hq (missed n l h) (wrote m w) =
      clash _ w (first_wins done allowed q p m lp (omega arith) (not-latest-at p lp))
  waits_once t p q lt lp lq hp hq (missed n l h) (seen m w) = omega arith
  waits_once t p q lt lp lq hp hq (missed n l h) (missed o m w) =
      let ds = commits done in
      let c = commit_at done p in
      let out : any (passes c) ds ≡ true = any-commit (passes c) t lt (pass p t lp lt l (omega (arith, (allowed t lt).1)) n h) in
      let into : any (λ (d : Commit). passes d c) ds ≡ true = any-commit (λ (d : Commit). passes d c) q lq (pass q p lq lp m (omega arith) o w) in
      clash (has_pivot done) (any-commit (is_pivot ds) p lp (and_from (any (passes c) ds) (any (λ (d : Commit). passes d c) ds) out into)) (no_pivot done allowed)

  -- among those left one has nobody to wait for
  pub one_free : (left : List ℕ) → Asc left → ((i : ℕ) → In i left → Done i) → 0 < length left → (i : ℕ) × In i left × (blocked done left i ≡ false)
  one_free [] a b h = absurd (omega arith)
  one_free (t ∷ rest) a b h = first (cases_Bool (blocked done (t ∷ rest) t))
    where
      low : (i : ℕ) → In i (t ∷ rest) → t ≤ i
      low i (inl e) = omega arith
      low i (inr m) = omega (arith, a.0 i m)

      second : (p : ℕ) → In p (t ∷ rest) → stands_before (commit_at done p) (commit_at done t) ≡ true → (blocked done (t ∷ rest) p ≡ true) ⊎ (blocked done (t ∷ rest) p ≡ false) → (i : ℕ) × In i (t ∷ rest) × (blocked done (t ∷ rest) i ≡ false)
      second p m e (inr f) = (p, m, f)
      second p m e (inl f) =
          let q = any_some (λ (j : ℕ). stands_before (commit_at done j) (commit_at done p)) (t ∷ rest) f in
          absurd (waits_once t p q.0 (b t (inl refl)) (b p m) (b q.0 q.1) (low p m) (low q.0 q.1) (reasons _ _ e) (reasons _ _ q.2))

      first : (blocked done (t ∷ rest) t ≡ true) ⊎ (blocked done (t ∷ rest) t ≡ false) → (i : ℕ) × In i (t ∷ rest) × (blocked done (t ∷ rest) i ≡ false)
      first (inr f) = (t, inl refl, f)
      first (inl f) =
          let p = any_some (λ (j : ℕ). stands_before (commit_at done j) (commit_at done t)) (t ∷ rest) f in
          second p.0 p.1 p.2 (cases_Bool (blocked done (t ∷ rest) p.0))
