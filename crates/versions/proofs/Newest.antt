-- The newest version of a key says whether it was written since.
use Rattle.std.proofs.Common.{◌≡◌, ℕ, suc, ◌+◌, ◌<◌, ◌≤◌, Bool, true, false, cond, ◌&&◌, ◌||◌, ltb, leb, List, [], ◌∷◌, length, sym, refl, ap, ◌∙◌, arith}
use Rattle.std.proofs.lemmas.Bool.Decides.{nat_tests}
use Rattle.std.proofs.lemmas.Bool.{or_parts, leb-false, lt-ltb}
use Rattle.model.specs.declared.Entry.{Entry}
use Rattle.model.specs.Lists.{any}
use Rattle.model.specs.Transactions.{Txn, empty, puts, names, both_write}
use Rattle.model.specs.Commits.{Commit, numbered, commits, unseen, wrote_since}
use Rattle.model.specs.Versions.{Version, committed, versions_from, versions, swept, newer}
use Rattle.model.specs.Transactions.{outside}
use Rattle.versions.specs.Laws.{written_since, some_newer, NewestDecides}

-- the newest stays
newer-swept : (b floor : ℕ) (vs : List Version) → newer b (swept floor vs) ≡ newer b vs
unfolding swept
newer-swept b floor [] = refl
newer-swept b floor (v ∷ vs) = grind (arith, nat_tests)

abbrev Below : ℕ → List Version → Type 0
Below n [] = Unit {0}
Below n (v ∷ vs) = v.number < n

below-committed : (es : List Entry) (k n : ℕ) (vs : List Version) → Below n vs → Below (suc n) (committed n es k vs)
below-committed es k n vs h = go (names k es) vs h
  where
    go : (b : Bool) (vs : List Version) → Below n vs → Below (suc n) (cond b (record { number = n; value = puts es empty k } ∷ vs) vs)
    go true vs h = omega arith
    go false [] h = tt
    go false (v ∷ vs) h = omega arith

below-from : (ts : List Txn) (k n m : ℕ) (vs : List Version) → Below n vs → m ≡ n + length ts → Below m (versions_from k n vs ts)
unfolding versions_from
below-from [] k n m [] h e = tt
below-from [] k n m (v ∷ vs) h e = omega arith
below-from (t ∷ ts) k n m vs h e = below-from ts k (suc n) m (committed n t.writes k vs) (below-committed t.writes k n vs h) (omega arith)

-- where the newest is below the floor, it alone stays
swept-one : (vs : List Version) (n f : ℕ) → Below n vs → n ≤ f → length (swept f vs) ≤ 1
unfolding swept
swept-one [] n f h l = omega arith
swept-one (v ∷ vs) n f h l = let e : ltb v.number f ≡ true = lt-ltb v.number f (omega arith) in rw e (omega arith)

pub one-stays : (done : List Txn) (k f : ℕ) → length done ≤ f → length (swept f (versions k done)) ≤ 1
one-stays done k f l = swept-one (versions k done) (length done) f (below-from done k 0 (length done) [] tt (omega arith)) l

newer-committed : (b : ℕ) (es : List Entry) (k n : ℕ) (vs : List Version) → Below n vs → newer b (committed n es k vs) ≡ ((leb b n && names k es) || newer b vs)
newer-committed b es k n vs h = go (names k es) (leb b n) refl vs h
  where
    old : (vs : List Version) → Below n vs → leb b n ≡ false → newer b vs ≡ false
    old [] h e = refl
    old (v ∷ vs) h e = grind (arith, nat_tests)

    go : (c l : Bool) → leb b n ≡ l → (vs : List Version) → Below n vs → newer b (cond c (record { number = n; value = puts es empty k } ∷ vs) vs) ≡ ((l && c) || newer b vs)
    go true true e vs h = e
    go true false e vs h = e ∙ sym (old vs h e)
    go false true e vs h = refl
    go false false e vs h = refl

-- a commit that was not seen wrote the key
abbrev wrote : ℕ → ℕ → Commit → Bool
wrote b k d = unseen b d && names k d.txn.writes

or_swap : (x y z : Bool) → (x || (y || z)) ≡ ((y || x) || z)
or_swap true true z = refl
or_swap true false z = refl
or_swap false true z = refl
or_swap false false z = refl

or_no : (x : Bool) → (x || false) ≡ x
or_no true = refl
or_no false = refl

newer-from : (ts : List Txn) (b k n : ℕ) (vs : List Version) → Below n vs → newer b (versions_from k n vs ts) ≡ (any (wrote b k) (numbered n ts) || newer b vs)
unfolding versions_from numbered
newer-from [] b k n vs h = refl
newer-from (t ∷ ts) b k n vs h =
    newer-from ts b k (suc n) (committed n t.writes k vs) (below-committed t.writes k n vs h)
    ∙ (ap (λ r. any (wrote b k) (numbered (suc n) ts) || r) (newer-committed b t.writes k n vs h)
    ∙ or_swap (any (wrote b k) (numbered (suc n) ts)) (leb b n && names k t.writes) (newer b vs))

pub newer-by : (done : List Txn) (b k floor : ℕ) → newer b (swept floor (versions k done)) ≡ written_since b k done
newer-by done b k floor = newer-swept b floor (versions k done) ∙ (newer-from done b k 0 [] tt ∙ or_no _)

-- a commit that was not seen wrote one of the keys
abbrev wrote_some : ℕ → List Entry → Commit → Bool
wrote_some b es d = unseen b d && both_write es d.txn.writes

-- the two quantifiers change places
one_key : (b : ℕ) (e : Entry) (es : List Entry) (ds : List Commit) → any (wrote_some b (e ∷ es)) ds ≡ (any (wrote b e.key) ds || any (wrote_some b es) ds)
one_key b e es [] = refl
one_key b e es (d ∷ ds) = ap (λ r. wrote_some b (e ∷ es) d || r) (one_key b e es ds)
    ∙ regroup (unseen b d) (names e.key d.txn.writes) (both_write es d.txn.writes) (any (wrote b e.key) ds) (any (wrote_some b es) ds)
  where
    regroup : (a p q x y : Bool) → ((a && (p || q)) || (x || y)) ≡ (((a && p) || x) || ((a && q) || y))
    regroup false p q x y = refl
    regroup true true q x y = refl
    regroup true false true true y = refl
    regroup true false false true y = refl
    regroup true false true false y = refl
    regroup true false false false y = refl

none : (b : ℕ) (ds : List Commit) → any (wrote_some b []) ds ≡ false
none b [] = refl
none b (d ∷ ds) = ap (λ r. (unseen b d && false) || r) (none b ds) ∙ no_matter (unseen b d)
  where
    no_matter : (a : Bool) → ((a && false) || false) ≡ false
    no_matter true = refl
    no_matter false = refl

pub newest_decides : NewestDecides
newest_decides done b floor [] = none b (commits done)
newest_decides done b floor (e ∷ es) = one_key b e es (commits done) ∙ (λ i. sym (newer-by done b e.key floor) i || newest_decides done b floor es i)

-- what holds of the versions of each key that there is, holds of the keys of writes
newer-same : (b : ℕ) (vs ws : ℕ → List Version) (es : List Entry) → outside es ≡ false → ((k : ℕ) → k < 4096 → vs k ≡ ws k) → some_newer b vs es ≡ some_newer b ws es
newer-same b vs ws [] out h = refl
newer-same b vs ws (e ∷ es) out h =
    let p = or_parts (leb 4096 e.key) (outside es) out in
    λ i. newer b (h e.key (leb-false 4096 e.key p.0) i) || newer-same b vs ws es p.1 h i

pub conflict_by : (done : List Txn) (b floor : ℕ) (vs : ℕ → List Version) (es : List Entry) → ((k : ℕ) → k < 4096 → vs k ≡ swept floor (versions k done)) → outside es ≡ false
    → some_newer b vs es ≡ wrote_since b es done
conflict_by done b floor vs es h out = newer-same b vs (λ k. swept floor (versions k done)) es out h ∙ sym (newest_decides done b floor es)
