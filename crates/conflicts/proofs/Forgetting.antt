-- Those below a floor are forgotten.
use Rattle.std.proofs.Common.{◌≡◌, ℕ, suc, ◌+◌, ◌<◌, ◌≤◌, Bool, true, false, cond, ◌&&◌, leb, List, [], ◌∷◌, map, length, sym, refl, ap, ◌∙◌, ⊎_elim, arith}
use Rattle.std.proofs.lemmas.Bool.{le-leb, lt-leb, leb-true, le-ltb, lt-ltb, and_parts, and_right, cases_lt}
use Rattle.model.specs.Lists.{kept}
use Rattle.model.specs.Transactions.{Txn, is_serial}
use Rattle.model.specs.Commits.{Commit, numbered, commits}
use Rattle.conflicts.specs.Marks.{from_floor}
use Rattle.conflicts.specs.Held.{mark_among, recent, held_of}
use Rattle.conflicts.proofs.Numbers.{commit}

-- none of those from the floor on is forgotten
from-recent : (ds : List Commit) (g : ℕ) (xs : List Commit) → from_floor g (map (mark_among ds) (kept (recent g) xs)) ≡ map (mark_among ds) (kept (recent g) xs)
unfolding from_floor
from-recent ds g [] = refl
from-recent ds g (x ∷ xs) = go (recent g x) refl (from-recent ds g xs)
  where
    go : (b : Bool) → recent g x ≡ b → from_floor g (map (mark_among ds) (kept (recent g) xs)) ≡ map (mark_among ds) (kept (recent g) xs) →
        from_floor g (map (mark_among ds) (cond b (x ∷ kept (recent g) xs) (kept (recent g) xs))) ≡ map (mark_among ds) (cond b (x ∷ kept (recent g) xs) (kept (recent g) xs))
    go true e ih =
        let l = leb-true g x.number (and_parts (is_serial x.txn.level) (leb g x.number) e).1 in
        ap (λ z. cond z (from_floor g (map (mark_among ds) (kept (recent g) xs))) (mark_among ds x ∷ map (mark_among ds) (kept (recent g) xs))) (le-ltb x.number g l)
    go false e ih = ih

-- from number n on both floors keep the same
same-late : (f g n : ℕ) (ts : List Txn) → f ≤ n → g ≤ n → kept (recent f) (numbered n ts) ≡ kept (recent g) (numbered n ts)
unfolding numbered
same-late f g n [] p q = refl
same-late f g n (t ∷ ts) p q =
    let ih = same-late f g (suc n) ts (omega arith) (omega arith) in
    ap (λ l. cond (recent f (commit n t)) (commit n t ∷ l) l) ih
    ∙ ap (λ z. cond (is_serial t.level && z) (commit n t ∷ kept (recent g) (numbered (suc n) ts)) (kept (recent g) (numbered (suc n) ts))) (le-leb f n p ∙ sym (le-leb g n q))

-- one below the floor goes
dropped : (ds : List Commit) (g n : ℕ) (t : Txn) (b : Bool) (xs : List Commit) → n < g → from_floor g (map (mark_among ds) (cond b (commit n t ∷ xs) xs)) ≡ from_floor g (map (mark_among ds) xs)
unfolding from_floor
dropped ds g n t true xs l = ap (λ z. cond z (from_floor g (map (mark_among ds) xs)) (mark_among ds (commit n t) ∷ map (mark_among ds) xs)) (lt-ltb n g l)
dropped ds g n t false xs l = refl

forgotten : (ds : List Commit) (f g : ℕ) → f ≤ g → (n : ℕ) (ts : List Txn) → from_floor g (map (mark_among ds) (kept (recent f) (numbered n ts))) ≡ map (mark_among ds) (kept (recent g) (numbered n ts))
unfolding from_floor numbered
forgotten ds f g h n [] = refl
forgotten ds f g h n (t ∷ ts) =
    let xs = kept (recent f) (numbered (suc n) ts) in
    let ys = kept (recent g) (numbered (suc n) ts) in
    ⊎_elim
    (λ l. dropped ds g n t (recent f (commit n t)) xs l ∙ forgotten ds f g h (suc n) ts
    ∙ sym (ap (λ z. map (mark_among ds) (cond z (commit n t ∷ ys) ys)) (and_right (is_serial t.level) (leb g n) (lt-leb g n l))))
    (λ l. ap (λ l. from_floor g (map (mark_among ds) l)) (same-late f g n (t ∷ ts) (omega arith) l) ∙ from-recent ds g (numbered n (t ∷ ts)))
    (cases_lt n g)

pub forgets : (done : List Txn) (f g : ℕ) → f ≤ g → from_floor g (held_of f (commits done)) ≡ held_of g (commits done)
forgets done f g h = forgotten (commits done) f g h 0 done

none_from : (g n : ℕ) (ts : List Txn) → n + length ts ≤ g → kept (recent g) (numbered n ts) ≡ []
unfolding numbered
none_from g n [] h = refl
none_from g n (t ∷ ts) h =
    ap (λ z. cond z (commit n t ∷ kept (recent g) (numbered (suc n) ts)) (kept (recent g) (numbered (suc n) ts))) (and_right (is_serial t.level) (leb g n) (lt-leb g n (omega arith)))
    ∙ none_from g (suc n) ts (omega arith)

-- nothing is held where all are below the floor
pub nothing_held : (done : List Txn) (g : ℕ) → length done ≤ g → held_of g (commits done) ≡ []
nothing_held done g h = ap (map (mark_among (commits done))) (none_from g 0 done (omega arith))
