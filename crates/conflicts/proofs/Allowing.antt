-- Lists of commits that the rules allow.
use Rattle.std.proofs.Common.{◌≡◌, ℕ, zero, suc, ◌+◌, ◌<◌, ◌≤◌, Bool, true, false, ◌&&◌, List, [], ◌∷◌, ◌++◌, length, get_or, take, None, sym, refl, ap, ◌∙◌, subst, ⊎_elim, add-one, arith}
use Rattle.std.specs.List.{AllByRecursion}
use Rattle.std.proofs.lemmas.List.{take_more, take_all, take-take, take-append-le, take_at, get_or-take, get_or_append_left, get_or_push, length-take-le, length_push}
use Rattle.std.proofs.lemmas.Bool.{cases_Bool, cases_lt, le-leb}
use Rattle.model.specs.declared.Level.{Level}
use Rattle.model.specs.declared.Level.TheVariants.{Latest, Snapshot, Serial}
use Rattle.model.specs.Transactions.{Txn, is_serial, is_latest, began, both_write}
use Rattle.model.specs.Commits.{Commit, numbered, commits, unseen, has_pivot, wrote_since, verdict}
use Rattle.conflicts.specs.Marks.{judged}
use Rattle.conflicts.specs.Held.{Timely}
use Rattle.conflicts.specs.Laws.{nth, Allowed, FirstWins, NoPivot}
use Rattle.conflicts.proofs.Firsts.{none_passes}
use Rattle.conflicts.proofs.Marked.{pivots_same}
use Rattle.conflicts.proofs.Numbers.{commit, timely_push}

no_conflict : (l : Level) (c p : Bool) → is_latest l ≡ false → judged l c p ≡ None → c ≡ false
no_conflict Latest c p e h = cc
no_conflict Snapshot true p e h = cc
no_conflict Snapshot false p e h = refl
no_conflict Serial true p e h = cc
no_conflict Serial false p e h = refl

no_pivot_with : (l : Level) (c p : Bool) → is_serial l ≡ true → judged l c p ≡ None → p ≡ false
no_pivot_with Latest c p e h = cc
no_pivot_with Snapshot c p e h = cc
no_pivot_with Serial true p e h = cc
no_pivot_with Serial false true e h = cc
no_pivot_with Serial false false e h = refl

all-at : (P : Commit → Type 0) (n : ℕ) (ts : List Txn) (i : ℕ) (d : Txn) → AllByRecursion P (numbered n ts) → i < length ts → P (commit (n + i) (get_or ts i d))
unfolding numbered
all-at P n [] i d a l = absurd (omega arith)
all-at P n (t ∷ ts) zero d a l = let e : n ≡ n + 0 = omega arith in subst (λ k. P (commit k t)) e a.0
all-at P n (t ∷ ts) (suc i) d a l = let e : suc n + i ≡ n + suc i = omega arith in subst (λ k. P (commit k (get_or ts i d))) e (all-at P (suc n) ts i d a.1 (omega arith))

pub first_wins : FirstWins
first_wins done h i j l m b e =
    let t = nth done j in
    let ts = take j done in
    let p : Commit → Bool = λ (d : Commit). unseen t.begin d && both_write t.writes d.txn.writes in
    let c : wrote_since t.begin t.writes ts ≡ false = no_conflict t.level (wrote_since t.begin t.writes ts) (has_pivot (ts ++ (t ∷ []))) e (h j m).0 in
    let n : i < length ts = omega (arith, length-take-le j done (omega arith)) in
    let a : p (commit (0 + i) (get_or ts i (began Latest 0))) ≡ false = all-at (λ d. p d ≡ false) 0 ts i (began Latest 0) (none_passes p (commits ts) c) n in
    let u : unseen t.begin (commit (0 + i) (nth ts i)) ≡ true = le-leb t.begin (0 + i) (omega arith) in
    sym (ap (λ (x : Txn). both_write t.writes x.writes) (get_or-take j done i (began Latest 0) l))
    ∙ sym (ap (λ z. z && both_write t.writes (nth ts i).writes) u) ∙ a

no_pivot_yet : has_pivot [] ≡ false
unfolding numbered
no_pivot_yet = refl

-- with one more that the rules allow there is still no pivot
pivot_free_push : (done : List Txn) (t : Txn) → Timely 0 done → verdict t done ≡ None → has_pivot done ≡ false → has_pivot (done ++ (t ∷ [])) ≡ false
pivot_free_push done t h v z =
    ⊎_elim
    (λ s. no_pivot_with t.level (wrote_since t.begin t.writes done) (has_pivot (done ++ (t ∷ []))) s v)
    (λ s. pivots_same done t h s ∙ z)
    (cases_Bool (is_serial t.level))

-- began in time, and no pivot
abbrev Fine : List Txn → Type 0
Fine done = Timely 0 done × (has_pivot done ≡ false)

fine : (done : List Txn) → Allowed done → (n : ℕ) → n ≤ length done → Fine (take n done)
fine done h zero l = (tt, no_pivot_yet)
fine done h (suc n) l =
    let before = fine done h n (omega arith) in
    let t = nth done n in
    let k = length-take-le n done (omega arith) in
    let a = h n (omega arith) in
    let b : t.begin ≤ length (take n done) = omega (arith, a.1) in
    let e : take n done ++ (t ∷ []) ≡ take (suc n) done = sym (rw (← add-one) (take_more done n (began Latest 0) (omega arith))) in
    subst Fine e (timely_push (take n done) t before.0 b, pivot_free_push (take n done) t before.0 a.0 before.1)

whole : (done : List Txn) → Allowed done → Fine done
whole done h = subst Fine (take_all (length done) done (omega arith)) (fine done h (length done) (omega arith))

pub allowed-timely : (done : List Txn) → Allowed done → Timely 0 done
allowed-timely done h = (whole done h).0

pub no_pivot : NoPivot
no_pivot done h = (whole done h).1

pub allowed_push : (done : List Txn) (t : Txn) → Allowed done → verdict t done ≡ None → t.begin ≤ length done → Allowed (done ++ (t ∷ []))
allowed_push done t h v b n l =
    ⊎_elim
    (λ m.
    let p = get_or_append_left done (t ∷ []) (began Latest 0) n m in
    let q = take-append-le n done (t ∷ []) (omega arith) in
    let a = h n m in
    (ap (λ x. verdict x (take n (done ++ (t ∷ [])))) p ∙ ap (verdict (nth done n)) q ∙ a.0, omega (arith, ap (λ (x : Txn). x.begin) p, a.1)))
    (λ m.
    let k : length done ≡ n = omega (arith, length_push done t) in
    let p = get_or_push done t (began Latest 0) n k in
    let q = take_at done (t ∷ []) n k in
    (ap (λ x. verdict x (take n (done ++ (t ∷ [])))) p ∙ ap (verdict t) q ∙ v, omega (arith, ap (λ (x : Txn). x.begin) p)))
    (cases_lt n (length done))

pub allowed-front : (done : List Txn) (k : ℕ) → Allowed done → k ≤ length done → Allowed (take k done)
allowed-front done k h l n m =
    let j : n < k = omega (arith, length-take-le k done l) in
    let p = get_or-take k done n (began Latest 0) j in
    let q = take-take n k done (omega arith) in
    let a = h n (omega arith) in
    (ap (λ x. verdict x (take n (take k done))) p ∙ ap (verdict (nth done n)) q ∙ a.0, omega (arith, ap (λ (x : Txn). x.begin) p, a.1))
