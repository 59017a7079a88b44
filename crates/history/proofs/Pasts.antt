-- Every list of commits that a file can hold is one that some events led to: each began at Latest, wrote, committed, and was
-- followed by a sweep.
use Rattle.std.proofs.Common.{◌≡◌, ℕ, ◌+◌, ◌^◌, ◌<◌, ◌≤◌, false, leb, List, [], ◌∷◌, ◌++◌, map, length, take, replicate, Some, None, Option, sym, refl, ap, ◌∙◌, subst, arith}
use Rattle.std.specs.List.{AllByRecursion}
use Rattle.std.proofs.lemmas.List.{take_all, map_push, length-map, length_push, append-nil, append_assoc}
use Rattle.std.proofs.lemmas.Bool.{or_parts, lt-leb, le-ltb}
use Rattle.model.specs.declared.Call.{Call}
use Rattle.model.specs.declared.Call.TheVariants.{Begin, Write, Commit, Sweep, Stop}
use Rattle.model.specs.declared.Entry.{Entry}
use Rattle.model.specs.declared.Level.TheVariants.{Latest}
use Rattle.model.specs.declared.Refusal.TheVariants.{OutOfBounds, TooMany, NoRoom, LastCommit}
use Rattle.model.specs.Transactions.{Txn, outside}
use Rattle.model.specs.Versions.{keys_of}
use Rattle.versions.proofs.Sums.{total-few}
use Rattle.versions.proofs.Named.{keys-few}
use Rattle.versions.proofs.Newest.{one-stays}
use Rattle.history.specs.Engine.{Life, Engine, txn_of, held_at, version_count, floor_in, when, first_of, refusal_of, restarted, performed, unless_refused, Event, Called, run, led}
use Rattle.history.specs.Pasts.{writes_of, Writable, OpenedWith, EveryPast}
use Rattle.history.proofs.Sounding.{led-more}

-- some events led to e
abbrev Led : Engine → Type 0
Led e = (h : List Event) × (led h ≡ e)

then-called : (c : Call) (e : Engine) → refusal_of c e ≡ None → Led e → Led (performed c e)
then-called c e r p = (
  p.0 ++ (Called c ∷ []),
  led-more p.0 (Called c) ∙ ap (λ (d : Engine). unless_refused (refusal_of c d) d (performed c d)) p.1 ∙ ap (λ o. unless_refused o e (performed c e)) r,
)

-- with these commits, swept at this floor, and with at most the first slot busy
abbrev standing : List Life → ℕ → Option Life → Engine
standing ds f o = record { done = ds; synced = 0; floor = f; slots = o ∷ replicate 15 None }

-- a Latest that has written so much
abbrev writer : ℕ → List Entry → Life
writer n es = record { txn = record { level = Latest; begin = n; reads = []; writes = es }; given = [] }

module _ (ds : List Life) (f : ℕ) where
  then_begins : Led (standing ds f None) → Led (standing ds f (Some (writer (length ds) [])))
  then_begins p = then-called (Begin 0 (Some Latest)) (standing ds f None) refl p

  then-writes : (n : ℕ) (es : List Entry) (x : Entry) → leb 4096 x.key ≡ false → length es < 64 →
      Led (standing ds f (Some (writer n es))) → Led (standing ds f (Some (writer n (es ++ (x ∷ [])))))
  then-writes n es x k l p =
      then-called (Write 0 x.key x.value) (standing ds f (Some (writer n es)))
      (ap (λ b. first_of (when b OutOfBounds) (when (leb 64 (length es)) TooMany)) k ∙ ap (λ b. when b TooMany) (lt-leb 64 (length es) l)) p

  then-writes-all : (n : ℕ) (es xs : List Entry) → outside xs ≡ false → length es + length xs ≤ 64 →
      Led (standing ds f (Some (writer n es))) → Led (standing ds f (Some (writer n (es ++ xs))))
  then-writes-all n es [] k l p = rw (append-nil es) p
  then-writes-all n es (x ∷ xs) k l p =
      let q = or_parts (leb 4096 x.key) (outside xs) k in
      let w = then-writes n es x q.0 (omega arith) p in
      rw (← append_assoc es (x ∷ []) xs) (then-writes-all n (es ++ (x ∷ [])) xs q.1 (omega (arith, length_push es x)) w)

  then-commits : (n : ℕ) (es : List Entry) → version_count (standing ds f None) ≤ 4096 → length es ≤ 64 → length ds < 4294967295 →
      Led (standing ds f (Some (writer n es))) → Led (standing (ds ++ (writer n es ∷ [])) f None)
  then-commits n es few l m p =
      then-called (Commit 0) (standing ds f (Some (writer n es)))
      (ap (λ b. first_of (when b NoRoom) (when (leb 4294967295 (length ds)) LastCommit)) (le-ltb 32768 (version_count (standing ds f None) + keys_of es) (omega (arith, keys-few es)))
      ∙ ap (λ b. when b LastCommit) (lt-leb 4294967295 (length ds) m))
      p

  then-sweeps : Led (standing ds f None) → Led (standing ds (length ds) None)
  unfolding floor_in
  then-sweeps p = then-called Sweep (standing ds f None) refl p

  then-stops : Led (standing ds f None) → Led (restarted (length ds) (standing ds f None))
  then-stops p = then-called Stop (standing ds f None) refl p

few_stay : (ds : List Life) (o : Option Life) → version_count (standing ds (length ds) o) ≤ 4096
few_stay ds o =
    total-few (held_at (standing ds (length ds) o)) (λ k _. one-stays (map txn_of ds) k (length ds) (omega (arith, length-map ds txn_of)))

-- one transaction more, with these writes
then-more : (ds : List Life) (es : List Entry) → Writable es → length ds < 4294967295 → Led (standing ds (length ds) None) →
    (l : Life) × (l.txn.writes ≡ es) × Led (standing (ds ++ (l ∷ [])) (length (ds ++ (l ∷ []))) None)
then-more ds es w m p =
    let n = length ds in
    let l = writer n es in
    let a = then-writes-all ds n n [] es w.1 (omega (arith, w.0)) (then_begins ds n p) in
    (l, refl, then-sweeps (ds ++ (l ∷ [])) n (then-commits ds n n es (few_stay ds None) w.0 m a))

abbrev written : List Life → List (List Entry)
written ds = map writes_of (map txn_of ds)

written-more : (ds : List Life) (l : Life) (es : List Entry) (ws : List (List Entry)) → l.txn.writes ≡ es → written (ds ++ (l ∷ [])) ++ ws ≡ written ds ++ (es ∷ ws)
written-more ds l es ws e =
    ap (λ (ts : List Txn). map writes_of ts ++ ws) (map_push txn_of ds l)
    ∙ ap (λ (vs : List (List Entry)). vs ++ ws) (map_push writes_of (map txn_of ds) l.txn)
    ∙ append_assoc (written ds) (l.txn.writes ∷ []) ws
    ∙ ap (λ (vs : List Entry). written ds ++ (vs ∷ ws)) e

-- all of them, after those that there are
then-all : (ws : List (List Entry)) (ds : List Life) → AllByRecursion Writable ws → length ds + length ws < 2 ^ 32 → Led (standing ds (length ds) None) →
    (cs : List Life) × (written cs ≡ written ds ++ ws) × Led (standing cs (length cs) None)
then-all [] ds a l p = (ds, sym (append-nil (written ds)), p)
then-all (es ∷ ws) ds a l p =
    let m = then-more ds es a.0 (omega arith) p in
    let r = then-all ws (ds ++ (m.0 ∷ [])) a.1 (omega (arith, length_push ds m.0)) m.2 in
    (r.0, r.1 ∙ written-more ds m.0 es ws m.1, r.2)

opened : (ws : List (List Entry)) (cs : List Life) → written cs ≡ ws → OpenedWith ws (restarted (length cs) (standing cs (length cs) None))
opened ws cs e =
    let all : take (length cs) cs ≡ cs = take_all (length cs) cs (omega arith) in
    let long : length cs ≡ length (take (length cs) cs) = ap length (sym all) in
    (ap written all ∙ e, long, long, refl)

nothing_led : led [] ≡ standing [] 0 None
unfolding run
nothing_led = refl

pub every-past : EveryPast
every-past ws a l =
    let r = then-all ws [] a (omega (arith, l)) ([], nothing_led) in
    let cs = r.0 in
    let s = then-stops cs (length cs) r.2 in
    (s.0, subst (OpenedWith ws) (sym s.1) (opened ws cs r.1))
