-- What versions show, and what sweeping leaves.
use Rattle.std.proofs.Common.{◌≡◌, ℕ, zero, suc, ◌+◌, ◌<◌, ◌≤◌, Bool, true, false, cond, ltb, List, [], ◌∷◌, ◌++◌, length, take, sym, refl, ap, ◌∙◌, arith}
use Rattle.std.proofs.lemmas.Bool.Decides.{nat_tests}
use Rattle.std.proofs.lemmas.Bool.{le-ltb, lt-ltb, cond-true, cond-false}
use Rattle.model.specs.declared.Entry.{Entry}
use Rattle.model.specs.Transactions.{Txn, empty, puts, after, names}
use Rattle.model.specs.Versions.{Version, committed, versions_from, versions, shown, swept}
use Rattle.versions.specs.Laws.{ShowAll, SweepHides, SweepTwice, Event, Commits, Sweeps, led_to, committed_by, Rising, last_floor, SweepAlong}
use Rattle.versions.proofs.Named.{puts-named, puts_unnamed}

module _ (es : List Entry) (k n at : ℕ) (vs : List Version) where
  shown-before : at ≤ n → shown at (committed n es k vs) ≡ shown at vs
  unfolding shown
  shown-before h = go (names k es)
    where
      go : (b : Bool) → shown at (cond b (record { number = n; value = puts es empty k } ∷ vs) vs) ≡ shown at vs
      go true = cond-false (ltb n at) (puts es empty k) (shown at vs) (le-ltb n at h)
      go false = refl

  shown-after : (m : ℕ → ℕ) → n < at → shown at vs ≡ m k → shown at (committed n es k vs) ≡ puts es m k
  unfolding shown
  shown-after m h e = go (names k es) refl
    where
      go : (b : Bool) → names k es ≡ b → shown at (cond b (record { number = n; value = puts es empty k } ∷ vs) vs) ≡ puts es m k
      go true p = cond-true (ltb n at) (puts es empty k) (shown at vs) (lt-ltb n at h) ∙ puts-named es empty m k p
      go false p = e ∙ sym (puts_unnamed es m k p)

shown-later : (ts : List Txn) (k n at : ℕ) (vs : List Version) → at ≤ n → shown at (versions_from k n vs ts) ≡ shown at vs
unfolding versions_from
shown-later [] k n at vs h = refl
shown-later (t ∷ ts) k n at vs h = shown-later ts k (suc n) at (committed n t.writes k vs) (omega arith) ∙ shown-before t.writes k n at vs h

shown-from : (ts : List Txn) (k n j at : ℕ) (vs : List Version) (m : ℕ → ℕ) → at ≡ n + j → shown at vs ≡ m k → shown at (versions_from k n vs ts) ≡ after m (take j ts) k
unfolding versions_from after
shown-from [] k n zero at vs m h e = e
shown-from [] k n (suc j) at vs m h e = e
shown-from (t ∷ ts) k n zero at vs m h e = shown-later (t ∷ ts) k n at vs (omega arith) ∙ e
shown-from (t ∷ ts) k n (suc j) at vs m h e =
    shown-from ts k (suc n) j at (committed n t.writes k vs) (puts t.writes m) (omega arith) (shown-after t.writes k n at vs m (omega arith) e)

pub show_all : ShowAll
unfolding shown
show_all done k at = shown-from done k 0 at at [] empty (omega arith) refl

shown-swept : (vs : List Version) (floor at : ℕ) → floor ≤ at → shown at (swept floor vs) ≡ shown at vs
unfolding shown swept
shown-swept [] floor at h = refl
shown-swept (v ∷ vs) floor at h = let ih = shown-swept vs floor at h in grind (arith, nat_tests)

pub sweep_hides : SweepHides
sweep_hides done k floor at h = shown-swept (versions k done) floor at h

swept-swept : (vs : List Version) (f g : ℕ) → f ≤ g → swept g (swept f vs) ≡ swept g vs
unfolding swept
swept-swept [] f g h = refl
swept-swept (v ∷ vs) f g h = let ih = swept-swept vs f g h in grind (arith, nat_tests)

pub sweep_twice : SweepTwice
sweep_twice done k f g h = swept-swept (versions k done) f g h

pub swept-committed : (es : List Entry) (k n f : ℕ) (vs : List Version) → f ≤ n → committed n es k (swept f vs) ≡ swept f (committed n es k vs)
unfolding swept
swept-committed es k n f vs h = grind (arith, nat_tests)

along_from : (es : List Event) (k n f : ℕ) (vs : List Version) → f ≤ n → Rising n f es → led_to k n (swept f vs) es ≡ swept (last_floor f es) (versions_from k n vs (committed_by es))
unfolding led_to last_floor versions_from committed_by Rising
along_from [] k n f vs h r = refl
along_from (Commits t ∷ es) k n f vs h r =
    ap (λ ws. led_to k (suc n) ws es) (swept-committed t.writes k n f vs h) ∙ along_from es k (suc n) f (committed n t.writes k vs) (omega arith) r
along_from (Sweeps g ∷ es) k n f vs h r = ap (λ ws. led_to k n ws es) (swept-swept vs f g r.0) ∙ along_from es k n g vs r.1 r.2

pub sweep_along : SweepAlong
unfolding swept
sweep_along es k r = along_from es k 0 0 [] (omega arith) r

-- one commit more at the end
versions-more : (ts : List Txn) (t : Txn) (k n : ℕ) (vs : List Version)
    → versions_from k n vs (ts ++ (t ∷ [])) ≡ committed (n + length ts) t.writes k (versions_from k n vs ts)
unfolding versions_from
versions-more [] t k n vs = let e : n ≡ n + 0 = omega arith in ap (λ m. committed m t.writes k vs) e
versions-more (s ∷ ts) t k n vs =
    let e : suc n + length ts ≡ n + suc (length ts) = omega arith in
    versions-more ts t k (suc n) (committed n s.writes k vs) ∙ ap (λ m. committed m t.writes k (versions_from k (suc n) (committed n s.writes k vs) ts)) e

-- the history goes on with a commit
pub commit-by : (done : List Txn) (t : Txn) (k f n : ℕ) (es : List Entry) → t.writes ≡ es → n ≡ length done → f ≤ n
    → committed n es k (swept f (versions k done)) ≡ swept f (versions k (done ++ (t ∷ [])))
commit-by done t k f n es same next low =
    let e : 0 + length done ≡ n = omega arith in
    swept-committed es k n f (versions k done) low
    ∙ sym (ap (swept f) (versions-more done t k 0 [] ∙ ap (λ m. committed m t.writes k (versions k done)) e ∙ ap (λ (ws : List Entry). committed n ws k (versions k done)) same))

pub shown_by : (done : List Txn) (k f at : ℕ) → f ≤ at → shown at (swept f (versions k done)) ≡ after empty (take at done) k
shown_by done k f at h = sweep_hides done k f at h ∙ show_all done k at

-- no commits, no versions
pub nothing_yet : (k f : ℕ) → swept f (versions k []) ≡ []
unfolding versions_from swept
nothing_yet k f = refl

pub shown_nothing : (at : ℕ) → shown at [] ≡ 0
unfolding shown
shown_nothing at = refl
