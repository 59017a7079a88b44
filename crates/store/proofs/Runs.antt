-- Slots, and what runs in them.
use Rattle.std.proofs.Common.{count_by, Ok, Err, ◌≡◌, ℕ, zero, suc, ◌+◌, Bool, true, false, cond, ltb, leb, List, [], ◌∷◌, map, length, get_or, set, Some, None, Option, sym, refl, ap, ◌∙◌, arith, le-ltb, lt-ltb, leb-false, leb-true}
use Rattle.std.specs.List.{fold}
use Rattle.std.proofs.lemmas.List.{set-get_or}
use Rattle.model.specs.declared.Call.{Call}
use Rattle.model.specs.declared.Level.{Level}
use Rattle.model.specs.declared.Refusal.{Refusal}
use Rattle.transactions.specs.declared.slot.Slot.{Slot}
use Rattle.model.specs.declared.Refusal.TheVariants.{TooMany}
use Rattle.model.specs.Transactions.{Txn}
use Rattle.transactions.specs.Slots.{Run, idle, going, run_of, is_going, Turns, begin_refused, read_refused, write_refused, end_refused}
use Rattle.versions.specs.declared.store.Versions.{Versions}
use Rattle.conflicts.specs.declared.window.Window.{Window}
use Rattle.history.specs.Engine.{Life, Engine, slot_at, lower, floor_in, busy_in, when, begin_refusal, busy_refusal, slot_refusal}
use Rattle.store.specs.Fits.{bare, lower_run, floor_of, floor_by, busy_run, busy_of, Fits}

-- a slot in which nothing runs
abbrev pub none : Slot
none = record { running = None }

pub zero_one : ◌≡◌ {A = ℕ} 0 1 → ⊥
zero_one p = omega arith

pub mapped : {X Y : Type 0} (f : X → Y) (xs : List X) (i : ℕ) (d : X) → get_or (map f xs) i (f d) ≡ f (get_or xs i d)
mapped f [] i d = refl
mapped f (x ∷ xs) zero d = refl
mapped f (x ∷ xs) (suc i) d = mapped f xs i d

-- what comes of one slot is put there, or nothing is changed, where it is refused
pub turned : (f : Run → Run) (g : Run → Option Refusal) (ss : List Slot) (i : ℕ) (s new : Slot) → run_of s ≡ get_or (map run_of ss) i idle → Turns f g s (Ok new) →
    set (map run_of ss) i (run_of new) ≡ set (map run_of ss) i (f (get_or (map run_of ss) i idle))
turned f g ss i s new p q = ap (set (map run_of ss) i) (q.0 ∙ ap f p)

pub not-turned : (f : Run → Run) (g : Run → Option Refusal) (ss : List Slot) (i : ℕ) (s : Slot) (y : Refusal) → run_of s ≡ get_or (map run_of ss) i idle → Turns f g s (Err y) →
    map run_of ss ≡ set (map run_of ss) i (f (get_or (map run_of ss) i idle))
not-turned f g ss i s y p q =
    sym (set-get_or (map run_of ss) i idle) ∙ ap (set (map run_of ss) i) (sym p ∙ sym q.0 ∙ ap f p)

module _ (p : Level → Bool) where
  -- over slots as over what runs in them
  pub floor-by : (n : ℕ) (ss : List Slot) → floor_by p n ss ≡ floor_of p n (map run_of ss)
  unfolding floor_of
  floor-by n [] = refl
  floor-by n (s ∷ ss) = floor-by (lower_run p n (run_of s)) ss

  pub floor-bare : (n : ℕ) (os : List (Option Life)) → floor_of p n (map bare os) ≡ floor_in p n os
  unfolding floor_of floor_in
  floor-bare n [] = refl
  floor-bare n (None ∷ os) = floor-bare n os
  floor-bare n (Some l ∷ os) = floor-bare (lower p n (Some l)) os

busy-step : (n : ℕ) (r : Run) → n + cond (is_going r) 1 0 ≡ busy_run n r
busy-step n idle = omega arith
busy-step n (going t) = refl

busy-from : (n : ℕ) (ss : List Slot) → fold (λ (m : ℕ) (s : Slot). m + cond (is_going (run_of s)) 1 0) n ss ≡ busy_of n (map run_of ss)
unfolding busy_of
busy-from n [] = refl
busy-from n (s ∷ ss) =
    ap (λ (k : ℕ). fold (λ (m : ℕ) (x : Slot). m + cond (is_going (run_of x)) 1 0) k ss) (busy-step n (run_of s)) ∙ busy-from (busy_run n (run_of s)) ss

pub counted-busy : (ss : List Slot) → count_by (λ (s : Slot). is_going (run_of s)) ss ≡ busy_of 0 (map run_of ss)
counted-busy ss = busy-from 0 ss

pub busy_bare : (n : ℕ) (os : List (Option Life)) → busy_of n (map bare os) ≡ n + busy_in os
unfolding busy_of busy_in
busy_bare n [] = omega arith
busy_bare n (None ∷ os) = busy_bare n os
busy_bare n (Some l ∷ os) = omega (arith, busy_bare (n + 1) os)

-- what runs tells what is there
pub bare-idle : (o : Option Life) → idle ≡ bare o → o ≡ None
bare-idle None p = refl
bare-idle (Some l) p = let z : ◌≡◌ {A = ℕ} 0 1 = cc in absurd (zero_one z)

pub bare-going : (o : Option Life) (t : Txn) → going t ≡ bare o → (l : Life) × (o ≡ Some l) × (t ≡ l.txn)
bare-going None t p = let z : ◌≡◌ {A = ℕ} 0 1 = cc in absurd (zero_one z)
bare-going (Some l) t p = (l, refl, cc)

-- what a slot has, by the engine
module _ (e : Engine) (v : Versions) (w : Window) (ss : List Slot) (n : ℕ) (fit : Fits e v w ss n) (i : ℕ) where
  pub slot-bare : get_or (map run_of ss) i idle ≡ bare (slot_at i e)
  slot-bare = ap (λ (rs : List Run). get_or rs i idle) fit.runs ∙ mapped bare e.slots i None

  pub idle-told : idle ≡ get_or (map run_of ss) i idle → slot_at i e ≡ None
  idle-told p = bare-idle (slot_at i e) (p ∙ slot-bare)

  pub going-told : (t : Txn) → going t ≡ get_or (map run_of ss) i idle → (l : Life) × (slot_at i e ≡ Some l) × (t ≡ l.txn)
  going-told t p = bare-going (slot_at i e) t (p ∙ slot-bare)

full_if : (n : ℕ) (q : Bool) → leb 64 n ≡ q → cond (ltb n 64) None (Some TooMany) ≡ when q TooMany
full_if n true p = rw (le-ltb n 64 (leb-true 64 n p)) refl
full_if n false p = rw (lt-ltb n 64 (leb-false 64 n p)) refl

full_is : (n : ℕ) → cond (ltb n 64) None (Some TooMany) ≡ when (leb 64 n) TooMany
full_is n = full_if n (leb 64 n) refl

pub begin-bare : (o : Option Life) → begin_refused (bare o) ≡ begin_refusal o
begin-bare None = refl
begin-bare (Some l) = refl

pub read-bare : (o : Option Life) → read_refused (bare o) ≡ busy_refusal (λ (l : Life). when (leb 64 (length l.txn.reads)) TooMany) o
read-bare None = refl
read-bare (Some l) = full_is (length l.txn.reads)

pub write-bare : (o : Option Life) → write_refused (bare o) ≡ busy_refusal (λ (l : Life). when (leb 64 (length l.txn.writes)) TooMany) o
write-bare None = refl
write-bare (Some l) = full_is (length l.txn.writes)

pub end_bare : (o : Option Life) → end_refused (bare o) ≡ busy_refusal (λ l. None) o
end_bare None = refl
end_bare (Some l) = refl

-- a refusal that is told from what runs in a slot
pub told : (f : Run → Option Refusal) (g : Option Life → Option Refusal) → ((o : Option Life) → f (bare o) ≡ g o) →
    (e : Engine) (v : Versions) (w : Window) (ss : List Slot) (n : ℕ) → Fits e v w ss n → (i : ℕ) (r : Option Refusal) (s : Run) (c d : Call) →
    r ≡ f s → s ≡ get_or (map run_of ss) i idle → c ≡ d → slot_refusal d e ≡ g (slot_at i e) → r ≡ slot_refusal c e
told f g same e v w ss n fit i r s c d p q z k =
    p ∙ ap f (q ∙ slot-bare e v w ss n fit i) ∙ same (slot_at i e) ∙ sym k ∙ ap (λ (x : Call). slot_refusal x e) (sym z)
