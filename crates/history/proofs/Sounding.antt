-- Events lead only to sound engines.
use Rattle.std.proofs.Common.{◌≡◌, ℕ, ◌+◌, ◌<◌, ◌≤◌, Bool, false, not, ltb, leb, ◌⊎◌, List, [], ◌∷◌, ◌++◌, map, length, get_or, take, set, Some, None, Option, sym, refl, ◌∙◌, subst, inl, inr, arith}
use Rattle.std.proofs.lemmas.List.{take-append-le, take-take, take-map, map_push, length-map, length_push, length-set, length-take-le, get_or_append_left, get_or_push, get_or-take}
use Rattle.std.proofs.lemmas.Bool.{cond_both, cases_lt, or_parts, not_from_false, not-true}
use Rattle.model.specs.declared.Call.{Call}
use Rattle.model.specs.declared.Call.TheVariants.{Begin, Read, Write, Commit, Abort, Sweep, Sync, Stop, Show}
use Rattle.model.specs.declared.Entry.{Entry}
use Rattle.model.specs.declared.Level.{Level}
use Rattle.model.specs.declared.Refusal.TheVariants.{TooMany, NoRoom, LastCommit}
use Rattle.model.specs.Transactions.{is_latest, began}
use Rattle.model.specs.Commits.{verdict}
use Rattle.model.specs.Versions.{keys_of}
use Rattle.conflicts.specs.Laws.{Allowed}
use Rattle.conflicts.proofs.Allowing.{allowed_push, allowed-front}
use Rattle.history.specs.Engine.{Life, Engine, idle, fresh, txn_of, txns, count, slot_at, with_slot, version_count, sweep_floor, when, first_of, commit_refusal, busy_refusal, refusal_of, read_by, written_by, restarted, on_begin, on_read, on_write, on_commit, performed, called, bytes_in, whole_in, Event, Called, Stopped, step, run, led}
use Rattle.history.specs.Sound.{Lived, nobody, Sound, AllSound}
use Rattle.history.proofs.Lists.{set_all, none-there, none_some}
use Rattle.history.proofs.Refusing.{when-not, neither, goes_through, refused_or_not}
use Rattle.history.proofs.Floors.{floor-below, floor-counts, floor-least}
use Rattle.history.proofs.Files.{whole-within}
use Rattle.history.proofs.Lives.{lived_on, lived_new, lived_read, lived_write}

-- one that is under way with so many commits done
abbrev Under : Engine → Life → Type 0
Under e l = Lived (txns e) (count e) l × (is_latest l.txn.level ≡ false → e.floor ≤ l.txn.begin)

all_under : (e : Engine) → Sound e → (i : ℕ) (l : Life) → slot_at i e ≡ Some l → Under e l
all_under e v i l h = (v.under i l h, v.above i l h)

slot_sound : (s : ℕ) (o : Option Life) (e : Engine) → Sound e → ((l : Life) → o ≡ Some l → Under e l) → Sound (with_slot s o e)
slot_sound s o e v new =
    let all = set_all (Under e) e.slots s o (all_under e v) new in
    record {
      allowed = v.allowed;
      ended = v.ended;
      under = λ i l h. (all i l h).0;
      above = λ i l h. (all i l h).1;
      floor = v.floor;
      synced = v.synced;
      sixteen = length-set e.slots s o ∙ v.sixteen;
    }

busy_sound : (s : ℕ) (l : Life) (e : Engine) → Sound e → Under e l → Sound (with_slot s (Some l) e)
busy_sound s l e v u = slot_sound s (Some l) e v (λ k h. let q : l ≡ k = cc in subst (Under e) q u)

idle_sound : (s : ℕ) (e : Engine) → Sound e → Sound (with_slot s None e)
idle_sound s e v = slot_sound s None e v (λ k h. absurd (none_some h))

begin_sound : (s : ℕ) (l : Option Level) (e : Engine) → Sound e → Sound (on_begin s l e)
begin_sound s None e v = v
begin_sound s (Some l) e v = busy_sound s (record { txn = began l (count e); given = [] }) e v (lived_new (txns e) (count e) l, λ _. v.floor)

read_sound : (s a b : ℕ) (e : Engine) → Sound e → (o : Option Life) → slot_at s e ≡ o →
    busy_refusal (λ (l : Life). when (leb 64 (length l.txn.reads)) TooMany) o ≡ None → Sound (on_read s a b e o)
read_sound s a b e v None h r = v
read_sound s a b e v (Some l) h r =
    let u = all_under e v s l h in
    busy_sound s (read_by a b e l) e v (lived_read a b e l u.0 (when-not (leb 64 (length l.txn.reads)) TooMany r), u.1)

write_sound : (s : ℕ) (x : Entry) (e : Engine) → Sound e → leb 4096 x.key ≡ false → (o : Option Life) → slot_at s e ≡ o →
    busy_refusal (λ (l : Life). when (leb 64 (length l.txn.writes)) TooMany) o ≡ None → Sound (on_write s x e o)
write_sound s x e v k None h r = v
write_sound s x e v k (Some l) h r =
    let u = all_under e v s l h in
    busy_sound s (written_by x l) e v (lived_write x (txns e) (count e) l u.0 k (when-not (leb 64 (length l.txn.writes)) TooMany r), u.1)

-- l, which stood in slot s, has committed
module _ (s : ℕ) (e : Engine) (v : Sound e) (l : Life) (h : slot_at s e ≡ Some l) (r : commit_refusal e l ≡ None) where
  longer : length (e.done ++ (l ∷ [])) ≡ count e + 1
  longer = length_push e.done l

  front : (n : ℕ) → n ≤ count e → take n (e.done ++ (l ∷ [])) ≡ take n e.done
  front n k = take-append-le n e.done (l ∷ []) k

  goes_on : (n m : ℕ) (k : Life) → n ≤ count e → n ≤ m → Lived (txns e) n k → Lived (map txn_of (e.done ++ (l ∷ []))) m k
  goes_on n m k p q = lived_on e.done (e.done ++ (l ∷ [])) n m k (front n p) q

  commit-allowed : Allowed (map txn_of (e.done ++ (l ∷ [])))
  commit-allowed =
      let w = neither (verdict l.txn (txns e)) (first_of (when (ltb 32768 (version_count e + keys_of l.txn.writes)) NoRoom) (when (leb 4294967295 (count e)) LastCommit)) r in
      let b : l.txn.begin ≤ length (txns e) = omega (arith, length-map e.done txn_of, (v.under s l h).begun) in
      subst Allowed (sym (map_push txn_of e.done l)) (allowed_push (txns e) l.txn v.allowed w.0 b)

  commit-ended : (i : ℕ) → i < length (e.done ++ (l ∷ [])) → Lived (map txn_of (e.done ++ (l ∷ []))) i (get_or (e.done ++ (l ∷ [])) i nobody)
  commit-ended i p = go (cases_lt i (count e))
    where
      go : (i < count e) ⊎ (count e ≤ i) → Lived (map txn_of (e.done ++ (l ∷ []))) i (get_or (e.done ++ (l ∷ [])) i nobody)
      go (inl q) = rw (get_or_append_left e.done (l ∷ []) nobody i q) (goes_on i i (get_or e.done i nobody) (omega arith) (omega arith) (v.ended i q))
      go (inr q) =
          let n : count e ≡ i = omega (arith, longer) in
          rw (get_or_push e.done l nobody i n) (goes_on (count e) i l (omega arith) (omega arith) (v.under s l h))

  commit-under : (i : ℕ) (k : Life) → get_or (set e.slots s None) i None ≡ Some k → Under (on_commit s e (Some l)) k
  commit-under = set_all (Under (on_commit s e (Some l))) e.slots s None
      (λ i k p. (goes_on (count e) (length (e.done ++ (l ∷ []))) k (omega arith) (omega (arith, longer)) (v.under i k p), v.above i k p))
      (λ k p. absurd (none_some p))

  committed_sound : Sound (on_commit s e (Some l))
  committed_sound = record {
    allowed = commit-allowed;
    ended = commit-ended;
    under = λ i k p. (commit-under i k p).0;
    above = λ i k p. (commit-under i k p).1;
    floor = omega (arith, longer, v.floor);
    synced = omega (arith, longer, v.synced);
    sixteen = length-set e.slots s None ∙ v.sixteen;
  }

commit_sound : (s : ℕ) (e : Engine) → Sound e → (o : Option Life) → slot_at s e ≡ o → busy_refusal (commit_refusal e) o ≡ None → Sound (on_commit s e o)
commit_sound s e v None h r = v
commit_sound s e v (Some l) h r = committed_sound s e v l h r

-- the floor of a sweep
abbrev counting : Level → Bool
counting l = not (is_latest l)

pub sweep-within : (e : Engine) → sweep_floor e ≤ count e
sweep-within e = floor-below counting (count e) e.slots

pub sweep-below : (e : Engine) (i : ℕ) (l : Life) → slot_at i e ≡ Some l → is_latest l.txn.level ≡ false → sweep_floor e ≤ l.txn.begin
sweep-below e i l h s = floor-counts counting (count e) e.slots i l h (not_from_false (is_latest l.txn.level) s)

-- a sweep never lowers the floor
pub sweep_rises : (e : Engine) → Sound e → e.floor ≤ sweep_floor e
sweep_rises e v = floor-least counting e.floor (count e) e.slots v.floor (λ i l h s. v.above i l h (not-true (is_latest l.txn.level) s))

swept_sound : (e : Engine) → Sound e → Sound (performed Sweep e)
swept_sound e v = record {
  allowed = v.allowed;
  ended = v.ended;
  under = v.under;
  above = sweep-below e;
  floor = sweep-within e;
  synced = v.synced;
  sixteen = v.sixteen;
}

synced_sound : (e : Engine) → Sound e → Sound (performed Sync e)
synced_sound e v = record {
  allowed = v.allowed;
  ended = v.ended;
  under = v.under;
  above = v.above;
  floor = v.floor;
  synced = omega arith;
  sixteen = v.sixteen;
}

nobody-there : {A : Type 0} (i : ℕ) {l : Life} → get_or idle i None ≡ Some l → A
nobody-there i h = absurd (none_some (sym (none-there 16 i) ∙ h))

pub restarted_sound : (k : ℕ) (e : Engine) → k ≤ count e → Sound e → Sound (restarted k e)
restarted_sound k e l v = record {
  allowed = subst Allowed (take-map txn_of k e.done) (allowed-front (txns e) k v.allowed (omega (arith, length-map e.done txn_of)));
  ended = λ i h.
      let j : i < k = omega (arith, long) in
      rw (get_or-take k e.done i nobody j) (lived_on e.done (take k e.done) i i (get_or e.done i nobody) (take-take i k e.done (omega arith)) (omega arith) (v.ended i (omega arith)));
  under = λ i x h. nobody-there i h;
  above = λ i x h. nobody-there i h;
  floor = omega (arith, long);
  synced = omega (arith, long);
  sixteen = refl;
}
  where
    long : length (take k e.done) ≡ k
    long = length-take-le k e.done l

performed_sound : (c : Call) (e : Engine) → Sound e → refusal_of c e ≡ None → Sound (performed c e)
performed_sound (Begin s l) e v r = begin_sound s l e v
performed_sound (Read s a b) e v r = read_sound s a b e v (slot_at s e) refl (goes_through (Read s a b) e r).1
performed_sound (Write s k x) e v r =
    let g = goes_through (Write s k x) e r in
    write_sound s (record { key = k; value = x }) e v (or_parts (leb 16 s) (leb 4096 k) g.0).1 (slot_at s e) refl g.1
performed_sound (Commit s) e v r = commit_sound s e v (slot_at s e) refl (goes_through (Commit s) e r).1
performed_sound (Abort s) e v r = idle_sound s e v
performed_sound Sweep e v r = swept_sound e v
performed_sound Sync e v r = synced_sound e v
performed_sound Stop e v r = restarted_sound (count e) e (omega arith) v
performed_sound Show e v r = v

pub called_sound : (c : Call) (e : Engine) → Sound e → Sound (called c e)
called_sound c e v = refused_or_not Sound (refusal_of c e) e (performed c e) v (performed_sound c e v)

pub whole-done : (p : ℕ) (e : Engine) → whole_in p (txns e) ≤ count e
whole-done p e = omega (arith, whole-within p (txns e), length-map e.done txn_of)

pub step_sound : (x : Event) (e : Engine) → Sound e → Sound (step x e)
step_sound (Called c) e v = called_sound c e v
step_sound (Stopped p) e v =
    cond_both (leb (bytes_in (take e.synced (txns e))) p) (restarted (whole_in p (txns e)) e) e Sound
    (λ _. restarted_sound (whole_in p (txns e)) e (whole-done p e) v) (λ _. v)

pub run_sound : (h : List Event) (e : Engine) → Sound e → Sound (run e h)
unfolding run
run_sound [] e v = v
run_sound (x ∷ h) e v = run_sound h (step x e) (step_sound x e v)

pub run_append : (e : Engine) (h more : List Event) → run e (h ++ more) ≡ run (run e h) more
unfolding run
run_append e [] more = refl
run_append e (x ∷ h) more = run_append (step x e) h more

pub led-more : (h : List Event) (x : Event) → led (h ++ (x ∷ [])) ≡ step x (led h)
unfolding run
led-more h x = run_append fresh h (x ∷ [])

pub fresh_sound : Sound fresh
fresh_sound = record {
  allowed = λ n h. absurd (omega arith);
  ended = λ i h. absurd (omega arith);
  under = λ i x h. nobody-there i h;
  above = λ i x h. nobody-there i h;
  floor = omega arith;
  synced = omega arith;
  sixteen = refl;
}

pub always_sound : AllSound
always_sound h = run_sound h fresh fresh_sound
