-- What each step of the tables is, by the engine that they are.
use Rattle.std.proofs.Common.{count_by, ◌≡◌, ℕ, ◌+◌, ◌≤◌, Bool, true, false, cond, ltb, List, [], ◌∷◌, ◌++◌, map, length, get_or, take, set, replicate, Some, None, Option, sym, refl, ap, ◌∙◌, subst, ⊎_elim, arith, lt-ltb, leb-false}
use lib.ListN.{length-map}
use lib.Seq.{set_out}
use Rattle.std.proofs.lemmas.List.{map-set, map_push, length_push, take_all}
use Rattle.model.specs.declared.Counts.{Counts}
use Rattle.model.specs.declared.Entry.{Entry}
use Rattle.model.specs.declared.Refusal.{Refusal}
use Rattle.model.specs.declared.Call.TheVariants.{Read, Write, Commit, Sweep, Sync, Show}
use Rattle.model.specs.declared.Level.{Level}
use Rattle.model.specs.declared.Refusal.TheVariants.{TooMany, OutOfBounds, NoRoom}
use Rattle.model.specs.Transactions as rules
use Rattle.model.specs.Transactions.{Txn, puts, after, empty, moment, is_serial, is_latest, began, with_write, with_read, outside}
use Rattle.transactions.specs.declared.slot.Slot.{Slot}
use Rattle.transactions.specs.Slots.{Run, idle, going, run_of, is_going, wrote, read}
use Rattle.versions.specs.declared.store.Versions.{Versions}
use Rattle.versions.specs.Store.{spaces, room_for, refusal}
use Rattle.versions.specs.History as versions
use Rattle.conflicts.specs.declared.window.Window.{Window}
use Rattle.conflicts.specs.Held as conflicts
use Rattle.conflicts.specs.Marks.{marks_of}
use Rattle.history.specs.Engine.{Life, Engine, txn_of, txns, count, slot_at, with_slot, sweep_floor, floor_in, performed, replied, restarted, on_begin, on_read, on_write, read_reply, found, read_by, written_by, version_count, busy_in, refusal_of, commit_refusal, busy_refusal, shown}
use Rattle.history.specs.Sound.{Sound}
use Rattle.history.proofs.Refusing.{goes_through, when-not}
use Rattle.history.proofs.Lists.{set_cases, none-there, none_some}
use Rattle.history.proofs.Floors.{floor-below, floor-counts, floor-least}
use Rattle.history.proofs.Sounding.{sweep_rises}
use Rattle.store.specs.Fits.{bare, Fits, counts, floor_of, floor_by, busy_of}
use Rattle.store.specs.Calls.{entered}
use Rattle.store.proofs.Judging.{next}
use Rattle.store.proofs.Runs.{zero_one, slot-bare, floor-by, floor-bare, counted-busy, busy_bare}

-- a slot that there isn't stays out
pub put-out : (ss : List Slot) (i : ℕ) (x : Run) → length ss ≤ i → map run_of ss ≡ set (map run_of ss) i x
put-out ss i x h = sym (set_out (map run_of ss) i x (simp length-map h))

module _ (e : Engine) (v : Versions) (w : Window) (ss : List Slot) (n : ℕ) (fit : Fits e v w ss n) where
  -- another transaction in a slot
  pub fits-put : (v₁ : Versions) (w₁ : Window) (ts : List Slot) (m : ℕ) (i : ℕ) (x : Run) (o : Option Life) → x ≡ bare o →
      ((l : Life) → o ≡ Some l → is_serial l.txn.level ≡ true → fit.window.from ≤ l.txn.begin) →
      (map run_of ts ≡ set (map run_of ss) i x) × (v₁ ≡ v) × (w₁ ≡ w) × (m ≡ n) → Fits (with_slot i o e) v₁ w₁ ts m
  fits-put v₁ w₁ ts m i x o q late p = record {
    number = p.3 ∙ fit.number;
    held = subst (λ (y : Versions). versions.Holds (txns e) e.floor y) (sym p.1) fit.held;
    room = ap spaces p.1 ∙ fit.room;
    window = record {
      from = fit.window.from;
      holds = subst (λ (y : Window). conflicts.Holds (txns e) fit.window.from y) (sym p.2) fit.window.holds;
      serials = λ j l h s. ⊎_elim (λ k. late l k s) (λ k. fit.window.serials j l k s) (set_cases e.slots i j o l h);
      within = fit.window.within;
    };
    runs = p.0 ∙ ap (λ (rs : List Run). set rs i x) fit.runs ∙ ap (set (map bare e.slots) i) q ∙ sym (map-set bare e.slots i o);
  }

  floor_of_lem : (p : Bool) (f : ℕ) → f ≡ floor_by (counts p) n ss → f ≡ floor_in (counts p) (count e) e.slots
  floor_of_lem p f q =
      q ∙ floor-by (counts p) n ss ∙ ap (λ (k : ℕ). floor_of (counts p) k (map run_of ss)) fit.number ∙ ap (floor_of (counts p) (count e)) fit.runs ∙ floor-bare (counts p) (count e) e.slots

  -- the window forgets what no Serial under way needs
  pub fits_forget : (w₁ : Window) (f : ℕ) → f ≡ floor_by (counts false) n ss → conflicts.Forgot w w₁ f → Fits e v w₁ ss n
  fits_forget w₁ f q g =
      let z : f ≡ floor_in is_serial (count e) e.slots = floor_of_lem false f q in
      let least : fit.window.from ≤ floor_in is_serial (count e) e.slots = floor-least is_serial fit.window.from (count e) e.slots fit.window.within fit.window.serials in
      record {
        number = fit.number;
        held = fit.held;
        room = fit.room;
        window = record {
          from = f;
          holds = (g (txns e) fit.window.from (omega arith) fit.window.holds).0;
          serials = λ i l h s. let c : floor_in is_serial (count e) e.slots ≤ l.txn.begin = floor-counts is_serial (count e) e.slots i l h s in omega arith;
          within = let c : floor_in is_serial (count e) e.slots ≤ count e = floor-below is_serial (count e) e.slots in omega arith;
        };
        runs = fit.runs;
      }

  pub fits-sweep : Sound e → (v₁ : Versions) (f : ℕ) → f ≡ floor_by (counts true) n ss → versions.SweepBy f v v₁ → spaces v₁ ≡ spaces v → Fits (performed Sweep e) v₁ w ss n
  fits-sweep snd v₁ f q g r =
      let z : f ≡ sweep_floor e = floor_of_lem true f q in
      let up : e.floor ≤ sweep_floor e = sweep_rises e snd in
      record {
        number = fit.number;
        held = subst (λ (k : ℕ). versions.Holds (txns e) k v₁) z (g (txns e) e.floor fit.held (omega arith));
        room = r ∙ fit.room;
        window = record { from = fit.window.from; holds = fit.window.holds; serials = fit.window.serials; within = fit.window.within };
        runs = fit.runs;
      }

  pub fits_restart : Sound e → (v₁ : Versions) (w₁ : Window) (s : Slot) → run_of s ≡ idle → versions.SweepBy n v v₁ → spaces v₁ ≡ spaces v → conflicts.Forgot w w₁ n →
      Fits (restarted (count e) e) v₁ w₁ (replicate 16 s) n
  fits_restart snd v₁ w₁ s still g r f =
      let all : take (count e) e.done ≡ e.done = take_all (count e) e.done (omega arith) in
      let low : e.floor ≤ n = let h : e.floor ≤ count e = snd.floor in let k : n ≡ count e = fit.number in omega arith in
      let within : fit.window.from ≤ n = let h : fit.window.from ≤ count e = fit.window.within in let k : n ≡ count e = fit.number in omega arith in
      record {
        number = fit.number ∙ ap length (sym all);
        held = subst (λ (ds : List Life). versions.Holds (map txn_of ds) (count e) v₁) (sym all)
            (subst (λ (k : ℕ). versions.Holds (txns e) k v₁) fit.number (g (txns e) e.floor fit.held low));
        room = r ∙ fit.room;
        window = record {
          from = n;
          holds = subst (λ (ds : List Life). conflicts.Holds (map txn_of ds) n w₁) (sym all) (f (txns e) fit.window.from within fit.window.holds).0;
          serials = λ i l h s. absurd (none_some (sym (none-there 16 i) ∙ h));
          within = let k : n ≡ count e = fit.number in let j : length (take (count e) e.done) ≡ count e = ap length all in omega arith;
        };
        runs = ap (λ (x : Run). replicate 16 x) still;
      }

  pub fits-counts : (c : Counts) → c.commits ≡ n → versions.CountBy v c.versions → c.busy ≡ count_by (λ (s : Slot). is_going (run_of s)) ss → shown c.commits c.versions c.busy ≡ replied Show e
  fits-counts c p q r =
      let a : c.commits ≡ count e = p ∙ fit.number in
      let b : c.versions ≡ version_count e = q (txns e) e.floor fit.held in
      let z : 0 + busy_in e.slots ≡ busy_in e.slots = omega arith in
      let d : c.busy ≡ busy_in e.slots = r ∙ counted-busy ss ∙ ap (busy_of 0) fit.runs ∙ busy_bare 0 e.slots ∙ z in
      ap (λ (x : ℕ). shown x c.versions c.busy) a ∙ ap (λ (x : ℕ). shown (count e) x c.busy) b ∙ ap (shown (count e) (version_count e)) d

  -- one commit more
  pub fits_enter : Sound e → (v₁ : Versions) (w₁ : Window) (l : Life) → versions.Holds (txns e ++ (l.txn ∷ [])) e.floor v₁ → spaces v₁ ≡ spaces v →
      conflicts.Holds (txns e ++ (l.txn ∷ [])) fit.window.from w₁ → Fits (entered e l) v₁ w₁ ss (n + 1)
  fits_enter snd v₁ w₁ l g r f =
      let m : length (e.done ++ (l ∷ [])) ≡ count e + 1 = length_push e.done l in
      let k : n ≡ count e = fit.number in
      record {
        number = omega arith;
        held = subst (λ (ts : List Txn). versions.Holds ts e.floor v₁) (sym (map_push txn_of e.done l)) g;
        room = r ∙ fit.room;
        window = record {
          from = fit.window.from;
          holds = subst (λ (ts : List Txn). conflicts.Holds ts fit.window.from w₁) (sym (map_push txn_of e.done l)) f;
          serials = fit.window.serials;
          within = let h : fit.window.from ≤ count e = fit.window.within in omega arith;
        };
        runs = fit.runs;
      }

  pub fits-begin : (v₁ : Versions) (w₁ : Window) (ts : List Slot) (m : ℕ) (i : ℕ) (o : Option Level) (l : Level) (t : Txn) → o ≡ Some l → t ≡ began l n →
      (map run_of ts ≡ set (map run_of ss) i (going t)) × (v₁ ≡ v) × (w₁ ≡ w) × (m ≡ n) → Fits (on_begin i o e) v₁ w₁ ts m
  fits-begin v₁ w₁ ts m i o l t p q puts =
      let new : Life = record { txn = began l (count e); given = [] } in
      subst (λ (x : Option Level). Fits (on_begin i x e) v₁ w₁ ts m) (sym p)
      (fits-put v₁ w₁ ts m i (going t) (Some new) (ap going (q ∙ ap (began l) fit.number))
      (λ x k s. let h : new ≡ x = cc in subst (λ (y : Life). fit.window.from ≤ y.txn.begin) h fit.window.within) puts)

  -- a change of what runs in a busy slot that keeps level and begin
  pub fits_change : (v₁ : Versions) (w₁ : Window) (ts : List Slot) (m : ℕ) (i : ℕ) (x : Run) (l k : Life) → slot_at i e ≡ Some l → x ≡ going k.txn →
      k.txn.level ≡ l.txn.level → k.txn.begin ≡ l.txn.begin →
      (map run_of ts ≡ set (map run_of ss) i x) × (v₁ ≡ v) × (w₁ ≡ w) × (m ≡ n) → Fits (with_slot i (Some k) e) v₁ w₁ ts m
  fits_change v₁ w₁ ts m i x l k here q level begin puts =
      fits-put v₁ w₁ ts m i x (Some k) q
      (λ y p s. let h : k ≡ y = cc in
      subst (λ (z : Life). fit.window.from ≤ z.txn.begin) h
      (subst (λ (b : ℕ). fit.window.from ≤ b) (sym begin)
      (fit.window.serials i l here (ap is_serial (sym level) ∙ ap (λ (z : Life). is_serial z.txn.level) h ∙ s))))
      puts

-- a call that is not refused finds its slot busy
busy_by : (f : Life → Option Refusal) (o : Option Life) → busy_refusal f o ≡ None → (l : Life) × (o ≡ Some l) × (f l ≡ None)
busy_by f None p = let z : ◌≡◌ {A = ℕ} 0 1 = cc in absurd (zero_one z)
busy_by f (Some l) p = (l, refl, p)

pub write_goes : (e : Engine) (i k x : ℕ) → refusal_of (Write i k x) e ≡ None → (l : Life) × (slot_at i e ≡ Some l) × (ltb (length l.txn.writes) 64 ≡ true)
write_goes e i k x p =
    let b = busy_by _ (slot_at i e) (goes_through (Write i k x) e p).1 in
    (b.0, b.1, lt-ltb _ 64 (leb-false 64 (length b.0.txn.writes) (when-not _ TooMany b.2)))

pub read_goes : (e : Engine) (i x y : ℕ) → refusal_of (Read i x y) e ≡ None → (l : Life) × (slot_at i e ≡ Some l) × (ltb (length l.txn.reads) 64 ≡ true)
read_goes e i x y p =
    let b = busy_by _ (slot_at i e) (goes_through (Read i x y) e p).1 in
    (b.0, b.1, lt-ltb _ 64 (leb-false 64 (length b.0.txn.reads) (when-not _ TooMany b.2)))

pub commit-goes : (e : Engine) (i : ℕ) → refusal_of (Commit i) e ≡ None → (l : Life) × (slot_at i e ≡ Some l) × (commit_refusal e l ≡ None)
commit-goes e i p = busy_by (commit_refusal e) (slot_at i e) (goes_through (Commit i) e p).1

pub fits-write : (e : Engine) (v : Versions) (w : Window) (ss : List Slot) (n : ℕ) → Fits e v w ss n → (v₁ : Versions) (w₁ : Window) (ts : List Slot) (m : ℕ) (i k x : ℕ) (r s : Run) →
    refusal_of (Write i k x) e ≡ None → s ≡ get_or (map run_of ss) i idle → r ≡ wrote (record { key = k; value = x }) s →
    (map run_of ts ≡ set (map run_of ss) i r) × (v₁ ≡ v) × (w₁ ≡ w) × (m ≡ n) → Fits (on_write i (record { key = k; value = x }) e (slot_at i e)) v₁ w₁ ts m
fits-write e v w ss n fit v₁ w₁ ts m i k x r s free p q puts =
    let new : Entry = record { key = k; value = x } in
    let g = write_goes e i k x free in
    let l : Life = g.0 in
    let here : slot_at i e ≡ Some l = g.1 in
    let run : r ≡ going (with_write new l.txn) =
    q ∙ ap (wrote new) (p ∙ slot-bare e v w ss n fit i ∙ ap bare here) ∙ ap (λ (b : Bool). cond b (going (with_write new l.txn)) (going l.txn)) g.2 in
    subst (λ (o : Option Life). Fits (on_write i new e o) v₁ w₁ ts m) (sym here)
    (fits_change e v w ss n fit v₁ w₁ ts m i r l (written_by new l) here run refl refl puts)

pub fits_read : (e : Engine) (v : Versions) (w : Window) (ss : List Slot) (n : ℕ) → Fits e v w ss n → (v₁ : Versions) (w₁ : Window) (ts : List Slot) (m : ℕ) (i a b at : ℕ) (r : Run) (t : Txn) (l : Life) →
    refusal_of (Read i a b) e ≡ None → slot_at i e ≡ Some l → t ≡ l.txn → at ≡ moment t n → r ≡ read a b at (going t) →
    (map run_of ts ≡ set (map run_of ss) i r) × (v₁ ≡ v) × (w₁ ≡ w) × (m ≡ n) → Fits (on_read i a b e (slot_at i e)) v₁ w₁ ts m
fits_read e v w ss n fit v₁ w₁ ts m i a b at r t l free here same q p puts =
    let g = read_goes e i a b free in
    let k : g.0 ≡ l = cc (g.1, here) in
    let few : ltb (length l.txn.reads) 64 ≡ true = subst (λ (x : Life). ltb (length x.txn.reads) 64 ≡ true) k g.2 in
    let now : at ≡ moment l.txn (count e) = q ∙ ap (λ (x : Txn). moment x n) same ∙ ap (moment l.txn) fit.number in
    let run : r ≡ going (read_by a b e l).txn =
    p ∙ ap (λ (x : Txn). read a b at (going x)) same ∙ ap (λ (q : Bool). cond q (going (with_read a b at l.txn)) (going l.txn)) few
    ∙ ap (λ (x : ℕ). going (with_read a b x l.txn)) now in
    subst (λ (o : Option Life). Fits (on_read i a b e o) v₁ w₁ ts m) (sym here)
    (fits_change e v w ss n fit v₁ w₁ ts m i r l (read_by a b e l) here run refl refl puts)

-- the answer of a read
pub read_told : (e : Engine) (i a b at n : ℕ) (t : Txn) (l : Life) (r : List Entry) → slot_at i e ≡ Some l → t ≡ l.txn → at ≡ moment t n → n ≡ count e →
    r ≡ rules.found (puts t.writes (after empty (take at (txns e)))) a b → found r ≡ read_reply a b e (slot_at i e)
read_told e i a b at n t l r here same q k p =
    let now : at ≡ moment l.txn (count e) = q ∙ ap (λ (x : Txn). moment x n) same ∙ ap (moment l.txn) k in
    ap found (p ∙ ap (λ (x : Txn). rules.found (puts x.writes (after empty (take at (txns e)))) a b) same
    ∙ ap (λ (x : ℕ). rules.found (puts l.txn.writes (after empty (take x (txns e)))) a b) now)
    ∙ ap (read_reply a b e) (sym here)

pub fits-window : (e : Engine) (v : Versions) (w : Window) (ss : List Slot) (n : ℕ) → Fits e v w ss n → (w₁ : Window) → marks_of w₁ ≡ marks_of w → Fits e v w₁ ss n
fits-window e v w ss n fit w₁ p = record {
  number = fit.number;
  held = fit.held;
  room = fit.room;
  window = record { from = fit.window.from; holds = p ∙ fit.window.holds; serials = fit.window.serials; within = fit.window.within };
  runs = fit.runs;
}

pub fits-sync : (e : Engine) (v : Versions) (w : Window) (ss : List Slot) (n : ℕ) → Fits e v w ss n → Fits (performed Sync e) v w ss n
fits-sync e v w ss n fit = record {
  number = fit.number;
  held = fit.held;
  room = fit.room;
  window = record { from = fit.window.from; holds = fit.window.holds; serials = fit.window.serials; within = fit.window.within };
  runs = fit.runs;
}

-- the versions take a commit for which there is room
pub never_refused : (v : Versions) (es : List Entry) (t : Txn) (l : Life) (y : Refusal) → es ≡ t.writes → t ≡ l.txn → outside l.txn.writes ≡ false → room_for v es ≡ true → refusal v es ≡ Some y → ⊥
never_refused v es t l y p q o r z =
    let h : outside es ≡ false = ap outside (p ∙ ap (λ (x : Txn). x.writes) q) ∙ o in
    none_some (sym (ap (λ (b : Bool). cond b (Some OutOfBounds) (cond (room_for v es) None (Some NoRoom))) h ∙ ap (λ (b : Bool). cond b None (Some NoRoom)) r) ∙ z)

pub fits-entered : (e : Engine) → Sound e → (v : Versions) (w : Window) (ss : List Slot) (n : ℕ) → Fits e v w ss n → (i : ℕ) (l : Life) → slot_at i e ≡ Some l → (t : Txn) → t ≡ l.txn →
    (es : List Entry) → es ≡ t.writes → (v₁ : Versions) (w₁ : Window) →
    ((done : List Txn) (floor : ℕ) (u : Txn) → versions.Holds done floor v → u.writes ≡ es → n ≡ length done → floor ≤ n → versions.Holds (done ++ (u ∷ [])) floor v₁) →
    spaces v₁ ≡ spaces v →
    ((done : List Txn) (floor : ℕ) → n ≡ length done → conflicts.Next done floor w t → conflicts.Holds (done ++ (t ∷ [])) floor w₁) →
    Fits (entered e l) v₁ w₁ ss (n + 1)
fits-entered e snd v w ss n fit i l here t same es p v₁ w₁ g r f =
    let k : n ≡ length (txns e) = fit.number ∙ sym (length-map e.done txn_of) in
    let low : e.floor ≤ n = let h : e.floor ≤ count e = snd.floor in let j : n ≡ count e = fit.number in omega arith in
    fits_enter e v w ss n fit snd v₁ w₁ l
    (g (txns e) e.floor l.txn fit.held (ap (λ (x : Txn). x.writes) (sym same) ∙ sym p) k low) r
    (subst (λ (x : Txn). conflicts.Holds (txns e ++ (x ∷ [])) fit.window.from w₁) same
    (f (txns e) fit.window.from k (subst (λ (x : Txn). conflicts.Next (txns e) fit.window.from w x) (sym same) (next e snd v w ss n fit i l here))))
