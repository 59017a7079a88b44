-- The verdict on a commit, by the engine that the tables are.
use Rattle.std.proofs.Common.{◌≡◌, ℕ, ◌+◌, Bool, true, false, not, ltb, leb, List, Some, None, Option, sym, refl, ap, ◌∙◌, subst, arith, le-ltb, lt-ltb, leb-false, leb-true}
use lib.ListN.{length-map}
use borrow.Author.Tests.{both_ways}
use Rattle.model.specs.declared.Entry.{Entry}
use Rattle.model.specs.declared.Refusal.{Refusal}
use Rattle.model.specs.declared.Refusal.TheVariants.{NoRoom, LastCommit}
use Rattle.model.specs.Transactions.{Txn}
use Rattle.model.specs.Commits.{verdict}
use Rattle.model.specs.Versions.{keys_of}
use Rattle.transactions.specs.declared.slot.Slot.{Slot}
use Rattle.versions.specs.declared.store.Versions.{Versions}
use Rattle.versions.specs.History.{ConflictBy, RoomBy}
use Rattle.conflicts.specs.declared.window.Window.{Window}
use Rattle.conflicts.specs.Held.{Next, VerdictTold}
use Rattle.conflicts.proofs.Allowing.{allowed-timely, no_pivot}
use Rattle.history.specs.Engine.{Life, Engine, txns, count, slot_at, version_count, when, first_of, commit_refusal}
use Rattle.history.specs.Sound.{Sound}
use Rattle.history.proofs.Refusing.{neither, when-not}
use Rattle.store.specs.Fits.{Fits}

pub then : {X : Type 0} {a b c : X} → a ≡ b → b ≡ c → a ≡ c
then p q = p ∙ q

beyond_if : (x n : ℕ) (q : Bool) → leb x n ≡ q → not q ≡ ltb n x
beyond_if x n true p = sym (le-ltb n x (leb-true x n p))
beyond_if x n false p = sym (lt-ltb n x (leb-false x n p))

-- not at most n is above n
beyond : (x n : ℕ) → not (leb x n) ≡ ltb n x
beyond x n = beyond_if x n (leb x n) refl

module _ (e : Engine) (snd : Sound e) (v : Versions) (w : Window) (ss : List Slot) (n : ℕ) (fit : Fits e v w ss n) (i : ℕ) (l : Life) (here : slot_at i e ≡ Some l) where
  pub next : Next (txns e) fit.window.from w l.txn
  next = record {
    holds = fit.window.holds;
    timely = allowed-timely (txns e) snd.allowed;
    begun = simp length-map (snd.under i l here).begun;
    late = fit.window.serials i l here;
  }

  pub verdict-told : (conflict : Bool) (r : Option Refusal) → ConflictBy v l.txn.writes l.txn.begin conflict → VerdictTold w l.txn conflict r → r ≡ verdict l.txn (txns e)
  verdict-told conflict r q p = p (txns e) fit.window.from next (no_pivot (txns e) snd.allowed) (q (txns e) e.floor fit.held (snd.under i l here).keys)

  pub room-told : (q : Bool) → RoomBy v l.txn.writes q → not q ≡ ltb 32768 (version_count e + keys_of l.txn.writes)
  room-told q p =
      ap not (p (txns e) e.floor fit.held ∙ ap (leb (version_count e + keys_of l.txn.writes)) fit.room) ∙ beyond (version_count e + keys_of l.txn.writes) 32768

  pub judged : (conflict room : Bool) (r : Option Refusal) → ConflictBy v l.txn.writes l.txn.begin conflict → VerdictTold w l.txn conflict r → RoomBy v l.txn.writes room →
      first_of r (first_of (when (not room) NoRoom) (when (leb 4294967295 n) LastCommit)) ≡ commit_refusal e l
  judged conflict room r q p m =
      ap (λ (o : Option Refusal). first_of o (first_of (when (not room) NoRoom) (when (leb 4294967295 n) LastCommit))) (verdict-told conflict r q p)
      ∙ ap (λ (b : Bool). first_of (verdict l.txn (txns e)) (first_of (when b NoRoom) (when (leb 4294967295 n) LastCommit))) (room-told room m)
      ∙ ap (λ (k : ℕ). first_of (verdict l.txn (txns e)) (first_of (when (ltb 32768 (version_count e + keys_of l.txn.writes)) NoRoom) (when (leb 4294967295 k) LastCommit))) fit.number

-- the same of any transaction and writes that are those of the slot
pub judged_of : (e : Engine) → Sound e → (v : Versions) (w : Window) (ss : List Slot) (n : ℕ) → Fits e v w ss n → (i : ℕ) (l : Life) → slot_at i e ≡ Some l →
    (t : Txn) → t ≡ l.txn → (es fs : List Entry) → es ≡ t.writes → fs ≡ t.writes →
    (conflict room : Bool) (r : Option Refusal) → ConflictBy v es t.begin conflict → VerdictTold w t conflict r → RoomBy v fs room →
    first_of r (first_of (when (not room) NoRoom) (when (leb 4294967295 n) LastCommit)) ≡ commit_refusal e l
judged_of e snd v w ss n fit i l here t at es fs p₁ p₂ conflict room r q p m =
    judged e snd v w ss n fit i l here conflict room r
    (subst (λ (x : Txn). ConflictBy v x.writes x.begin conflict) at (subst (λ (x : List Entry). ConflictBy v x t.begin conflict) p₁ q))
    (subst (λ (x : Txn). VerdictTold w x conflict r) at p)
    (subst (λ (x : Txn). RoomBy v x.writes room) at (subst (λ (x : List Entry). RoomBy v x room) p₂ m))

-- where the check refuses, that is why
pub refused-first : (e : Engine) → Sound e → (v : Versions) (w : Window) (ss : List Slot) (n : ℕ) → Fits e v w ss n → (i : ℕ) (l : Life) → slot_at i e ≡ Some l →
    (t : Txn) → t ≡ l.txn → (es : List Entry) → es ≡ t.writes → (conflict : Bool) (y : Refusal) → ConflictBy v es t.begin conflict → VerdictTold w t conflict (Some y) →
    Some y ≡ commit_refusal e l
refused-first e snd v w ss n fit i l here t at es p conflict y q told =
    ap (λ (o : Option Refusal). first_of o (first_of (when (ltb 32768 (version_count e + keys_of l.txn.writes)) NoRoom) (when (leb 4294967295 (count e)) LastCommit)))
    (verdict-told e snd v w ss n fit i l here conflict (Some y)
    (subst (λ (x : Txn). ConflictBy v x.writes x.begin conflict) at (subst (λ (x : List Entry). ConflictBy v x t.begin conflict) p q))
    (subst (λ (x : Txn). VerdictTold w x conflict (Some y)) at told))

-- where it does not, by the room and the number
pub judged_as : (e : Engine) → Sound e → (v : Versions) (w : Window) (ss : List Slot) (n : ℕ) → Fits e v w ss n → (i : ℕ) (l : Life) → slot_at i e ≡ Some l →
    (t : Txn) → t ≡ l.txn → (es fs : List Entry) → es ≡ t.writes → fs ≡ t.writes →
    (conflict room b d : Bool) → ConflictBy v es t.begin conflict → VerdictTold w t conflict None → RoomBy v fs room → room ≡ b → leb 4294967295 n ≡ d →
    first_of (when (not b) NoRoom) (when d LastCommit) ≡ commit_refusal e l
judged_as e snd v w ss n fit i l here t at es fs p₁ p₂ conflict room b d q p m x y =
    ap (λ (k : Bool). first_of (when (not k) NoRoom) (when d LastCommit)) (sym x)
    ∙ ap (λ (k : Bool). first_of (when (not room) NoRoom) (when k LastCommit)) (sym y)
    ∙ judged_of e snd v w ss n fit i l here t at es fs p₁ p₂ conflict room None q p m

-- a commit that is not refused has room and a number
pub commit-fits : (e : Engine) (l : Life) → commit_refusal e l ≡ None → (ltb 32768 (version_count e + keys_of l.txn.writes) ≡ false) × (leb 4294967295 (count e) ≡ false)
commit-fits e l p =
    let q = (neither (verdict l.txn (txns e)) _ p).1 in
    let r = neither (when (ltb 32768 (version_count e + keys_of l.txn.writes)) NoRoom) _ q in
    (when-not _ NoRoom r.0, when-not _ LastCommit r.1)

room_of_lem : (e : Engine) → Sound e → (v : Versions) (w : Window) (ss : List Slot) (n : ℕ) → Fits e v w ss n → (i : ℕ) (l : Life) → slot_at i e ≡ Some l →
    (es : List Entry) → es ≡ l.txn.writes → (q : Bool) → RoomBy v es q → not q ≡ ltb 32768 (version_count e + keys_of l.txn.writes)
room_of_lem e snd v w ss n fit i l here es p q m = room-told e snd v w ss n fit i l here q (subst (λ (x : List Entry). RoomBy v x q) p m)

pub never_full : (e : Engine) → Sound e → (v : Versions) (w : Window) (ss : List Slot) (n : ℕ) → Fits e v w ss n → (i : ℕ) (l : Life) → slot_at i e ≡ Some l →
    (es : List Entry) → es ≡ l.txn.writes → (q : Bool) → RoomBy v es q → q ≡ false → commit_refusal e l ≡ None → ⊥
never_full e snd v w ss n fit i l here es p q m z free =
    both_ways true (sym (ap not z) ∙ room_of_lem e snd v w ss n fit i l here es p q m ∙ (commit-fits e l free).0) refl

pub never_last : (e : Engine) (v : Versions) (w : Window) (ss : List Slot) (n : ℕ) → Fits e v w ss n → (l : Life) → n ≡ 4294967295 → commit_refusal e l ≡ None → ⊥
never_last e v w ss n fit l z free =
    let k : n ≡ count e = fit.number in
    let h = leb-false 4294967295 (count e) (commit-fits e l free).1 in
    omega arith
