-- What each method of the store does, by the engine as the rules have it.
use Rattle.std.specs.Prelude.{◌≡◌, ℕ, ◌-◌, ◌<◌, ◌≤◌, Bool, true, false, ◌||◌, ◌⊎◌, List, [], ◌∷◌, ◌++◌, map, length, take, drop, Some, None, Ok, Err, vec_items, Option, Result, nat_lt, slice_set}
use Rattle.std.specs.List.{AllByRecursion}
use Rattle.model.specs.declared.Answer.{Answer}
use Rattle.model.specs.declared.Answer.TheVariants.{Done, Found, Committed, Shown}
use Rattle.model.specs.declared.Call.{Call}
use Rattle.model.specs.declared.Call.TheVariants.{Begin, Read, Write, Commit, Abort, Sweep, Sync, Stop, Show}
use Rattle.model.specs.declared.Refusal.{Refusal}
use Rattle.model.specs.declared.Refusal.TheVariants.{NoMemory}
use Rattle.model.specs.declared.Counts.{Counts}
use Rattle.model.specs.declared.Entry.{Entry}
use Rattle.model.specs.Transactions as rules
use Rattle.model.specs.Transactions.{Txn, is_serial, puts, after, empty, moment}
use Rattle.transactions.specs.Slots.{Run, going, run_of}
use Rattle.history.specs.Engine.{Life, Engine, txns, count, slot_at, commit_refusal, slot_refusal, refusal_of, performed, replied, reply_to, Reply, done, found, committed, shown, refused, Event, Called, led}
use Rattle.history.specs.Pasts.{writes_of}
use Rattle.history.specs.Sound.{Sound}
use Rattle.journal.specs.declared.gather.Journal.{Journal}
use Rattle.journal.specs.Held.{held_of, room_of}
use Rattle.journal.specs.Files.{file_from, file_of}
use Rattle.journal.specs.Records.{FineCommit}
use Rattle.store.specs.Fits.{Fits}
use Rattle.store.specs.declared.calls.Seen.{Seen}
use Rattle.store.specs.declared.state.Tables.{Tables}

-- the tables are those of the engine e
abbrev pub Is : Engine → Tables → Type 0
Is e s = Fits e s.versions.now s.window s.slots s.commits

abbrev pub reply_in : Answer → Reply
reply_in Done = done
reply_in (Found v) = found (vec_items v)
reply_in (Committed n) = committed n
reply_in (Shown c) = shown c.commits c.versions c.busy

abbrev pub reply_of : Result Answer Refusal → Reply
reply_of (Ok a) = reply_in a
reply_of (Err y) = refused y

-- r is why the rules refuse the call, whatever engine the tables are
abbrev pub Refuses : Call → Tables → Option Refusal → Type 0
Refuses c s r = (e : Engine) → Sound e → Is e s → r ≡ refusal_of c e

-- the same where all numbers are within their bounds
abbrev pub SlotRefuses : Call → Tables → Option Refusal → Type 0
SlotRefuses c s r = (e : Engine) → Sound e → Is e s → r ≡ slot_refusal c e

-- r is why the transaction, which runs in some slot, may not commit
abbrev pub Judges : Txn → Tables → Option Refusal → Type 0
Judges t s r = (e : Engine) → Sound e → Is e s → (i : ℕ) (l : Life) → slot_at i e ≡ Some l → t ≡ l.txn → r ≡ commit_refusal e l

-- only what runs in a slot has changed
abbrev pub Puts : ℕ → Run → Tables → Tables → Type 0
Puts i x s t =
    (map run_of t.slots ≡ slice_set (map run_of s.slots) i x) × (t.versions.now ≡ s.versions.now) × (t.window ≡ s.window) × (t.commits ≡ s.commits)

-- they are the engine that they were
abbrev pub Keeps : Tables → Tables → Type 0
Keeps s t = (e : Engine) → Is e s → Is e t

-- the tables have done a call that is not refused
abbrev pub Performs : Call → Tables → Tables → Type 0
Performs c s t = (e : Engine) → Sound e → Is e s → refusal_of c e ≡ None → Is (performed c e) t

-- what is in the file once all commits are
abbrev pub writes_in : Engine → List (List Entry)
writes_in e = map writes_of (txns e)

abbrev pub file_in : Engine → List ℕ
file_in e = file_of (writes_in e)

-- the commits that f has and e has not, and their records
abbrev pub new_in : Engine → Engine → List (List Entry)
new_in e f = drop (count e) (writes_in f)

abbrev pub records_in : Engine → Engine → List ℕ
records_in e f = file_from (count e) (new_in e f)

-- where e has become f, the journal has gained the records that make the file of e that of f
pub record Recorded (e f : Engine) (i j : Journal) : Type 0 where
  pub bytes : held_of j ≡ held_of i ++ records_in e f
  pub room : room_of j ≡ room_of i - length (records_in e f)
  pub file : file_in f ≡ file_in e ++ records_in e f
  pub fine : AllByRecursion FineCommit (new_in e f)

abbrev pub lack_in : ℕ → Option Life → Bool
lack_in room None = false
lack_in room (Some l) = is_serial l.txn.level || nat_lt room 390

-- where memory may be wanted: for what a read finds, for what is kept of a Serial that commits, and for a record where
-- the journal has no room for the largest
abbrev pub may_lack_room : Call → Engine → ℕ → Bool
may_lack_room (Begin s l) e room = false
may_lack_room (Read s a b) e room = true
may_lack_room (Write s k v) e room = false
may_lack_room (Commit s) e room = lack_in room (slot_at s e)
may_lack_room (Abort s) e room = false
may_lack_room Sweep e room = false
may_lack_room Sync e room = false
may_lack_room Stop e room = false
may_lack_room Show e room = false

-- the call is answered by the rules; or it is not refused by them and memory is wanted, and all is as before
abbrev pub AnswersRecording : Call → Engine → Engine → Reply → Journal → Tables → Journal → Result Answer Refusal → Type 0
AnswersRecording c e f r i t j a =
    (Is f t × (reply_of a ≡ r) × Recorded e f i j)
    ⊎ ((refusal_of c e ≡ None) × (may_lack_room c e (room_of i) ≡ true) × Is e t × (reply_of a ≡ refused NoMemory) × (j ≡ i))

abbrev pub PerformsRecording : Call → Tables → Journal → Tables → Journal → Result Answer Refusal → Type 0
PerformsRecording c s i t j a = (e : Engine) → Sound e → Is e s → refusal_of c e ≡ None → AnswersRecording c e (performed c e) (replied c e) i t j a

abbrev pub serial_in : Option Life → Bool
serial_in None = false
serial_in (Some l) = is_serial l.txn.level

-- where memory may be wanted, where nobody wants the records: for what a read finds, and for what is kept of a Serial
-- that commits
abbrev pub may_lack : Call → Engine → Bool
may_lack (Begin s l) e = false
may_lack (Read s a b) e = true
may_lack (Write s k v) e = false
may_lack (Commit s) e = serial_in (slot_at s e)
may_lack (Abort s) e = false
may_lack Sweep e = false
may_lack Sync e = false
may_lack Stop e = false
may_lack Show e = false

-- the call is answered by the rules; or memory is wanted, and all is as before
abbrev pub Answers : Call → Engine → Engine → Reply → Tables → Result Answer Refusal → Type 0
Answers c e f r t a =
    (Is f t × (reply_of a ≡ r)) ⊎ ((may_lack c e ≡ true) × Is e t × (reply_of a ≡ refused NoMemory))

abbrev pub PerformsOr : Call → Tables → Tables → Result Answer Refusal → Type 0
PerformsOr c s t a = (e : Engine) → Sound e → Is e s → refusal_of c e ≡ None → Answers c e (performed c e) (replied c e) t a

abbrev pub Counted : Tables → Counts → Type 0
Counted s r = (e : Engine) → Is e s → shown r.commits r.versions r.busy ≡ replied Show e

-- what stands for t at a key when the first at commits are done, where no version that it needs is gone
abbrev pub StandsAt : Txn → ℕ → ℕ → Tables → ℕ → Type 0
StandsAt t at k s r = (e : Engine) → Is e s → e.floor ≤ at → k < 4096 → r ≡ puts t.writes (after empty (take at (txns e))) k

abbrev pub Finds : Txn → ℕ → ℕ → ℕ → Tables → List Entry → Type 0
Finds t at a b s r = (e : Engine) → Is e s → e.floor ≤ at → b ≤ 4096 → r ≡ rules.found (puts t.writes (after empty (take at (txns e)))) a b

-- what a look at a range answers: what the transaction in the slot finds, and how many commits it sees; memory may be wanted
abbrev pub Looks : Run → ℕ → ℕ → Tables → Result Seen Refusal → Type 0
Looks q a b s (Ok x) = (t : Txn) → q ≡ going t → (x.at ≡ moment t s.commits) × Finds t x.at a b s (vec_items x.entries)
Looks q a b s (Err y) = (t : Txn) → q ≡ going t → y ≡ NoMemory

-- a commit of the transaction that runs in the slot
abbrev pub CommitsBy : ℕ → Txn → Tables → Journal → Tables → Journal → Result Answer Refusal → Type 0
CommitsBy k t s i u j r = (e : Engine) (l : Life) → Sound e → Is e s → slot_at k e ≡ Some l → t ≡ l.txn → refusal_of (Commit k) e ≡ None →
    AnswersRecording (Commit k) e (performed (Commit k) e) (replied (Commit k) e) i u j r

-- the commit is among the others and its record in the journal, and its slot is still busy; or memory is wanted
abbrev pub entered : Engine → Life → Engine
entered e l = record { done = e.done ++ (l ∷ []); synced = e.synced; floor = e.floor; slots = e.slots }

abbrev pub Enters : {X : Type 0} → Txn → Tables → Journal → Tables → Journal → Result X Refusal → Type 0
Enters t s i u j (Ok x) = (e : Engine) (k : ℕ) (l : Life) → Sound e → Is e s → slot_at k e ≡ Some l → t ≡ l.txn → Is (entered e l) u × Recorded e (entered e l) i j
Enters t s i u j (Err y) = (e : Engine) (k : ℕ) (l : Life) → Sound e → Is e s → slot_at k e ≡ Some l → t ≡ l.txn → commit_refusal e l ≡ None →
    (lack_in (room_of i) (Some l) ≡ true) × Is e u × (y ≡ NoMemory) × (j ≡ i)

-- whatever events led to the tables, they are where they and the call lead, and the answer is the one that the rules give
abbrev pub DoesRecording : Call → Tables → Journal → Tables → Journal → Result Answer Refusal → Type 0
DoesRecording c s i t j a = (h : List Event) → Is (led h) s → AnswersRecording c (led h) (led (h ++ (Called c ∷ []))) (reply_to c (led h)) i t j a

abbrev pub Does : Call → Tables → Tables → Result Answer Refusal → Type 0
Does c s t a = (h : List Event) → Is (led h) s → Answers c (led h) (led (h ++ (Called c ∷ []))) (reply_to c (led h)) t a

-- some events, from an empty engine on, led to the tables
abbrev pub Led : Tables → Type 0
Led s = (h : List Event) × Is (led h) s
