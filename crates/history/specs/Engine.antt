-- The engine as the rules have it: what calls and stops do to it, and what it answers.
use Rattle.std.specs.Prelude.{ℕ, suc, ◌+◌, ◌-◌, ◌*◌, min, Bool, false, cond, not, ◌||◌, List, [], ◌∷◌, ◌++◌, map, length, take, replicate, is_some, Some, None, Option, nat_le, nat_lt, slice_index_or, slice_set}
use Rattle.model.specs.declared.Call.{Call}
use Rattle.model.specs.declared.Call.TheVariants.{Begin, Read, Write, Commit, Abort, Sweep, Sync, Stop, Show}
use Rattle.model.specs.declared.Entry.{Entry}
use Rattle.model.specs.declared.Level.{Level}
use Rattle.model.specs.declared.Refusal.{Refusal}
use Rattle.model.specs.declared.Refusal.TheVariants.{OutOfBounds, SlotState, TooMany, NoRoom, LastCommit}
use Rattle.model.specs.Transactions as rules
use Rattle.model.specs.Transactions.{Txn, is_latest, began, moment, with_read, with_write, answered}
use Rattle.model.specs.Commits.{verdict}
use Rattle.model.specs.Versions.{Version, versions, swept, keys_of}
use Rattle.versions.specs.Chain.{total}

-- a transaction with the answers that its reads were given, in their order
pub record Life : Type 0 where
  pub txn : Txn
  pub given : List (List Entry)

-- done: the commits in their order. synced: so many of them are on the disk for good. floor: of each key the versions
-- behind the first whose number is below it are gone. slots: what is under way in each of the sixteen.
pub record Engine : Type 0 where
  pub done : List Life
  pub synced : ℕ
  pub floor : ℕ
  pub slots : List (Option Life)

abbrev pub idle : List (Option Life)
idle = replicate 16 None

abbrev pub fresh : Engine
fresh = record { done = []; synced = 0; floor = 0; slots = idle }

abbrev pub txn_of : Life → Txn
txn_of l = l.txn

-- the commits alone
abbrev pub txns : Engine → List Txn
txns e = map txn_of e.done

abbrev pub count : Engine → ℕ
count e = length e.done

abbrev pub slot_at : ℕ → Engine → Option Life
slot_at i e = slice_index_or e.slots i None

abbrev pub with_slot : ℕ → Option Life → Engine → Engine
with_slot i s e = record { done = e.done; synced = e.synced; floor = e.floor; slots = slice_set e.slots i s }

-- the versions of a key, and how many all keys have
abbrev pub held_at : Engine → ℕ → List Version
held_at e k = swept e.floor (versions k (txns e))

abbrev pub version_count : Engine → ℕ
version_count e = total (held_at e)

-- how many slots are busy
unfoldable pub busy_in : List (Option Life) → ℕ
busy_in [] = 0
busy_in (None ∷ s) = busy_in s
busy_in (Some l ∷ s) = suc (busy_in s)

abbrev pub lower : (Level → Bool) → ℕ → Option Life → ℕ
lower p n None = n
lower p n (Some l) = cond (p l.txn.level) (min n l.txn.begin) n

-- the lowest begin of those under way whose level counts, or n if that is lower
unfoldable pub floor_in : (Level → Bool) → ℕ → List (Option Life) → ℕ
floor_in p n [] = n
floor_in p n (o ∷ s) = floor_in p (lower p n o) s

-- where the engine sweeps: the lowest begin of all under way at Snapshot or Serial, or the number of commits
abbrev pub sweep_floor : Engine → ℕ
sweep_floor e = floor_in (λ l. not (is_latest l)) (count e) e.slots

-- 1: a number of the call is out of bounds
abbrev pub out_of_bounds : Call → Bool
out_of_bounds (Begin s l) = nat_le 16 s || not (is_some l)
out_of_bounds (Read s a b) = nat_le 16 s || (nat_le b a || nat_lt 4096 b)
out_of_bounds (Write s k v) = nat_le 16 s || nat_le 4096 k
out_of_bounds (Commit s) = nat_le 16 s
out_of_bounds (Abort s) = nat_le 16 s
out_of_bounds Sweep = false
out_of_bounds Sync = false
out_of_bounds Stop = false
out_of_bounds Show = false

abbrev pub when : Bool → Refusal → Option Refusal
when b y = cond b (Some y) None

-- the first of two refusals
abbrev pub first_of : Option Refusal → Option Refusal → Option Refusal
first_of (Some y) z = Some y
first_of None z = z

-- 4, 5, 6, 7: why a commit of what runs in the slot is refused
abbrev pub commit_refusal : Engine → Life → Option Refusal
commit_refusal e l =
    first_of (verdict l.txn (txns e))
    (first_of (when (nat_lt 32768 (version_count e + keys_of l.txn.writes)) NoRoom) (when (nat_le 4294967295 (count e)) LastCommit))

-- 2, 3 and those of a commit, by what the slot has
abbrev pub begin_refusal : Option Life → Option Refusal
begin_refusal None = None
begin_refusal (Some l) = Some SlotState

abbrev pub busy_refusal : (Life → Option Refusal) → Option Life → Option Refusal
busy_refusal f None = Some SlotState
busy_refusal f (Some l) = f l

abbrev pub slot_refusal : Call → Engine → Option Refusal
slot_refusal (Begin s l) e = begin_refusal (slot_at s e)
slot_refusal (Read s a b) e = busy_refusal (λ (l : Life). when (nat_le 64 (length l.txn.reads)) TooMany) (slot_at s e)
slot_refusal (Write s k v) e = busy_refusal (λ (l : Life). when (nat_le 64 (length l.txn.writes)) TooMany) (slot_at s e)
slot_refusal (Commit s) e = busy_refusal (commit_refusal e) (slot_at s e)
slot_refusal (Abort s) e = busy_refusal (λ l. None) (slot_at s e)
slot_refusal Sweep e = None
slot_refusal Sync e = None
slot_refusal Stop e = None
slot_refusal Show e = None

-- why the rules refuse a call, if they do: the lowest number wins
abbrev pub refusal_of : Call → Engine → Option Refusal
refusal_of c e = first_of (when (out_of_bounds c) OutOfBounds) (slot_refusal c e)

-- what is read: as many commits as the transaction sees, under its own writes
abbrev pub reading : ℕ → ℕ → Engine → Life → rules.Read
reading a b e l = record { from = a; to = b; at = moment l.txn (count e); own = l.txn.writes }

abbrev pub read_by : ℕ → ℕ → Engine → Life → Life
read_by a b e l = record {
  txn = with_read a b (moment l.txn (count e)) l.txn;
  given = l.given ++ (answered (txns e) (reading a b e l) ∷ []);
}

abbrev pub written_by : Entry → Life → Life
written_by x l = record { txn = with_write x l.txn; given = l.given }

-- opened again from a file with the first k commits
abbrev pub restarted : ℕ → Engine → Engine
restarted k e = record { done = take k e.done; synced = k; floor = k; slots = idle }

abbrev pub on_begin : ℕ → Option Level → Engine → Engine
on_begin s None e = e
on_begin s (Some l) e = with_slot s (Some (record { txn = began l (count e); given = [] })) e

abbrev pub on_read : ℕ → ℕ → ℕ → Engine → Option Life → Engine
on_read s a b e None = e
on_read s a b e (Some l) = with_slot s (Some (read_by a b e l)) e

abbrev pub on_write : ℕ → Entry → Engine → Option Life → Engine
on_write s x e None = e
on_write s x e (Some l) = with_slot s (Some (written_by x l)) e

abbrev pub on_commit : ℕ → Engine → Option Life → Engine
on_commit s e None = e
on_commit s e (Some l) = record { done = e.done ++ (l ∷ []); synced = e.synced; floor = e.floor; slots = slice_set e.slots s None }

-- what a call does that is not refused
abbrev pub performed : Call → Engine → Engine
performed (Begin s l) e = on_begin s l e
performed (Read s a b) e = on_read s a b e (slot_at s e)
performed (Write s k v) e = on_write s (record { key = k; value = v }) e (slot_at s e)
performed (Commit s) e = on_commit s e (slot_at s e)
performed (Abort s) e = with_slot s None e
performed Sweep e = record { done = e.done; synced = e.synced; floor = sweep_floor e; slots = e.slots }
performed Sync e = record { done = e.done; synced = count e; floor = e.floor; slots = e.slots }
performed Stop e = restarted (count e) e
performed Show e = e

-- an answer
pub data Reply : Type 0 where
  done : Reply
  found : List Entry → Reply
  committed : ℕ → Reply
  shown : (commits held busy : ℕ) → Reply
  refused : Refusal → Reply

abbrev pub read_reply : ℕ → ℕ → Engine → Option Life → Reply
read_reply a b e None = done
read_reply a b e (Some l) = found (answered (txns e) (reading a b e l))

-- the answer to a call that is not refused
abbrev pub replied : Call → Engine → Reply
replied (Begin s l) e = done
replied (Read s a b) e = read_reply a b e (slot_at s e)
replied (Write s k v) e = done
replied (Commit s) e = committed (count e)
replied (Abort s) e = done
replied Sweep e = done
replied Sync e = done
replied Stop e = done
replied Show e = shown (count e) (version_count e) (busy_in e.slots)

-- a refused call changes nothing
abbrev pub unless_refused : Option Refusal → Engine → Engine → Engine
unless_refused (Some y) e f = e
unless_refused None e f = f

abbrev pub called : Call → Engine → Engine
called c e = unless_refused (refusal_of c e) e (performed c e)

abbrev pub or_refused : Option Refusal → Reply → Reply
or_refused (Some y) r = refused y
or_refused None r = r

abbrev pub reply_to : Call → Engine → Reply
reply_to c e = or_refused (refusal_of c e) (replied c e)

-- how many bytes the record of a commit has
abbrev pub record_size : Txn → ℕ
record_size t = 6 + 6 * length t.writes

unfoldable pub bytes_in : List Txn → ℕ
bytes_in [] = 0
bytes_in (t ∷ ts) = record_size t + bytes_in ts

-- how many whole records there are in the first p bytes
unfoldable pub whole_in : ℕ → List Txn → ℕ
whole_in p [] = 0
whole_in p (t ∷ ts) = cond (nat_le (record_size t) p) (suc (whole_in (p - record_size t) ts)) 0

-- what happens to an engine: a call, or a stop of the machine after which the disk has the first so many bytes of the file
pub data Event : Type 0 where
  Called : Call → Event
  Stopped : (bytes : ℕ) → Event

-- a disk keeps what was synced
abbrev pub step : Event → Engine → Engine
step (Called c) e = called c e
step (Stopped p) e = cond (nat_le (bytes_in (take e.synced (txns e))) p) (restarted (whole_in p (txns e)) e) e

unfoldable pub run : Engine → List Event → Engine
run e [] = e
run e (x ∷ xs) = run (step x e) xs

-- what a list of events, from an empty engine on, leads to
abbrev pub led : List Event → Engine
led h = run fresh h
