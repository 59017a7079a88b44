-- What is promised over every list of calls, syncs and stops, from an empty engine on.
use Rattle.std.specs.Prelude.{◌≡◌, ℕ, ◌<◌, ◌≤◌, true, false, ◌⊎◌, List, [], ◌∷◌, ◌++◌, map, take, Some, None, slice_index_or}
use mathlib.Core.List.{Memᴰ}
use Rattle.std.specs.List.{range_with_len}
use Rattle.std.specs.List.Sorted.{IsPermutation}
use Rattle.model.specs.declared.Call.TheVariants.{Read}
use Rattle.model.specs.Transactions.{State, Txn, puts, after, empty, is_latest, alone, answered, both_write}
use Rattle.model.specs.Transactions as rules
use Rattle.order.specs.Order.{line, AllSerial}
use Rattle.history.specs.Engine.{Life, Engine, txn_of, txns, count, slot_at, sweep_floor, refusal_of, reply_to, found, bytes_in, whole_in, Event, Stopped, led}
use Rattle.history.specs.Sound.{nobody}

-- a transaction that has committed or is under way
abbrev pub There : Life → Engine → Type 0
There l e = Memᴰ l e.done ⊎ ((i : ℕ) × (slot_at i e ≡ Some l))

-- a Latest is shown by each read what the last commit before it left, under its own writes
abbrev pub LatestNow : Engine → Type 0
LatestNow e = (s a b : ℕ) (l : Life) → slot_at s e ≡ Some l → is_latest l.txn.level ≡ true → refusal_of (Read s a b) e ≡ None →
    reply_to (Read s a b) e ≡ found (rules.found (puts l.txn.writes (after empty (txns e))) a b)

-- all reads of a Snapshot or Serial were answered as if it ran alone on what stood when it began
abbrev pub OneMoment : Engine → Type 0
OneMoment e = (l : Life) → There l e → is_latest l.txn.level ≡ false → l.given ≡ alone (after empty (take l.txn.begin (txns e))) l.txn

-- of two that were under way together, the later of them a Snapshot or Serial, not both have committed a write of the same key
abbrev pub FirstWins : Engine → Type 0
FirstWins e = (i j : ℕ) → i < j → j < count e → (slice_index_or e.done j nobody).txn.begin ≤ i → is_latest (slice_index_or e.done j nobody).txn.level ≡ false →
    both_write (slice_index_or e.done j nobody).txn.writes (slice_index_or e.done i nobody).txn.writes ≡ false

-- what a transaction was answered when it asked, at whatever level, is still what the commits say
abbrev pub GivenStays : Engine → Type 0
GivenStays e = (l : Life) → There l e → l.given ≡ map (answered (txns e)) l.txn.reads

-- the commits with these numbers, in this order
abbrev pub in_order : Engine → List ℕ → List Life
in_order e order = map (λ n. slice_index_or e.done n nobody) order

-- run alone one after the other from the state m on, each has the answers that it was given when it asked
abbrev pub GivenOneByOne : State → List Life → Type 0
GivenOneByOne m [] = Unit {0}
GivenOneByOne m (l ∷ ls) = (alone m l.txn ≡ l.given) × GivenOneByOne (puts l.txn.writes m) ls

-- an order that has the number of each commit once; run so from nothing on, each has the answers that it was given, and what
-- is left at each key is what stands there
pub record SerialRun (e : Engine) (order : List ℕ) : Type 0 where
  pub all : IsPermutation (range_with_len 0 (count e)) order
  pub each : GivenOneByOne empty (in_order e order)
  pub left : (k : ℕ) → after empty (map txn_of (in_order e order)) k ≡ after empty (txns e) k

-- where all that committed ran at Serial, the line is such an order
abbrev pub SerialLine : Engine → Type 0
SerialLine e = AllSerial (txns e) → SerialRun e (line (txns e))

-- the sweep's floor is never above the begin of a Snapshot or Serial under way
abbrev pub SweepsBelow : Engine → Type 0
SweepsBelow e = (i : ℕ) (l : Life) → slot_at i e ≡ Some l → is_latest l.txn.level ≡ false → sweep_floor e ≤ l.txn.begin

-- whatever comes after, what was synced stays
abbrev pub SyncedStays : List Event → Type 0
SyncedStays h = (more : List Event) →
    ((led h).synced ≤ (led (h ++ more)).synced) × (take (led h).synced (led (h ++ more)).done ≡ take (led h).synced (led h).done)

-- after a stop, with the file cut at any byte at or behind the last sync, there is a first part of the commits, with all synced ones
abbrev pub StopKeeps : List Event → Type 0
StopKeeps h = (p : ℕ) → bytes_in (take (led h).synced (txns (led h))) ≤ p →
    ((led (h ++ (Stopped p ∷ []))).done ≡ take (whole_in p (txns (led h))) (led h).done) × ((led h).synced ≤ whole_in p (txns (led h)))

pub record Promised (h : List Event) : Type 0 where
  pub latest : LatestNow (led h)
  pub moment : OneMoment (led h)
  pub first : FirstWins (led h)
  pub given : GivenStays (led h)
  pub serial : SerialLine (led h)
  pub sweeps : SweepsBelow (led h)
  pub synced : SyncedStays h
  pub stops : StopKeeps h

abbrev pub Promises : Type 0
Promises = (h : List Event) → Promised h
