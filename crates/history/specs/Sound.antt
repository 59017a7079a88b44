-- What holds of every engine that events have led to.
use Rattle.std.specs.Prelude.{◌≡◌, ℕ, ◌<◌, ◌≤◌, false, List, [], map, length, Some, slice_index_or}
use mathlib.Core.List.{Memᴰ}
use Rattle.model.specs.declared.Level.TheVariants.{Latest}
use Rattle.model.specs.Transactions as rules
use Rattle.model.specs.Transactions.{Txn, is_latest, began, answered, outside}
use Rattle.conflicts.specs.Laws.{Allowed}
use Rattle.history.specs.Engine.{Life, Engine, txns, count, slot_at, Event, led}

-- a transaction that ended, or stands, when n of the commits ts were done
pub record Lived (ts : List Txn) (n : ℕ) (l : Life) : Type 0 where
  pub begun : l.txn.begin ≤ n
  pub seen : (r : rules.Read) → Memᴰ r l.txn.reads → r.at ≤ n
  pub moment : is_latest l.txn.level ≡ false → (r : rules.Read) → Memᴰ r l.txn.reads → r.at ≡ l.txn.begin
  pub given : l.given ≡ map (answered ts) l.txn.reads
  pub reads : length l.txn.reads ≤ 64
  pub writes : length l.txn.writes ≤ 64
  pub keys : outside l.txn.writes ≡ false

abbrev pub nobody : Life
nobody = record { txn = began Latest 0; given = [] }

pub record Sound (e : Engine) : Type 0 where
  pub allowed : Allowed (txns e)
  pub ended : (i : ℕ) → i < count e → Lived (txns e) i (slice_index_or e.done i nobody)
  pub under : (i : ℕ) (l : Life) → slot_at i e ≡ Some l → Lived (txns e) (count e) l
  pub above : (i : ℕ) (l : Life) → slot_at i e ≡ Some l → is_latest l.txn.level ≡ false → e.floor ≤ l.txn.begin
  pub floor : e.floor ≤ count e
  pub synced : e.synced ≤ count e
  pub sixteen : length e.slots ≡ 16

abbrev pub AllSound : Type 0
AllSound = (h : List Event) → Sound (led h)
