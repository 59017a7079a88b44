-- When the tables of the store are those of an engine as the rules have it.
use Rattle.std.specs.Prelude.{◌≡◌, ℕ, ◌+◌, ◌≤◌, min, Bool, true, cond, not, List, [], ◌∷◌, map, Some, None, Option, slice_index_or}
use Rattle.std.specs.List.{fold}
use Rattle.model.specs.declared.Level.{Level}
use Rattle.model.specs.Transactions.{is_serial, is_latest}
use Rattle.transactions.specs.declared.slot.Slot.{Slot}
use Rattle.transactions.specs.Slots.{Run, idle, going, run_of}
use Rattle.versions.specs.declared.store.Versions.{Versions}
use Rattle.versions.specs.Store.{spaces}
use Rattle.versions.specs.History as versions
use Rattle.conflicts.specs.declared.window.Window.{Window}
use Rattle.conflicts.specs.Held as conflicts
use Rattle.history.specs.Engine.{Life, Engine, txns, count, slot_at}

-- what runs in the slot with this number; a slot that there isn't is idle
abbrev pub run_at : ℕ → List Slot → Run
run_at i ss = slice_index_or (map run_of ss) i idle

-- what runs in a slot, without the answers that it was given
abbrev pub bare : Option Life → Run
bare None = idle
bare (Some l) = going l.txn

-- every Serial under way began with at least f commits done
abbrev pub SerialsFrom : ℕ → Engine → Type 0
SerialsFrom f e = (i : ℕ) (l : Life) → slot_at i e ≡ Some l → is_serial l.txn.level ≡ true → f ≤ l.txn.begin

-- the window has of the commits the Serial ones numbered f or more, and nobody under way needs another
pub record Watches (e : Engine) (w : Window) : Type 0 where
  pub from : ℕ
  pub holds : conflicts.Holds (txns e) from w
  pub serials : SerialsFrom from e
  pub within : from ≤ count e

pub record Fits (e : Engine) (v : Versions) (w : Window) (slots : List Slot) (commits : ℕ) : Type 0 where
  pub number : commits ≡ count e
  pub held : versions.Holds (txns e) e.floor v
  pub room : spaces v ≡ 32768
  pub window : Watches e w
  pub runs : map run_of slots ≡ map bare e.slots

-- the levels whose transactions hold a floor down
abbrev pub counts : Bool → Level → Bool
counts snapshots l = cond snapshots (not (is_latest l)) (is_serial l)

abbrev pub lower_run : (Level → Bool) → ℕ → Run → ℕ
lower_run p n idle = n
lower_run p n (going t) = cond (p t.level) (min n t.begin) n

unfoldable pub floor_of : (Level → Bool) → ℕ → List Run → ℕ
floor_of p n [] = n
floor_of p n (r ∷ rs) = floor_of p (lower_run p n r) rs

-- the same over slots
abbrev pub floor_by : (Level → Bool) → ℕ → List Slot → ℕ
floor_by p n ss = fold (λ (m : ℕ) (s : Slot). lower_run p m (run_of s)) n ss

abbrev pub busy_run : ℕ → Run → ℕ
busy_run n idle = n
busy_run n (going t) = n + 1

unfoldable pub busy_of : ℕ → List Run → ℕ
busy_of n [] = n
busy_of n (r ∷ rs) = busy_of (busy_run n r) rs
