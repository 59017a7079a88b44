-- Every list of commits that a file can hold is one that some events led to.
use Rattle.std.specs.Prelude.{◌≡◌, ◌^◌, ◌<◌, ◌≤◌, false, List, map, length}
use Rattle.std.specs.List.{AllByRecursion}
use Rattle.model.specs.declared.Entry.{Entry}
use Rattle.model.specs.Transactions.{Txn, outside}
use Rattle.history.specs.Engine.{Engine, idle, txns, count, Event, led}

abbrev pub writes_of : Txn → List Entry
writes_of t = t.writes

-- what one transaction may write: at most 64 times, keys up to 4,095
abbrev pub Writable : List Entry → Type 0
Writable es = (length es ≤ 64) × (outside es ≡ false)

-- as an engine stands that was opened from a file whose commits wrote this: swept, synced, nobody under way
abbrev pub OpenedWith : List (List Entry) → Engine → Type 0
OpenedWith ws e = (map writes_of (txns e) ≡ ws) × (e.floor ≡ count e) × (e.synced ≡ count e) × (e.slots ≡ idle)

abbrev pub EveryPast : Type 0
EveryPast = (ws : List (List Entry)) → AllByRecursion Writable ws → length ws < 2 ^ 32 → (h : List Event) × OpenedWith ws (led h)
