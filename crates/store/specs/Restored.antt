-- Tables that are filled from the records of a file.
use Rattle.std.specs.Prelude.{◌≡◌, ℕ, ◌+◌, ◌^◌, ◌<◌, ◌≤◌, true, List, [], ◌∷◌, ◌++◌, map, length, replicate, Ok, Err, Result}
use Rattle.model.specs.declared.Entry.{Entry}
use Rattle.model.specs.declared.Level.TheVariants.{Latest}
use Rattle.model.specs.Transactions.{Txn}
use Rattle.transactions.specs.declared.slot.Slot.{Slot}
use Rattle.transactions.specs.Slots.{idle, run_of}
use Rattle.versions.specs.declared.store.Versions.{Versions}
use Rattle.versions.specs.Store.{spaces, room_for}
use Rattle.versions.specs.History as versions
use Rattle.conflicts.specs.declared.window.Window.{Window}
use Rattle.conflicts.specs.Held as conflicts
use Rattle.journal.specs.declared.types.Survey.{Survey}
use Rattle.journal.specs.declared.types.Flaw.{Flaw}
use Rattle.journal.specs.Records.{FineCommit}
use Rattle.journal.specs.Laws.{FineCommits}
use Rattle.journal.specs.Files.{Opened, good, bad, replayed, surveyed}
use Rattle.history.specs.Engine.{Engine, idle as nobody, txns, count}
use Rattle.history.specs.Pasts.{writes_of}
use Rattle.store.specs.declared.state.Tables.{Tables}
use Rattle.store.specs.Calls.{Is}

-- a commit of which only the writes are known
abbrev pub plain : List Entry → Txn
plain es = record { level = Latest; begin = 0; reads = []; writes = es }

-- the commits with these writes, and nobody under way
pub record Loaded (ws : List (List Entry)) (v : Versions) (w : Window) (slots : List Slot) (commits : ℕ) : Type 0 where
  pub fine : FineCommits ws
  pub number : commits ≡ length ws
  pub floor : ℕ
  pub low : floor ≤ length ws
  pub held : versions.Holds (map plain ws) floor v
  pub room : spaces v ≡ 32768
  pub window : conflicts.Fresh w
  pub runs : map run_of slots ≡ replicate 16 idle

abbrev pub Restored : List (List Entry) → Tables → Type 0
Restored ws s = Loaded ws s.versions.now s.window s.slots s.commits

-- the tables are filled from the records of some commits
abbrev pub Filled : Tables → Type 0
Filled s = (ws : List (List Entry)) × Restored ws s

-- what any commit that can be makes has room
abbrev pub MakesRoom : List Entry → Tables → Tables → Type 0
MakesRoom es s t = (ws : List (List Entry)) → Restored ws s → length es ≤ 64 → Restored ws t × (room_for t.versions.now es ≡ true)

-- one commit more
abbrev pub Restores : List Entry → Tables → Tables → Type 0
Restores es s t = (ws : List (List Entry)) → Restored ws s → FineCommit es → length ws + 1 < 2 ^ 32 → Restored (ws ++ es ∷ []) t

-- the commits of all records are there; before a bad record, those of the records in front of it
abbrev pub RestoredBy : List (List Entry) → Opened → Tables → Type 0
RestoredBy ws (good more used) t = Restored (ws ++ more) t
RestoredBy ws (bad at why) t = (more : List (List Entry)) × Restored (ws ++ more) t

-- the records in the bytes come behind the commits so far
abbrev pub Replays : List ℕ → Tables → Tables → Result Survey Flaw → Type 0
Replays bs s t r = (ws : List (List Entry)) → Restored ws s →
    (r ≡ surveyed (length ws) (replayed (length ws) bs)) × RestoredBy ws (replayed (length ws) bs) t

abbrev pub EndsIn : List ℕ → Result Survey Flaw → Type 0
EndsIn bs (Ok x) = x.bytes ≤ length bs
EndsIn bs (Err f) = f.at ≤ length bs

-- an engine with these commits, swept, nobody under way
abbrev pub Settled : List (List Entry) → Engine → Type 0
Settled ws e = (map writes_of (txns e) ≡ ws) × (e.floor ≡ count e) × (e.slots ≡ nobody)

-- the tables are those of any such engine
abbrev pub Settles : Tables → Tables → Type 0
Settles s t = (ws : List (List Entry)) → Restored ws s → (e : Engine) → Settled ws e → Is e t
