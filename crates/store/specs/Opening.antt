-- Opening a file that is read in pieces.
use Rattle.std.specs.Prelude.{◌≡◌, ℕ, ◌^◌, ◌<◌, ◌≤◌, true, false, cond, not, ◌&&◌, List, [], ◌∷◌, ◌++◌, map, take, drop, is_some, is_ok, Some, None, Ok, Err, vec_items, Result, ◌==◌}
use Rattle.std.specs.List.{AllByRecursion}
use Rattle.model.specs.declared.Call.TheVariants.{Begin, Read, Write, Commit, Abort, Sweep, Sync, Stop, Show}
use Rattle.versions.specs.Store.{spaces}
use Rattle.journal.specs.Laws.{FineCommits}
use Rattle.journal.specs.Files.{Opened, good, bad, opened, file_of}
use Rattle.history.specs.Engine.{Engine, fresh, txns, bytes_in, Event, Called, Stopped, led}
use Rattle.history.specs.Pasts.{writes_of}
use Rattle.store.specs.declared.opening.OpenError.{OpenError}
use Rattle.store.specs.declared.opening.OpenError.TheVariants.{Bad, NotLoading}
use Rattle.store.specs.declared.reader.Reader.{Reader}
use Rattle.store.specs.declared.stage.Stage.TheVariants.{Loading, Unreadable}
use Rattle.store.specs.declared.state.Tables.{Tables}
use Rattle.store.specs.declared.store.Store.{Store}
use Rattle.store.specs.Answers.{ready_of}
use Rattle.store.specs.Calls.{Is}
use Rattle.store.specs.Reader.{Blank}
use Rattle.store.specs.Restored.{Restored, Settled}
use Rattle.store.specs.Stages.{is_loading}

-- the reader and the tables by what the bytes so far mean
abbrev pub ReadSo : Opened → List ℕ → Reader → Tables → Type 0
ReadSo (good ws used) bs r s = Restored ws s × (vec_items r.left ≡ drop used bs) × (r.at ≡ used) × (r.flaw ≡ None)
ReadSo (bad at why) bs r s = r.flaw ≡ Some (record { at = at; why = why })

-- a file is being read, and its bytes so far are bs
abbrev pub Reads : List ℕ → Reader → Store → Type 0
Reads bs r s = (s.stage ≡ Loading) × ReadSo (opened bs) bs r s.tables.now

-- a file is being read of which there are no bytes so far, unless the words have the wrong lengths
abbrev pub Starts : Store → Store → Type 0
Starts s t =
    (t.stage ≡ cond (spaces s.tables.now.versions.now == 32768) Loading Unreadable) ×
    ((r : Reader) → Blank r → t.stage ≡ Loading → Reads [] r t)

-- with the piece behind the bytes so far; or memory is wanted, and all is as before
abbrev pub ReadOn : {X Y : Type 0} → List ℕ → Reader → Reader → Store → Store → Result X Y → Type 0
ReadOn piece r q s t (Ok x) = (bs : List ℕ) → Reads bs r s → Reads (bs ++ piece) q t
ReadOn piece r q s t (Err y) = (bs : List ℕ) → Reads bs r s → Reads bs q t

-- nothing happens where no file is being read, nor behind a flaw
abbrev pub Idles : {X Y : Type 0} → Reader → Reader → Store → Store → Result X Y → Type 0
Idles r q s t a =
    (t.stage ≡ s.stage) ×
    ((is_loading s.stage && not (is_some r.flaw)) ≡ false → (is_ok a ≡ true) × (q ≡ r) × (t.tables.now ≡ s.tables.now))

-- what comes of it: the engine of the file's commits; or none, and no commit is held
abbrev pub OpensBy : Opened → Store → Result ℕ OpenError → Type 0
OpensBy (good ws used) t a = (a ≡ Ok used) × (ready_of t ≡ true) × ((e : Engine) → Settled ws e → Is e t.tables.now)
OpensBy (bad at why) t a = (a ≡ Err (Bad (record { at = at; why = why }))) × (t.stage ≡ Unreadable) × Is fresh t.tables.now

abbrev pub Opens : Reader → Store → Store → Result ℕ OpenError → Type 0
Opens r s t a = (bs : List ℕ) → Reads bs r s → OpensBy (opened bs) t a

-- the values of a call are numbers of 32 bits
abbrev pub Small : Event → Type 0
Small (Called (Begin s l)) = Unit {0}
Small (Called (Read s a b)) = Unit {0}
Small (Called (Write s k v)) = v < 2 ^ 32
Small (Called (Commit s)) = Unit {0}
Small (Called (Abort s)) = Unit {0}
Small (Called Sweep) = Unit {0}
Small (Called Sync) = Unit {0}
Small (Called Stop) = Unit {0}
Small (Called Show) = Unit {0}
Small (Stopped p) = Unit {0}

-- of such calls a file can hold the commits
abbrev pub SmallFine : Type 0
SmallFine = (h : List Event) → AllByRecursion Small h → FineCommits (map writes_of (txns (led h)))

-- the file of an engine, cut at or behind what was synced, opens as the engine after that stop
abbrev pub OpensCut : Reader → Store → Store → Type 0
OpensCut r s t = (h : List Event) (p : ℕ) → FineCommits (map writes_of (txns (led h))) → bytes_in (take (led h).synced (txns (led h))) ≤ p →
    Reads (take p (file_of (map writes_of (txns (led h))))) r s → (ready_of t ≡ true) × Is (led (h ++ (Stopped p ∷ []))) t.tables.now

-- no file was being read, and all is as it was
abbrev pub NotOpened : Store → Store → Result ℕ OpenError → Type 0
NotOpened s t a = is_loading s.stage ≡ false → (a ≡ Err NotLoading) × (t.stage ≡ s.stage) × (t.tables.now ≡ s.tables.now)
