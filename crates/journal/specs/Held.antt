-- What a journal holds.
use Rattle.std.specs.Prelude.{◌≡◌, ℕ, ◌+◌, ◌-◌, true, false, List, [], ◌∷◌, ◌++◌, length, take, Some, Ok, Err, Result}
use Rattle.model.specs.declared.Entry.{Entry}
use Rattle.journal.specs.declared.gather.Journal.{Journal}
use Rattle.journal.specs.declared.types.Unfit.{Unfit}
use Rattle.journal.specs.Records.{record_of, fits, misfit, FineCommit}
use Rattle.journal.specs.Files.{file_from}

-- the bytes so far
abbrev pub held_of : Journal → List ℕ
held_of j = take j.len j.bytes.now

-- how many more have room
abbrev pub room_of : Journal → ℕ
room_of j = length j.bytes.now - j.len

-- the record stands behind the bytes so far; or all is as it was, where it does not fit
abbrev pub Appended : {A : Type 0} → ℕ → List Entry → Journal → Journal → Result A Unfit → Type 0
Appended n es i j (Ok u) =
    (fits es (room_of i) ≡ true) × (held_of j ≡ held_of i ++ record_of n es) × (room_of j ≡ room_of i - length (record_of n es))
Appended n es i j (Err why) =
    (fits es (room_of i) ≡ false) × (misfit es (room_of i) ≡ Some why) × (held_of j ≡ held_of i) × (room_of j ≡ room_of i)

-- the commits whose records are held: with this one, or those before
abbrev pub gathered : {A : Type 0} → List (List Entry) → List Entry → Result A Unfit → List (List Entry)
gathered ws es (Ok u) = ws ++ es ∷ []
gathered ws es (Err why) = ws

-- where the bytes so far are the records of commits, and the number follows theirs, they are so with the commit
abbrev pub Gathered : {A : Type 0} → ℕ → List Entry → Journal → Journal → Result A Unfit → Type 0
Gathered m es i j r = (n : ℕ) (ws : List (List Entry)) → held_of i ≡ file_from n ws → m ≡ n + length ws → held_of j ≡ file_from n (gathered ws es r)

-- only the writes of a commit that can be are taken
abbrev pub FineOnOk : {A : Type 0} → List Entry → Result A Unfit → Type 0
FineOnOk es (Ok u) = FineCommit es
FineOnOk es (Err why) = Unit {0}

-- the record of any commit that can be has room
abbrev pub RoomForAny : Journal → Type 0
RoomForAny j = (es : List Entry) → FineCommit es → fits es (room_of j) ≡ true
