-- What a reader makes of the bytes at the front of a file.
use Rattle.std.specs.Prelude.{◌≡◌, ℕ, zero, suc, ◌+◌, ◌*◌, cond, List, [], ◌∷◌, ◌++◌, length, take, drop, Some, None, Ok, Err, Option, Result, ◌==◌, nat_le, nat_lt, slice_index}
use Rattle.model.specs.declared.Entry.{Entry}
use Rattle.model.specs.Transactions.{outside}
use Rattle.journal.specs.declared.types.Fault.{Fault}
use Rattle.journal.specs.declared.types.Fault.TheVariants.{UnknownKind, WrongNumber, TooManyWrites, KeyOutOfBounds}
use Rattle.journal.specs.declared.types.Record.{Record}
use Rattle.journal.specs.declared.types.Unfit.{Unfit}
use Rattle.journal.specs.Records.{record_of, FineCommit}

-- the number that the first two or four bytes write
unfoldable pub of2 : List ℕ → ℕ
of2 bs = slice_index bs 0 * 256 + slice_index bs 1

unfoldable pub of4 : List ℕ → ℕ
of4 bs = slice_index bs 0 * 16777216 + slice_index bs 1 * 65536 + slice_index bs 2 * 256 + slice_index bs 3

unfoldable pub entry_of : List ℕ → Entry
entry_of bs = record { key = of2 bs; value = of4 (drop 2 bs) }

unfoldable pub entries_of : ℕ → List ℕ → List Entry
entries_of zero bs = []
entries_of (suc n) bs = entry_of bs ∷ entries_of n (drop 6 bs)

-- how many writes the record says it has
abbrev pub counted : List ℕ → ℕ
counted bs = slice_index bs 5

abbrev pub entries_in : List ℕ → List Entry
entries_in bs = entries_of (counted bs) (drop 6 bs)

-- whole: its writes, and how many bytes it has; short: the bytes end before the record does
pub data Reading : Type 0 where
  whole : List Entry → ℕ → Reading
  short : Reading
  faulty : Fault → Reading

-- a record that does not end behind the bytes, when n are before it
unfoldable pub checked : ℕ → List ℕ → Reading
checked n bs =
    cond (of4 (drop 1 bs) == n)
    (cond (nat_le (counted bs) 64)
    (cond (outside (entries_in bs)) (faulty KeyOutOfBounds) (whole (entries_in bs) (6 + 6 * counted bs)))
    (faulty TooManyWrites))
    (faulty WrongNumber)

-- the record at the front, when n are before it
unfoldable pub parsed : ℕ → List ℕ → Reading
parsed n bs =
    cond (length bs == 0) short
    (cond (slice_index bs 0 == 1)
    (cond (nat_lt (length bs) 6) short (cond (nat_lt (length bs) (6 + 6 * counted bs)) short (checked n bs)))
    (faulty UnknownKind))

-- what the reader answers
abbrev pub outlined : Reading → Result (Option Record) Fault
outlined (whole es k) = Ok (Some (record { bytes = k; count = length es }))
outlined short = Ok None
outlined (faulty why) = Err why

-- what the reader leaves where the writes go: they stand in front, and all else is as it was
abbrev pub laid : Reading → List Entry → List Entry
laid (whole es k) xs = es ++ drop (length es) xs
laid short xs = xs
laid (faulty why) xs = xs

-- where a record is whole, its bytes are those of its number and its writes, and a commit can have these
abbrev pub RecordIn : ℕ → List ℕ → Reading → Type 0
RecordIn n bs (whole es k) = (take k bs ≡ record_of n es) × FineCommit es
RecordIn n bs short = Unit {0}
RecordIn n bs (faulty why) = Unit {0}

-- what an encoder has written is read as what it was given, and that can be
abbrev pub ReadBack : ℕ → List Entry → List ℕ → Result ℕ Unfit → Type 0
ReadBack n es after (Ok k) = (parsed n after ≡ whole es k) × FineCommit es
ReadBack n es after (Err why) = Unit {0}
