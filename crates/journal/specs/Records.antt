-- The record of a commit: the byte 1, the commit's number (4 bytes), how many writes (1), and of each write, in their
-- order, the key (2) and the value (4). High byte first.
use Rattle.std.specs.Prelude.{◌≡◌, ℕ, ◌+◌, ◌*◌, ◌/◌, ◌%◌, ◌^◌, ◌<◌, ◌≤◌, Bool, true, false, cond, not, ◌&&◌, List, [], ◌∷◌, ◌++◌, length, take, drop, Some, None, Ok, Err, Option, Result, nat_le}
use Rattle.std.specs.List.{flat_map, AllByRecursion}
use Rattle.model.specs.declared.Entry.{Entry}
use Rattle.model.specs.Transactions.{outside}
use Rattle.journal.specs.declared.types.Unfit.{Unfit}
use Rattle.journal.specs.declared.types.Unfit.TheVariants.{TooManyWrites, NoRoom, KeyOutOfBounds}

unfoldable pub be2 : ℕ → List ℕ
be2 n = (n / 256 % 256) ∷ (n % 256) ∷ []

unfoldable pub be4 : ℕ → List ℕ
be4 n = (n / 16777216 % 256) ∷ (n / 65536 % 256) ∷ (n / 256 % 256) ∷ (n % 256) ∷ []

unfoldable pub entry_bytes : Entry → List ℕ
entry_bytes e = be2 e.key ++ be4 e.value

-- what stands in front of the writes
unfoldable pub head_bytes : ℕ → ℕ → List ℕ
head_bytes n count = 1 ∷ (be4 n ++ (count ∷ []))

unfoldable pub record_of : ℕ → List Entry → List ℕ
record_of n es = head_bytes n (length es) ++ flat_map entry_bytes es

-- bs stands at place at, all else as it was
unfoldable pub written : ℕ → List ℕ → List ℕ → List ℕ
written at bs xs = take at xs ++ (bs ++ drop (at + length bs) xs)

abbrev pub FineEntry : Entry → Type 0
FineEntry e = (e.key ≤ 4095) × (e.value < 2 ^ 32)

-- the writes of a commit that can be
abbrev pub FineCommit : List Entry → Type 0
FineCommit es = (length es ≤ 64) × AllByRecursion FineEntry es

-- a record with these writes can be, and so many bytes have room for it
unfoldable pub fits : List Entry → ℕ → Bool
fits es room = nat_le (length es) 64 && (nat_le (6 + 6 * length es) room && not (outside es))

-- why not, if so
unfoldable pub misfit : List Entry → ℕ → Option Unfit
misfit es room =
    cond (nat_le (length es) 64)
    (cond (nat_le (6 + 6 * length es) room)
    (cond (outside es) (Some KeyOutOfBounds) None)
    (Some NoRoom))
    (Some TooManyWrites)

-- what an encoder leaves and answers: the record in front and its length, where it fits; or why it does not, and all as it was
abbrev pub Encoded : ℕ → List Entry → List ℕ → List ℕ → Result ℕ Unfit → Type 0
Encoded n es before after (Ok k) =
    (fits es (length before) ≡ true) × (k ≡ length (record_of n es)) × (after ≡ record_of n es ++ drop (length (record_of n es)) before)
Encoded n es before after (Err why) = (fits es (length before) ≡ false) × (misfit es (length before) ≡ Some why) × (after ≡ before)
