-- What is promised of records and files.
use Rattle.std.specs.Prelude.{◌≡◌, ℕ, ◌+◌, ◌^◌, ◌<◌, List, [], ◌∷◌, ◌++◌, length, take, drop, replicate}
use Rattle.std.specs.List.{AllByRecursion}
use Rattle.model.specs.declared.Entry.{Entry}
use Rattle.journal.specs.declared.types.Fault.TheVariants.{UnknownKind, WrongNumber, TooManyWrites, KeyOutOfBounds}
use Rattle.journal.specs.Records.{record_of, FineCommit}
use Rattle.journal.specs.Parsing.{whole, short, faulty, parsed}
use Rattle.journal.specs.Files.{file_from, file_of, good, bad, replayed, opened, whole_in, behind, on_good}

-- commits that can be: never more than 4,294,967,295
abbrev pub FineCommits : List (List Entry) → Type 0
FineCommits ws = (length ws < 2 ^ 32) × AllByRecursion FineCommit ws

-- a commit's record is read as the commit, whatever follows
abbrev pub RecordBack : Type 0
RecordBack = (n : ℕ) (es : List Entry) (rest : List ℕ) → n < 2 ^ 32 → FineCommit es →
    parsed n (record_of n es ++ rest) ≡ whole es (length (record_of n es))

-- a file of commits is read as the commits
abbrev pub FileBack : Type 0
FileBack = (ws : List (List Entry)) → FineCommits ws → opened (file_of ws) ≡ good ws (length (file_of ws))

-- cut anywhere, it is read as those whose records end before the cut
abbrev pub CutAnywhere : Type 0
CutAnywhere = (ws : List (List Entry)) (p : ℕ) → FineCommits ws →
    opened (take p (file_of ws)) ≡ good (take (whole_in p ws) ws) (length (file_of (take (whole_in p ws) ws)))

-- read in two pieces, with what the first left over in front of the second, bytes are read as at once
abbrev pub InPieces : Type 0
InPieces = (n : ℕ) (a b : List ℕ) →
    replayed n (a ++ b) ≡ on_good (replayed n a) (λ ws used. behind ws used (replayed (n + length ws) (drop used a ++ b)))

-- the bytes that are read as commits are those of the commits' records
abbrev pub Canonical : Type 0
Canonical = (bs : List ℕ) (ws : List (List Entry)) (n : ℕ) → AllByRecursion (λ b. b < 256) bs → opened bs ≡ good ws n → take n bs ≡ file_of ws

-- bytes are read as commits that can be
abbrev pub ReadFine : Type 0
ReadFine = (bs : List ℕ) (ws : List (List Entry)) (n : ℕ) → AllByRecursion (λ b. b < 256) bs → opened bs ≡ good ws n → FineCommits ws

-- a file goes on with the records of what comes after
abbrev pub FilesJoin : Type 0
FilesJoin = (n : ℕ) (ws vs : List (List Entry)) → file_from n (ws ++ vs) ≡ file_from n ws ++ file_from (n + length ws) vs

-- some records byte by byte, and a reading of each kind
pub record Cases : Type 0 where
  pub empty : record_of 0 [] ≡ 1 ∷ 0 ∷ 0 ∷ 0 ∷ 0 ∷ 0 ∷ []
  pub one : record_of 66051 (record { key = 4094; value = 305419896 } ∷ []) ≡ 1 ∷ 0 ∷ 1 ∷ 2 ∷ 3 ∷ 1 ∷ 15 ∷ 254 ∷ 18 ∷ 52 ∷ 86 ∷ 120 ∷ []
  pub read : parsed 2 (1 ∷ 0 ∷ 0 ∷ 0 ∷ 2 ∷ 1 ∷ 0 ∷ 7 ∷ 0 ∷ 0 ∷ 0 ∷ 9 ∷ 1 ∷ []) ≡ whole (record { key = 7; value = 9 } ∷ []) 12
  pub none : parsed 0 [] ≡ short
  pub cut_head : parsed 0 (1 ∷ 9 ∷ 9 ∷ 9 ∷ 9 ∷ []) ≡ short
  pub cut_write : parsed 0 (1 ∷ 9 ∷ 9 ∷ 9 ∷ 9 ∷ 1 ∷ 99 ∷ 0 ∷ 0 ∷ 0 ∷ 0 ∷ []) ≡ short
  pub kind : parsed 0 (2 ∷ []) ≡ faulty UnknownKind
  pub number : parsed 1 (1 ∷ 0 ∷ 0 ∷ 0 ∷ 2 ∷ 0 ∷ []) ≡ faulty WrongNumber
  pub writes : parsed 0 (1 ∷ 0 ∷ 0 ∷ 0 ∷ 0 ∷ 65 ∷ replicate 390 255) ≡ faulty TooManyWrites
  pub key : parsed 0 (1 ∷ 0 ∷ 0 ∷ 0 ∷ 0 ∷ 1 ∷ 16 ∷ 0 ∷ 0 ∷ 0 ∷ 0 ∷ 0 ∷ []) ≡ faulty KeyOutOfBounds
  pub file : opened (1 ∷ 0 ∷ 0 ∷ 0 ∷ 0 ∷ 0 ∷ 1 ∷ 0 ∷ 0 ∷ 0 ∷ 1 ∷ 0 ∷ 1 ∷ 0 ∷ []) ≡ good ([] ∷ [] ∷ []) 12
  pub bad-file : opened (1 ∷ 0 ∷ 0 ∷ 0 ∷ 0 ∷ 0 ∷ 1 ∷ 0 ∷ 0 ∷ 0 ∷ 0 ∷ 0 ∷ []) ≡ bad 6 WrongNumber
