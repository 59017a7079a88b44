-- Which commits are taken into the line, and how far each that is left has been compared with the others.
use Rattle.std.specs.Prelude.{◌≡◌, ℕ, ◌+◌, ◌<◌, Bool, true, false, not, ◌&&◌, List, ◌++◌, map, length, is_none, Some, None, Option, slice_index_or}
use Rattle.std.specs.List.{range_with_len}
use Rattle.model.specs.Lists.{kept}
use Rattle.model.specs.Transactions.{Txn}
use Rattle.order.specs.declared.past.Past.{Past}
use Rattle.order.specs.Order.{stands_before, commit_at, blocked, lined}
use Rattle.order.specs.Past.{past_of}

-- who is taken, where each that is left has a cursor
abbrev pub gone_of : List (Option ℕ) → List Bool
gone_of cursors = map is_none cursors

-- the numbers of those that are not taken
abbrev pub left_of : List Bool → List ℕ
left_of gone = kept (λ i. not (slice_index_or gone i true)) (range_with_len 0 (length gone))

-- number j is left and has to stand before number i
abbrev pub holds_up : List Txn → List Bool → ℕ → ℕ → Bool
holds_up done gone i j = not (slice_index_or gone j true) && stands_before (commit_at done j) (commit_at done i)

-- nobody numbered below c holds up number i
abbrev pub NoneBelow : List Txn → List Bool → ℕ → ℕ → Type 0
NoneBelow done gone i c = (j : ℕ) → j < c → holds_up done gone i j ≡ false

-- number i is left and none of those left has to stand before it
abbrev pub is_free : List Txn → List Bool → ℕ → Bool
is_free done gone i = not (slice_index_or gone i true) && not (blocked done (left_of gone) i)

-- one place a commit, and nobody numbered below the cursor of one that is left holds it up
abbrev pub Compared : List Past → List (Option ℕ) → Type 0
Compared ps cursors = (length cursors ≡ length ps) × ((i c : ℕ) → i < length ps → slice_index_or cursors i None ≡ Some c → NoneBelow (map past_of ps) (gone_of cursors) i c)

-- all numbered below f are taken
abbrev pub Front : ℕ → List (Option ℕ) → Type 0
Front f cursors = (j : ℕ) → j < f → slice_index_or cursors j None ≡ None

-- from those left l and the order so far o on, n more were taken, which left m and the order p; or none was free any
-- more, and the line ends there
abbrev pub Taken : List Txn → ℕ → List ℕ → List ℕ → List ℕ → List ℕ → Bool → Type 0
Taken done n l o m p true = (k : ℕ) → o ++ lined done (n + k) l ≡ p ++ lined done k m
Taken done n l o m p false = (k : ℕ) → o ++ lined done (n + k) l ≡ p
