-- Lists of commits that the rules allow, and what holds of each of them.
use Rattle.std.specs.Prelude.{◌≡◌, ℕ, ◌<◌, ◌≤◌, Bool, true, false, List, length, take, None, MatchOption, slice_index_or}
use Rattle.model.specs.declared.Level.TheVariants.{Latest}
use Rattle.model.specs.Transactions.{Txn, is_latest, began, both_write}
use Rattle.model.specs.Lists.{any}
use Rattle.model.specs.Commits.{Commit, commits, has_pivot, verdict}
use Rattle.conflicts.specs.Marks.{lowest}
use Rattle.conflicts.specs.Held.{commit_number}

-- the commit with number n
abbrev pub nth : List Txn → ℕ → Txn
nth done n = slice_index_or done n (began Latest 0)

abbrev pub commit_at : List Txn → ℕ → Commit
commit_at done n = record { number = n; txn = nth done n }

-- each commit was allowed by the rules after those before it, and had begun by then
abbrev pub Allowed : List Txn → Type 0
Allowed done = (n : ℕ) → n < length done → (verdict (nth done n) (take n done) ≡ None) × ((nth done n).begin ≤ n)

-- of two that were under way together, the second of them a Snapshot or a Serial, not both have written a key
abbrev pub FirstWins : Type 0
FirstWins = (done : List Txn) → Allowed done → (i j : ℕ) → i < j → j < length done → (nth done j).begin ≤ i →
    is_latest (nth done j).level ≡ false → both_write (nth done j).writes (nth done i).writes ≡ false

-- nobody is a pivot
abbrev pub NoPivot : Type 0
NoPivot = (done : List Txn) → Allowed done → has_pivot done ≡ false

-- the number that a mark keeps is the lowest: its commit passes the test and none before it does; and where none is
-- kept nobody passes it
abbrev pub Lowest : Type 0
Lowest = (done : List Txn) (p : Commit → Bool) → MatchOption (lowest commit_number p (commits done)) (any p (commits done) ≡ false)
    (λ k. (k < length done) × (p (commit_at done k) ≡ true) × ((j : ℕ) → j < k → p (commit_at done j) ≡ false))
