-- The commits that led to a store of versions, and what its answers are by them.
use Rattle.std.specs.Prelude.{◌≡◌, ℕ, ◌+◌, ◌<◌, ◌≤◌, Bool, false, List, [], ◌∷◌, ◌++◌, length, take, Ok, Err, Result, nat_le}
use Rattle.model.specs.declared.Entry.{Entry}
use Rattle.model.specs.declared.Refusal.{Refusal}
use Rattle.model.specs.Transactions.{Txn, empty, after}
use Rattle.model.specs.Commits.{wrote_since}
use Rattle.model.specs.Versions.{versions, swept, keys_of}
use Rattle.versions.specs.declared.store.Versions.{Versions}
use Rattle.model.specs.Transactions.{outside}
use Rattle.versions.specs.Chain.{total}
use Rattle.versions.specs.Store.{held, size, spaces}
use Rattle.versions.specs.Laws.{written_since}

-- the store holds the versions that the commits left, swept at the floor
abbrev pub Holds : List Txn → ℕ → Versions → Type 0
Holds done floor v = (k : ℕ) → k < 4096 → held v k ≡ swept floor (versions k done)

-- whatever commits led here, the answer is what they left at the key when the first at were done
abbrev pub ShownBy : Versions → ℕ → ℕ → ℕ → Type 0
ShownBy v k at r = (done : List Txn) (floor : ℕ) → Holds done floor v → k < 4096 → floor ≤ at → r ≡ after empty (take at done) k

abbrev pub NewerBy : Versions → ℕ → ℕ → Bool → Type 0
NewerBy v k begin r = (done : List Txn) (floor : ℕ) → Holds done floor v → k < 4096 → r ≡ written_since begin k done

abbrev pub ConflictBy : Versions → List Entry → ℕ → Bool → Type 0
ConflictBy v es begin r = (done : List Txn) (floor : ℕ) → Holds done floor v → outside es ≡ false → r ≡ wrote_since begin es done

-- how many versions the commits left, swept at the floor
abbrev pub size_by : List Txn → ℕ → ℕ
size_by done floor = total (λ k. swept floor (versions k done))

abbrev pub CountBy : Versions → ℕ → Type 0
CountBy v r = (done : List Txn) (floor : ℕ) → Holds done floor v → r ≡ size_by done floor

abbrev pub RoomBy : Versions → List Entry → Bool → Type 0
RoomBy v es r = (done : List Txn) (floor : ℕ) → Holds done floor v → r ≡ nat_le (size_by done floor + keys_of es) (spaces v)

-- the next commit is one more in the history; a refused one leaves it
abbrev pub CommitBy : {A : Type 0} → ℕ → List Entry → Versions → Versions → Result A Refusal → Type 0
CommitBy n es v w (Ok u) =
    (done : List Txn) (floor : ℕ) (t : Txn) → Holds done floor v → t.writes ≡ es → n ≡ length done → floor ≤ n → Holds (done ++ (t ∷ [])) floor w
CommitBy n es v w (Err y) = (done : List Txn) (floor : ℕ) → Holds done floor v → Holds done floor w

abbrev pub SweepBy : ℕ → Versions → Versions → Type 0
SweepBy f v w = (done : List Txn) (floor : ℕ) → Holds done floor v → floor ≤ f → Holds done f w

-- a sweep at the number of commits done leaves one version a key at most
abbrev pub FewBy : ℕ → Versions → Versions → Type 0
FewBy f v w = (done : List Txn) (floor : ℕ) → Holds done floor v → floor ≤ f → length done ≤ f → size w ≤ 4096
