-- The serial order of commits: who has to stand before whom, the line, and what it promises.
use Rattle.std.specs.Prelude.{◌≡◌, ℕ, zero, suc, ◌<◌, Bool, false, not, ◌&&◌, ◌||◌, List, [], ◌∷◌, map, length, Some, None, Option, ◌==◌, nat_lt}
use Rattle.std.specs.List.{range_with_len, AllByRecursion}
use Rattle.std.specs.List.Sorted.{IsPermutation}
use Rattle.model.specs.declared.Level.TheVariants.{Serial}
use Rattle.model.specs.Lists.{any, kept}
use Rattle.model.specs.Transactions.{State, Read, Txn, puts, after, empty, alone, answered, reads_some, both_write, is_latest}
use Rattle.model.specs.Commits.{Commit, unseen}
use Rattle.conflicts.specs.Marks.{lowest}
use Rattle.conflicts.specs.Laws.{nth, Allowed}

-- both wrote a key, and a's number is the lower
abbrev pub wrote_first : Commit → Commit → Bool
wrote_first a b = nat_lt a.number b.number && both_write b.txn.writes a.txn.writes

-- a range of b looks at a key that a wrote, and b saw a
abbrev pub was_seen : Commit → Commit → Bool
was_seen a b = nat_lt a.number b.txn.begin && reads_some b.txn.reads a.txn.writes

-- a range of a looks at a key that b wrote, and a did not see b
abbrev pub did_not_see : Commit → Commit → Bool
did_not_see a b = unseen a.txn.begin b && reads_some a.txn.reads b.txn.writes

-- a has to stand before b
abbrev pub stands_before : Commit → Commit → Bool
stands_before a b = not (a.number == b.number) && (wrote_first a b || (was_seen a b || did_not_see a b))

abbrev pub commit_at : List Txn → ℕ → Commit
commit_at done n = record { number = n; txn = nth done n }

-- one of those left has to stand before number i
abbrev pub blocked : List Txn → List ℕ → ℕ → Bool
blocked done left i = any (λ (j : ℕ). stands_before (commit_at done j) (commit_at done i)) left

-- the first of those left that none of them has to stand before; they stand by rising numbers, so it is the lowest
abbrev pub first_free : List Txn → List ℕ → Option ℕ
first_free done left = lowest (λ i. i) (λ i. not (blocked done left i)) left

abbrev pub without : ℕ → List ℕ → List ℕ
without i left = kept (λ j. not (j == i)) left

abbrev pub then_those : Option ℕ → (ℕ → List ℕ) → List ℕ
then_those None f = []
then_those (Some i) f = i ∷ f i

-- the line of those left, n of them at most; it ends early where each has to wait for another
unfoldable pub lined : List Txn → ℕ → List ℕ → List ℕ
lined done zero left = []
lined done (suc n) left = then_those (first_free done left) (λ i. lined done n (without i left))

-- the numbers of all commits, taking each time the lowest that none of the others left has to stand before
abbrev pub line : List Txn → List ℕ
line done = lined done (length done) (range_with_len 0 (length done))

-- the reads of each commit that is no Latest see the commits done at its begin
abbrev pub OneMoment : List Txn → Type 0
OneMoment done = (n : ℕ) → n < length done → is_latest (nth done n).level ≡ false → AllByRecursion (λ (r : Read). r.at ≡ (nth done n).begin) (nth done n).reads

abbrev pub AllSerial : List Txn → Type 0
AllSerial done = (n : ℕ) → n < length done → (nth done n).level ≡ Serial

-- run alone one after the other from the state m on, each has the answers that it had when these were the commits
abbrev pub OneByOne : List Txn → State → List Txn → Type 0
OneByOne done m [] = Unit {0}
OneByOne done m (t ∷ ts) = (alone m t ≡ map (answered done) t.reads) × OneByOne done (puts t.writes m) ts

-- the numbers of all commits in an order in which, run alone one by one from nothing on, each has the same answers, and
-- the same is left
pub record SerialOrder (done : List Txn) (order : List ℕ) : Type 0 where
  pub all : IsPermutation (range_with_len 0 (length done)) order
  pub each : OneByOne done empty (map (nth done) order)
  pub left : (k : ℕ) → after empty (map (nth done) order) k ≡ after empty done k

-- the line of Serials that the rules allow is such an order, so it never ends early
abbrev pub Serializable : Type 0
Serializable = (done : List Txn) → Allowed done → OneMoment done → AllSerial done → SerialOrder done (line done)
