-- What the window holds of all commits since the start, and what it says of the next.
use Rattle.std.specs.Prelude.{◌≡◌, ℕ, suc, ◌≤◌, Bool, true, false, ◌&&◌, List, [], ◌∷◌, ◌++◌, map, length, Ok, Err, Option, Result, nat_le}
use Rattle.model.specs.declared.Refusal.{Refusal}
use Rattle.model.specs.declared.Refusal.TheVariants.{NoMemory}
use Rattle.model.specs.Lists.{kept}
use Rattle.model.specs.Transactions.{Txn, is_serial}
use Rattle.model.specs.Commits.{Commit, commits, passes, has_pivot, wrote_since, verdict}
use Rattle.conflicts.specs.declared.window.Window.{Window}
use Rattle.conflicts.specs.Marks.{Mark, lowest, marks_of}

abbrev pub commit_number : Commit → ℕ
commit_number a = a.number

-- the mark of a among the commits
abbrev pub mark_among : List Commit → Commit → Mark
mark_among ds a = record {
  number = a.number;
  reads = a.txn.reads;
  writes = a.txn.writes;
  out = lowest commit_number (passes a) ds;
  into = lowest commit_number (λ (d : Commit). passes d a) ds;
}

-- a Serial numbered floor or more
abbrev pub recent : ℕ → Commit → Bool
recent floor a = is_serial a.txn.level && nat_le floor a.number

abbrev pub held_of : ℕ → List Commit → List Mark
held_of floor ds = map (mark_among ds) (kept (recent floor) ds)

-- of the commits done the window holds exactly the Serial ones numbered floor or more, each with what it passes and is
-- passed by among all of them
abbrev pub Holds : List Txn → ℕ → Window → Type 0
Holds done floor w = marks_of w ≡ held_of floor (commits done)

-- w holds what is to be held of any commits from their end on
abbrev pub Fresh : Window → Type 0
Fresh w = (done : List Txn) (floor : ℕ) → length done ≤ floor → Holds done floor w

-- each began no later than it committed, the first with number n
abbrev pub Timely : ℕ → List Txn → Type 0
Timely n [] = Unit {0}
Timely n (t ∷ ts) = (t.begin ≤ n) × Timely (suc n) ts

-- t may come next after the commits done, of which the window holds those from the floor on
pub record Next (done : List Txn) (floor : ℕ) (w : Window) (t : Txn) : Type 0 where
  pub holds : Holds done floor w
  pub timely : Timely 0 done
  pub begun : t.begin ≤ length done
  pub late : is_serial t.level ≡ true → floor ≤ t.begin

-- r says whether there would be a pivot with t, a Serial, among the commits, where there is none yet
abbrev pub PivotTold : Window → Txn → Bool → Type 0
PivotTold w t r = (done : List Txn) (floor : ℕ) → Next done floor w t → is_serial t.level ≡ true → has_pivot done ≡ false → r ≡ has_pivot (done ++ (t ∷ []))

-- w became v as t committed with number n; where memory fails v holds what w did
abbrev pub Entered : Window → Window → Txn → ℕ → {X : Type 0} → Result X Refusal → Type 0
Entered w v t n (Ok x) = (done : List Txn) (floor : ℕ) → n ≡ length done → Next done floor w t → Holds (done ++ (t ∷ [])) floor v
Entered w v t n (Err y) = (y ≡ NoMemory) × (marks_of v ≡ marks_of w)

-- w became v, which holds those from the floor on; nothing, where all commits are below it
abbrev pub Forgot : Window → Window → ℕ → Type 0
Forgot w v floor = (done : List Txn) (f : ℕ) → f ≤ floor → Holds done f w → Holds done floor v × (length done ≤ floor → marks_of v ≡ [])

-- r is the verdict of the rules on t, given whether a commit that it did not see wrote a key that it writes
abbrev pub VerdictTold : Window → Txn → Bool → Option Refusal → Type 0
VerdictTold w t conflict r = (done : List Txn) (floor : ℕ) → Next done floor w t → has_pivot done ≡ false →
    conflict ≡ wrote_since t.begin t.writes done → r ≡ verdict t done
