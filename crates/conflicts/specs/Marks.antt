-- What is kept of committed Serials, and what it says of one more.
use Rattle.std.specs.Prelude.{◌≡◌, ℕ, Bool, true, cond, ◌&&◌, ◌||◌, List, [], ◌∷◌, ◌++◌, map, find, option_map, is_some, Some, None, Ok, Err, vec_items, Option, Result, nat_le, nat_lt}
use Rattle.model.specs.declared.Entry.{Entry}
use Rattle.model.specs.declared.Level.{Level}
use Rattle.model.specs.declared.Refusal.{Refusal}
use Rattle.model.specs.declared.Refusal.TheVariants.{NoMemory, WriteConflict, Pivot}
use Rattle.model.specs.Lists.{any}
use Rattle.model.specs.Transactions.{Read, Txn, reads_some, is_serial, is_latest}
use Rattle.transactions.specs.Noted.{read_of}
use Rattle.conflicts.specs.declared.window.Committed.{Committed}
use Rattle.conflicts.specs.declared.window.Window.{Window}

-- a committed Serial: out is the lowest number of a commit that it passes, into the lowest of one that passes it
pub record Mark : Type 0 where
  pub number : ℕ
  pub reads : List Read
  pub writes : List Entry
  pub out : Option ℕ
  pub into : Option ℕ

abbrev pub mark_number : Mark → ℕ
mark_number m = m.number

abbrev pub mark_of : Committed → Mark
mark_of c = record { number = c.number; reads = map (read_of (vec_items c.writes)) (vec_items c.reads); writes = vec_items c.writes; out = c.passes; into = c.passed_by }

abbrev pub marks_of : Window → List Mark
marks_of w = map mark_of (vec_items w.all)

-- the number of the first that passes the test; where the numbers rise it is the lowest
abbrev pub lowest : {A : Type 0} → (A → ℕ) → (A → Bool) → List A → Option ℕ
lowest num p xs = option_map num (find p xs)

-- the number that there was, or else n, if there is one now
abbrev pub since : Option ℕ → Bool → ℕ → Option ℕ
since (Some k) b n = Some k
since None b n = cond b (Some n) None

-- t, which commits now, passes the commit m
abbrev pub is_passed : Txn → Mark → Bool
is_passed t m = nat_le t.begin m.number && reads_some t.reads m.writes

-- m passes t, which commits now
abbrev pub is_passing : Txn → Mark → Bool
is_passing t m = nat_le t.begin m.number && reads_some m.reads t.writes

-- m would be a pivot with t among the commits
abbrev pub turns : Txn → Mark → Bool
turns t m = (is_passed t m && (is_some m.out || is_passing t m)) || (is_passing t m && is_some m.into)

abbrev pub would_pivot : Txn → List Mark → Bool
would_pivot t ms = any (turns t) ms || (is_some (lowest mark_number (is_passed t) ms) && is_some (lowest mark_number (is_passing t) ms))

-- why a commit is refused, if it is: a Latest never, a Snapshot for a conflict, a Serial for a conflict or a pivot
abbrev pub judged : Level → Bool → Bool → Option Refusal
judged l conflict pivot = cond (is_latest l) None (cond conflict (Some WriteConflict) (cond (is_serial l && pivot) (Some Pivot) None))

-- m after t has committed as number n
abbrev pub remarked : Txn → ℕ → Mark → Mark
remarked t n m = record { number = m.number; reads = m.reads; writes = m.writes; out = since m.out (is_passing t m) n; into = since m.into (is_passed t m) n }

-- the mark of t, committed as number n after those
abbrev pub new_mark : Txn → ℕ → List Mark → Mark
new_mark t n ms = record { number = n; reads = t.reads; writes = t.writes; out = lowest mark_number (is_passed t) ms; into = lowest mark_number (is_passing t) ms }

abbrev pub taken_in : Txn → ℕ → List Mark → List Mark
taken_in t n ms = map (remarked t n) ms ++ (new_mark t n ms ∷ [])

-- those from the first on whose number is not below the floor
unfoldable pub from_floor : ℕ → List Mark → List Mark
from_floor f [] = []
from_floor f (m ∷ ms) = cond (nat_lt m.number f) (from_floor f ms) (m ∷ ms)

-- ms became ns as t was taken in; where memory fails they are as before
abbrev pub Taken : Txn → ℕ → List Mark → List Mark → {X Y : Type 0} → Result X Y → Type 0
Taken t n ms ns (Ok x) = ns ≡ taken_in t n ms
Taken t n ms ns (Err y) = ns ≡ ms

-- the same of a transaction of any level: another than a Serial changes nothing and is never refused
abbrev pub TakenIn : Txn → ℕ → List Mark → List Mark → {X : Type 0} → Result X Refusal → Type 0
TakenIn t n ms ns (Ok x) = ns ≡ cond (is_serial t.level) (taken_in t n ms) ms
TakenIn t n ms ns (Err y) = (is_serial t.level ≡ true) × (y ≡ NoMemory) × (ns ≡ ms)
