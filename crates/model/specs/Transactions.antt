-- Transactions: what they read and wrote, and what their reads are shown.
use Rattle.std.specs.Prelude.{ℕ, zero, suc, ◌-◌, Bool, true, false, cond, not, ◌&&◌, List, [], ◌∷◌, ◌++◌, map, take, ◌==◌, nat_eq, nat_le, nat_lt}
use Rattle.model.specs.declared.Entry.{Entry}
use Rattle.model.specs.declared.Level.{Level}
use Rattle.model.specs.declared.Level.TheVariants.{Latest, Snapshot, Serial}
use Rattle.model.specs.Lists.{any}

-- what stands at a key: its value, and 0 where nothing is there
abbrev pub State : Type 0
State = ℕ → ℕ

abbrev pub empty : State
empty k = 0

abbrev pub put : Entry → State → State
put e m k = cond (k == e.key) e.value (m k)

-- the state after writes, in their order
unfoldable pub puts : List Entry → State → State
puts [] m = m
puts (e ∷ es) m = puts es (put e m)

-- the keys from `from` up to and not including `to` were read when the first `at` commits were done;
-- own: what the transaction itself had written by then
pub record Read : Type 0 where
  pub from : ℕ
  pub to : ℕ
  pub at : ℕ
  pub own : List Entry

-- begin: how many commits were done when it began; reads and writes in the order in which they came
pub record Txn : Type 0 where
  pub level : Level
  pub begin : ℕ
  pub reads : List Read
  pub writes : List Entry

-- the state after transactions have written one after the other
unfoldable pub after : State → List Txn → State
after m [] = m
after m (t ∷ ts) = after (puts t.writes m) ts

-- the first n keys from a on that have something there, with it
unfoldable pub found_from : State → ℕ → ℕ → List Entry
found_from m a zero = []
found_from m a (suc n) = cond (m a == 0) (found_from m (suc a) n) (record { key = a; value = m a } ∷ found_from m (suc a) n)

-- what is found in the keys from a up to and not including b, in rising order
abbrev pub found : State → ℕ → ℕ → List Entry
found m a b = found_from m a (b - a)

-- the answer of a read whose own writes stand over the state m
abbrev pub answer_in : State → Read → List Entry
answer_in m r = found (puts r.own m) r.from r.to

-- the answers of a transaction's reads, in their order, when it runs alone from the state m
abbrev pub alone : State → Txn → List (List Entry)
alone m t = map (answer_in m) t.reads

-- the answer of a read when these are the commits
abbrev pub answered : List Txn → Read → List Entry
answered done r = answer_in (after empty (take r.at done)) r

-- one of the writes is of the key
abbrev pub names : ℕ → List Entry → Bool
names k es = any (λ (e : Entry). nat_eq e.key k) es

-- a key of the writes is above 4,095
abbrev pub outside : List Entry → Bool
outside es = any (λ (e : Entry). nat_le 4096 e.key) es

-- the key is in the range, and the transaction had not written it when it read
abbrev pub looks_at : ℕ → Read → Bool
looks_at k r = nat_le r.from k && nat_lt k r.to && not (names k r.own)

-- one of the reads looks at the key
abbrev pub looked : ℕ → List Read → Bool
looked k rs = any (looks_at k) rs

-- one of the reads looks at a key of the writes
abbrev pub reads_some : List Read → List Entry → Bool
reads_some rs es = any (λ (e : Entry). looked e.key rs) es

-- some key is written by both
abbrev pub both_write : List Entry → List Entry → Bool
both_write es fs = any (λ (e : Entry). names e.key fs) es

abbrev pub is_serial : Level → Bool
is_serial Latest = false
is_serial Snapshot = false
is_serial Serial = true

abbrev pub is_latest : Level → Bool
is_latest Latest = true
is_latest Snapshot = false
is_latest Serial = false

abbrev pub began : Level → ℕ → Txn
began l n = record { level = l; begin = n; reads = []; writes = [] }

-- how many commits a read sees: for a Latest those done now, else those done at the begin
abbrev pub moment : Txn → ℕ → ℕ
moment t done = cond (is_latest t.level) done t.begin

abbrev pub with_read : ℕ → ℕ → ℕ → Txn → Txn
with_read a b at t = record { level = t.level; begin = t.begin; reads = t.reads ++ (record { from = a; to = b; at = at; own = t.writes } ∷ []); writes = t.writes }

abbrev pub with_write : Entry → Txn → Txn
with_write e t = record { level = t.level; begin = t.begin; reads = t.reads; writes = t.writes ++ (e ∷ []) }
