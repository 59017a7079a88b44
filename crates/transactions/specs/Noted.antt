-- Noted reads, and what stands for one in the model.
use Rattle.std.specs.Prelude.{◌≡◌, ℕ, ◌<◌, ◌≤◌, List, map, take, Some, None, Option, nat_eq, reverse, slice_index}
use Rattle.std.specs.List.{find}
use Rattle.model.specs.declared.Entry.{Entry}
use Rattle.model.specs.Transactions.{State, Read, puts}
use Rattle.transactions.specs.declared.noted.NotedRead.{NotedRead}

-- the read, of a transaction with these writes
abbrev pub read_of : List Entry → NotedRead → Read
read_of es r = record { from = r.from; to = r.to; at = r.at; own = take r.own es }

-- each of the first n reads was made after at most w writes
abbrev pub Within : ℕ → ℕ → List NotedRead → Type 0
Within w n rs = (k : ℕ) → k < n → slice_index (map (λ (r : NotedRead). r.own) rs) k ≤ w

abbrev pub or_else : Option ℕ → ℕ → ℕ
or_else (Some v) d = v
or_else None d = d

abbrev pub value_in : Option Entry → Option ℕ
value_in None = None
value_in (Some e) = Some e.value

-- the value of the last write of the key, if there is one
abbrev pub last_of : ℕ → List Entry → Option ℕ
last_of k es = value_in (find (λ (e : Entry). nat_eq e.key k) (reverse es))

-- after the writes, whatever stood before, at the key stands v; or, where there is none, what stood there
abbrev pub Leaves : ℕ → List Entry → Option ℕ → Type 0
Leaves k es v = (m : State) → puts es m k ≡ or_else v (m k)
