-- What a transaction's arrays stand for.
use Rattle.std.specs.Prelude.{◌≡◌, ℕ, ◌<◌, ◌≤◌, List, map, length, take, Ok, Err, Result}
use Rattle.model.specs.declared.Entry.{Entry}
use Rattle.model.specs.Transactions.{Txn, with_read, with_write}
use Rattle.transactions.specs.declared.noted.NotedRead.{NotedRead}
use Rattle.transactions.specs.declared.transaction.Transaction.{Transaction}
use Rattle.transactions.specs.Noted.{read_of}

-- its writes and its reads, in their order
abbrev pub writes_of : Transaction → List Entry
writes_of t = take t.write_count t.writes

abbrev pub noted_of : Transaction → List NotedRead
noted_of t = take t.read_count t.reads

abbrev pub model_of : Transaction → Txn
model_of t = record { level = t.level; begin = t.begin; reads = map (read_of (writes_of t)) (noted_of t); writes = writes_of t }

-- the outcome of one read more: refused where there are 64 already, and then the transaction is as it was
abbrev pub ReadNoted : Transaction → ℕ → ℕ → ℕ → Result Transaction Transaction → Type 0
ReadNoted t a b at (Ok u) = (length (model_of t).reads < 64) × (model_of u ≡ with_read a b at (model_of t))
ReadNoted t a b at (Err u) = (64 ≤ length (model_of t).reads) × (u ≡ t)

-- the same of one write more
abbrev pub WriteAdded : Transaction → Entry → Result Transaction Transaction → Type 0
WriteAdded t e (Ok u) = (length (model_of t).writes < 64) × (model_of u ≡ with_write e (model_of t))
WriteAdded t e (Err u) = (64 ≤ length (model_of t).writes) × (u ≡ t)
