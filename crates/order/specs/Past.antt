-- What is kept of a committed Serial, and what stands for it in the model.
use Rattle.std.specs.Prelude.{◌≡◌, ℕ, List, map, Ok, Err, vec_items, Result, Vec}
use Rattle.model.specs.declared.Level.TheVariants.{Serial}
use Rattle.model.specs.declared.Refusal.{Refusal}
use Rattle.model.specs.declared.Refusal.TheVariants.{NoMemory}
use Rattle.model.specs.Transactions.{Txn}
use Rattle.model.specs.Commits.{Commit}
use Rattle.transactions.specs.Noted.{read_of}
use Rattle.conflicts.specs.Laws.{Allowed}
use Rattle.order.specs.declared.past.Past.{Past}
use Rattle.order.specs.Order.{line, OneMoment, SerialOrder}

abbrev pub past_of : Past → Txn
past_of p = record { level = Serial; begin = p.begin; reads = map (read_of (vec_items p.writes)) (vec_items p.reads); writes = vec_items p.writes }

abbrev pub commit_of : Past → ℕ → Commit
commit_of p n = record { number = n; txn = past_of p }

abbrev pub as_serial : Txn → Txn
as_serial t = record { level = Serial; begin = t.begin; reads = t.reads; writes = t.writes }

-- the outcome of keeping t
abbrev pub PastKept : Txn → Result Past Refusal → Type 0
PastKept t (Ok p) = past_of p ≡ as_serial t
PastKept t (Err y) = y ≡ NoMemory

-- the outcome of asking for the line of commits
abbrev pub LineTold : List Txn → {Z : Type 0} → Result (Vec ℕ Z) Refusal → Type 0
LineTold done (Ok v) = vec_items v ≡ line done
LineTold done (Err y) = y ≡ NoMemory

-- where the rules allow the commits, what is answered is an order in which, run alone one by one, each has the same
-- answers, and the same is left
abbrev pub SerialTold : List Txn → {Z : Type 0} → Result (Vec ℕ Z) Refusal → Type 0
SerialTold done (Ok v) = Allowed done → OneMoment done → SerialOrder done (vec_items v)
SerialTold done (Err y) = Unit {0}
