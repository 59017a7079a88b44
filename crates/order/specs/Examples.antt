-- Small lists of commits and their lines.
use Rattle.std.specs.Prelude.{◌≡◌, ℕ, List, [], ◌∷◌}
use Rattle.model.specs.declared.Entry.{Entry}
use Rattle.model.specs.declared.Level.TheVariants.{Serial}
use Rattle.model.specs.Transactions.{Txn}
use Rattle.conflicts.specs.Laws.{Allowed}
use Rattle.order.specs.Order.{line, OneMoment, AllSerial}

-- it began with nothing done, read the keys 1 and 2 and wrote these
abbrev pub reading : List Entry → Txn
reading es = record { level = Serial; begin = 0; reads = record { from = 1; to = 3; at = 0; own = [] } ∷ []; writes = es }

abbrev pub entry : ℕ → ℕ → Entry
entry k v = record { key = k; value = v }

abbrev pub writing : Txn
writing = record { level = Serial; begin = 0; reads = []; writes = entry 1 7 ∷ [] }

pub record Examples : Type 0 where
  -- a reader that did not see a writer stands before it, though it committed after it
  pub passed : line (writing ∷ reading [] ∷ []) ≡ 1 ∷ 0 ∷ []
  pub passed-allowed : Allowed (writing ∷ reading [] ∷ [])
  pub passed-moment : OneMoment (writing ∷ reading [] ∷ [])
  pub passed-serial : AllSerial (writing ∷ reading [] ∷ [])
  -- write skew: each has to wait for the other
  pub skewed : line (reading (entry 1 7 ∷ []) ∷ reading (entry 2 7 ∷ []) ∷ []) ≡ []
