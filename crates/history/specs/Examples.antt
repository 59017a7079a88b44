-- Events that lead to two commits whose line is not by their numbers.
use Rattle.std.specs.Prelude.{◌≡◌, List, [], ◌∷◌, Some}
use Rattle.model.specs.declared.Call.TheVariants.{Begin, Read, Write, Commit}
use Rattle.model.specs.declared.Level.TheVariants.{Serial}
use Rattle.model.specs.Transactions.{empty}
use Rattle.order.specs.Order.{line, AllSerial}
use Rattle.history.specs.Engine.{Life, txns, Event, Called, led}
use Rattle.history.specs.Promise.{in_order, GivenOneByOne}

-- one reads the keys 1 and 2, and the other writes key 1 and commits before it
abbrev pub passing : List Event
passing =
    Called (Begin 0 (Some Serial)) ∷ Called (Begin 1 (Some Serial)) ∷ Called (Read 0 1 3) ∷ Called (Write 1 1 7) ∷ Called (Commit 1) ∷ Called (Commit 0) ∷ []

abbrev pub writer : Life
writer = record { txn = record { level = Serial; begin = 0; reads = []; writes = record { key = 1; value = 7 } ∷ [] }; given = [] }

abbrev pub reader : Life
reader = record { txn = record { level = Serial; begin = 0; reads = record { from = 1; to = 3; at = 0; own = [] } ∷ []; writes = [] }; given = [] ∷ [] }

pub record Examples : Type 0 where
  -- both commit, and the reader was given nothing
  pub both : (led passing).done ≡ writer ∷ reader ∷ []
  pub serials : AllSerial (txns (led passing))
  -- the reader stands first
  pub stands : line (txns (led passing)) ≡ 1 ∷ 0 ∷ []
  -- run by their numbers, the reader would have another answer than it was given
  pub numbers : GivenOneByOne empty (in_order (led passing) (0 ∷ 1 ∷ [])) → ⊥
