-- The number of each refusal. Where several apply to one line, the lowest is answered.
use Rattle.std.specs.Prelude.{ℕ, Some, None, Ok, Err, Option, Result}
use Rattle.model.specs.declared.Refusal.{Refusal}
use Rattle.model.specs.declared.Refusal.TheVariants.{OutOfBounds, SlotState, TooMany, WriteConflict, Pivot, NoRoom, LastCommit, BadFile, BadLine, NoMemory}

abbrev pub number_of : Refusal → ℕ
number_of OutOfBounds = 1
number_of SlotState = 2
number_of TooMany = 3
number_of WriteConflict = 4
number_of Pivot = 5
number_of NoRoom = 6
number_of LastCommit = 7
number_of BadFile = 8
number_of BadLine = 9
number_of NoMemory = 99

-- why a result is a refusal, if it is one
abbrev pub refusal_in : {X : Type 0} → Result X Refusal → Option Refusal
refusal_in (Ok x) = None
refusal_in (Err y) = Some y
