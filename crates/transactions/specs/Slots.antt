-- Slots, by what runs in each.
use Rattle.std.specs.Prelude.{◌≡◌, ℕ, Bool, true, false, cond, length, Some, None, Ok, Err, Option, Result, nat_lt}
use Rattle.model.specs.declared.Entry.{Entry}
use Rattle.model.specs.declared.Level.{Level}
use Rattle.model.specs.declared.Refusal.{Refusal}
use Rattle.model.specs.declared.Refusal.TheVariants.{SlotState, TooMany}
use Rattle.model.specs.Transactions.{Txn, began, with_read, with_write}
use Rattle.transactions.specs.declared.slot.Slot.{Slot}
use Rattle.transactions.specs.declared.transaction.Transaction.{Transaction}
use Rattle.transactions.specs.Transactions.{model_of}

pub data Run : Type 0 where
  idle : Run
  going : Txn → Run

abbrev pub run_in : Option Transaction → Run
run_in None = idle
run_in (Some t) = going (model_of t)

abbrev pub run_of : Slot → Run
run_of s = run_in s.running

abbrev pub is_going : Run → Bool
is_going idle = false
is_going (going t) = true

-- what runs in a slot after a begin, a read, a write or an end there, and why it is refused, if it is
abbrev pub begun : Level → ℕ → Run → Run
begun l n idle = going (began l n)
begun l n (going t) = going t

abbrev pub begin_refused : Run → Option Refusal
begin_refused idle = None
begin_refused (going t) = Some SlotState

abbrev pub read : ℕ → ℕ → ℕ → Run → Run
read a b at idle = idle
read a b at (going t) = cond (nat_lt (length t.reads) 64) (going (with_read a b at t)) (going t)

abbrev pub read_refused : Run → Option Refusal
read_refused idle = Some SlotState
read_refused (going t) = cond (nat_lt (length t.reads) 64) None (Some TooMany)

abbrev pub wrote : Entry → Run → Run
wrote e idle = idle
wrote e (going t) = cond (nat_lt (length t.writes) 64) (going (with_write e t)) (going t)

abbrev pub write_refused : Run → Option Refusal
write_refused idle = Some SlotState
write_refused (going t) = cond (nat_lt (length t.writes) 64) None (Some TooMany)

abbrev pub end_refused : Run → Option Refusal
end_refused idle = Some SlotState
end_refused (going t) = None

-- the outcome of what turns a slot's run by f, and may be refused by g: the slot after it, or why it is refused, and then
-- f changes nothing
abbrev pub Turns : (Run → Run) → (Run → Option Refusal) → Slot → Result Slot Refusal → Type 0
Turns f g s (Ok t) = (run_of t ≡ f (run_of s)) × (g (run_of s) ≡ None)
Turns f g s (Err y) = (f (run_of s) ≡ run_of s) × (g (run_of s) ≡ Some y)

-- what runs in the slot, or that nothing does
abbrev pub Runs : Slot → Result Transaction Refusal → Type 0
Runs s (Ok t) = s.running ≡ Some t
Runs s (Err y) = (s.running ≡ None) × (y ≡ SlotState)
