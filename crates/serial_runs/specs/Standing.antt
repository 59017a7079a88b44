-- Runs of Serials: what is kept of them, and what each request leads to.
use Rattle.std.specs.Prelude.{◌≡◌, ℕ, Bool, true, false, ◌⊎◌, List, [], ◌∷◌, ◌++◌, map, Some, Ok, Err, vec_items, Result, Vec}
use Rattle.model.specs.declared.Answer.{Answer}
use Rattle.model.specs.declared.Call.{Call}
use Rattle.model.specs.declared.Call.TheVariants.{Commit}
use Rattle.model.specs.declared.Level.TheVariants.{Serial}
use Rattle.model.specs.declared.Refusal.{Refusal}
use Rattle.model.specs.declared.Refusal.TheVariants.{OutOfBounds, SlotState, TooMany, WriteConflict, Pivot, NoRoom, LastCommit, BadFile, BadLine, NoMemory}
use Rattle.model.specs.declared.Request.{Request}
use Rattle.model.specs.declared.Request.TheVariants.{Whole, Faulty, Slotless, Unknown}
use Rattle.model.specs.Transactions.{Txn}
use Rattle.order.specs.Order.{line}
use Rattle.order.specs.Past.{past_of}
use Rattle.history.specs.Engine.{Life, Engine, txns, slot_at, refusal_of, reply_to, Reply, done, found, committed, shown, refused, Event, Called, led}
use Rattle.history.specs.Promise.{SerialRun}
use Rattle.store.specs.Calls.{Is, reply_of, may_lack}
use Rattle.store.specs.Answers.{ready_of, fault_refusal, slotless_refusal}
use Rattle.serial_runs.specs.declared.runs.Runs.{Runs}
use Rattle.serial_runs.specs.Requests.{as_serial, Fitting}

abbrev pub commits : Reply → Bool
commits done = false
commits (found es) = false
commits (committed n) = true
commits (shown a b c) = false
commits (refused y) = false

abbrev pub is_bad_line : Refusal → Bool
is_bad_line OutOfBounds = false
is_bad_line SlotState = false
is_bad_line TooMany = false
is_bad_line WriteConflict = false
is_bad_line Pivot = false
is_bad_line NoRoom = false
is_bad_line LastCommit = false
is_bad_line BadFile = false
is_bad_line BadLine = true
is_bad_line NoMemory = false

abbrev pub bad_line : Reply → Bool
bad_line done = false
bad_line (found es) = false
bad_line (committed n) = false
bad_line (shown a b c) = false
bad_line (refused y) = is_bad_line y

-- all that is under way is at Serial
abbrev pub OnlySerial : Engine → Type 0
OnlySerial e = (i : ℕ) (l : Life) → slot_at i e ≡ Some l → l.txn.level ≡ Serial

-- the events h led here: to the engine, and to what is kept of each of its commits
pub record Stands (h : List Event) (r : Runs) : Type 0 where
  pub ready : ready_of r.store.now ≡ true
  pub engine : Is (led h) r.store.now.tables.now
  pub kept : map past_of (vec_items r.pasts) ≡ txns (led h)
  pub serial : OnlySerial (led h)

-- the call is answered by the rules; or memory is wanted, and all is as before
abbrev pub CallDone : Call → List Event → Runs → Result Answer Refusal → Type 0
CallDone c h s a =
    (Stands (h ++ (Called c ∷ [])) s × (reply_of a ≡ reply_to c (led h))) ⊎ ((may_lack c (led h) ≡ true) × Stands h s × (reply_of a ≡ refused NoMemory))

-- a line with a fault changes nothing
abbrev pub RequestDone : Request → List Event → Runs → Result Answer Refusal → Type 0
RequestDone (Whole c) h s a = CallDone c h s a
RequestDone (Faulty c) h s a = Stands h s × (reply_of a ≡ refused (fault_refusal (refusal_of c (led h))))
RequestDone (Slotless c) h s a = Stands h s × (reply_of a ≡ refused (slotless_refusal c))
RequestDone Unknown h s a = Stands h s × (reply_of a ≡ refused BadLine)

-- whatever events led here, the request is answered as it is taken among Serials
abbrev pub Answered : Request → Runs → Runs → Result Answer Refusal → Type 0
Answered q r s a = (h : List Event) → Stands h r → RequestDone (as_serial q) h s a

abbrev pub Calls : Call → Runs → Runs → Result Answer Refusal → Type 0
Calls c r s a = (h : List Event) → Stands h r → Fitting c → CallDone c h s a

abbrev pub Commits : ℕ → Runs → Runs → Result Answer Refusal → Type 0
Commits i r s a = (h : List Event) → Stands h r → CallDone (Commit i) h s a

-- the same of the transaction t that runs in the slot
abbrev pub CommitsOf : ℕ → Txn → Runs → Runs → Result Answer Refusal → Type 0
CommitsOf i t r s a = (h : List Event) (l : Life) → Stands h r → slot_at i (led h) ≡ Some l → t ≡ l.txn → CallDone (Commit i) h s a

-- the line of the commits: run alone in this order one by one, each has the answers that it was given
abbrev pub InLine : Runs → {Z : Type 0} → Result (Vec ℕ Z) Refusal → Type 0
InLine r (Ok v) = (h : List Event) → Stands h r → (vec_items v ≡ line (txns (led h))) × SerialRun (led h) (vec_items v)
InLine r (Err y) = y ≡ NoMemory
