-- What a store answers to a request.
use Rattle.std.specs.Prelude.{◌≡◌, Bool, true, false, cond, List, Some, None, Option, Result}
use Rattle.model.specs.declared.Answer.{Answer}
use Rattle.model.specs.declared.Call.{Call}
use Rattle.model.specs.declared.Call.TheVariants.{Begin, Read, Write, Commit, Abort, Sweep, Sync, Stop, Show}
use Rattle.model.specs.declared.Refusal.{Refusal}
use Rattle.model.specs.declared.Refusal.TheVariants.{OutOfBounds, BadFile, BadLine}
use Rattle.model.specs.declared.Request.{Request}
use Rattle.model.specs.declared.Request.TheVariants.{Whole, Faulty, Slotless, Unknown}
use Rattle.history.specs.Engine.{out_of_bounds, refusal_of, refused, Event, led}
use Rattle.history.specs.Promise.{Promised}
use Rattle.journal.specs.declared.gather.Journal.{Journal}
use Rattle.store.specs.declared.state.Tables.{Tables}
use Rattle.store.specs.declared.store.Store.{Store}
use Rattle.store.specs.Calls.{Is, reply_of, Does, DoesRecording}
use Rattle.store.specs.Stages.{is_ready}

abbrev pub ready_of : Store → Bool
ready_of s = is_ready s.stage

-- what is promised holds of all events that led here
abbrev pub Promising : Store → Type 0
Promising s = (h : List Event) → Is (led h) s.tables.now → Promised h

-- a line with a fault is refused for it, unless the call is refused by a lower number
abbrev pub fault_refusal : Option Refusal → Refusal
fault_refusal (Some y) = y
fault_refusal None = BadLine

-- of a call whose slot can't be read only the bounds are looked at
abbrev pub slotless_refusal : Call → Refusal
slotless_refusal c = cond (out_of_bounds c) OutOfBounds BadLine

abbrev pub is_stop : Call → Bool
is_stop (Begin s l) = false
is_stop (Read s a b) = false
is_stop (Write s k v) = false
is_stop (Commit s) = false
is_stop (Abort s) = false
is_stop Sweep = false
is_stop Sync = false
is_stop Stop = true
is_stop Show = false

-- what is answered where there is no engine
abbrev pub unready_refusal : Request → Refusal
unready_refusal (Whole c) = BadFile
unready_refusal (Faulty c) = cond (is_stop c) BadLine BadFile
unready_refusal (Slotless c) = BadFile
unready_refusal Unknown = BadLine

-- a call with a fault in its line is not done
abbrev pub Faulted : Call → Tables → Result Answer Refusal → Type 0
Faulted c s a = (h : List Event) → Is (led h) s → reply_of a ≡ refused (fault_refusal (refusal_of c (led h)))

abbrev pub AnswersReadyRecording : Request → Tables → Journal → Tables → Journal → Result Answer Refusal → Type 0
AnswersReadyRecording (Whole c) s i t j a = DoesRecording c s i t j a
AnswersReadyRecording (Faulty c) s i t j a = (t ≡ s) × (j ≡ i) × Faulted c s a
AnswersReadyRecording (Slotless c) s i t j a = (t ≡ s) × (j ≡ i) × (reply_of a ≡ refused (slotless_refusal c))
AnswersReadyRecording Unknown s i t j a = (t ≡ s) × (j ≡ i) × (reply_of a ≡ refused BadLine)

pub record AnswersToRecording (q : Request) (s : Store) (i : Journal) (t : Store) (j : Journal) (a : Result Answer Refusal) : Type 0 where
  pub stage : t.stage ≡ s.stage
  pub engine : ready_of s ≡ true → AnswersReadyRecording q s.tables.now i t.tables.now j a
  pub none : ready_of s ≡ false → (t.tables.now ≡ s.tables.now) × (j ≡ i) × (reply_of a ≡ refused (unready_refusal q))

-- the same where nobody wants the records
abbrev pub AnswersReady : Request → Tables → Tables → Result Answer Refusal → Type 0
AnswersReady (Whole c) s t a = Does c s t a
AnswersReady (Faulty c) s t a = (t ≡ s) × Faulted c s a
AnswersReady (Slotless c) s t a = (t ≡ s) × (reply_of a ≡ refused (slotless_refusal c))
AnswersReady Unknown s t a = (t ≡ s) × (reply_of a ≡ refused BadLine)

pub record AnswersTo (q : Request) (s t : Store) (a : Result Answer Refusal) : Type 0 where
  pub ready : ready_of t ≡ ready_of s
  pub stage : t.stage ≡ s.stage
  pub engine : ready_of s ≡ true → AnswersReady q s.tables.now t.tables.now a
  pub none : ready_of s ≡ false → (t.tables.now ≡ s.tables.now) × (reply_of a ≡ refused (unready_refusal q))
