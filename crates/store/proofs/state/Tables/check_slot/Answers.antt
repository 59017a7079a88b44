use Rattle.std.proofs.Common.{leb, length, None, refl}
use Rattle.model.specs.declared.Refusal.TheVariants.{TooMany}
use Rattle.model.specs.Refusals.{refusal_in}
use Rattle.transactions.specs.Slots.{run_of, begin_refused, read_refused, write_refused, end_refused}
use Rattle.history.specs.Engine.{Life, when, begin_refusal, busy_refusal}
use Rattle.store.proofs.Runs.{told, begin-bare, read-bare, write-bare, end_bare}
use Rattle.store.proofs.state.Tables.check_slot.Goals as goal

pub returns-in-Begin : goal.returns-in-Begin
returns-in-Begin c = λ e snd fit. told begin_refused begin_refusal begin-bare e _ _ _ _ fit c.in-Begin.slot (refusal_in c.check_begin.result) (run_of c.slot.result) c.args.call _ c.check_begin.ensures c.slot.ensures c.in-Begin.is refl

pub returns-in-Read : goal.returns-in-Read
returns-in-Read c = λ e snd fit. told read_refused (busy_refusal (λ (l : Life). when (leb 64 (length l.txn.reads)) TooMany)) read-bare e _ _ _ _ fit c.in-Read.slot (refusal_in c.check_read.result) (run_of c.slot-in-Read.result) c.args.call _ c.check_read.ensures c.slot-in-Read.ensures c.in-Read.is refl

pub returns-in-Write : goal.returns-in-Write
returns-in-Write c = λ e snd fit. told write_refused (busy_refusal (λ (l : Life). when (leb 64 (length l.txn.writes)) TooMany)) write-bare e _ _ _ _ fit c.in-Write.slot (refusal_in c.check_write.result) (run_of c.slot-in-Write.result) c.args.call _ c.check_write.ensures c.slot-in-Write.ensures c.in-Write.is refl

pub returns-in-Abort : goal.returns-in-Abort
returns-in-Abort c = λ e snd fit. told end_refused (busy_refusal (λ l. None)) end_bare e _ _ _ _ fit c.in-Abort.slot (refusal_in c.check_abort.result) (run_of c.slot-in-Abort.result) c.args.call _ c.check_abort.ensures c.slot-in-Abort.ensures c.in-Abort.is refl
