use Rattle.std.proofs.Common.{sym, subst}
use Rattle.store.specs.Calls.{DoesRecording}
use Rattle.store.proofs.Answering.{call_refused, call_done}
use Rattle.store.proofs.Exits.{passed_on}
use Rattle.store.proofs.state.Tables.call.Goals as goal

pub returns-in_err-check : goal.returns-in_err-check
returns-in_err-check c =
    subst (DoesRecording c.args.call c.args.self.now c.args.journal.now c.args.self.now c.args.journal.now) (sym (passed_on _ _ c.from_residual.ensures.1))
    (call_refused c.args.call c.args.self.now c.args.journal.now _ c.in_err-check.ensures)

pub returns : goal.returns
returns c = call_done c.args.call c.args.self.now c.perform_recording.new.self c.args.journal.now c.perform_recording.new.journal c.perform_recording.result c.in_ok-check.ensures c.perform_recording.ensures
