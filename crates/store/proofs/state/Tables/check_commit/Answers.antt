use Rattle.std.proofs.Common.{Some, sym, ap, ◌∙◌}
use Rattle.model.specs.Refusals.{refusal_in}
use Rattle.transactions.specs.Slots.{run_in}
use Rattle.transactions.specs.Transactions.{model_of}
use Rattle.history.specs.Engine.{busy_refusal, commit_refusal}
use Rattle.store.proofs.Exits.{passed_on}
use Rattle.store.proofs.Runs.{idle-told, going-told}
use Rattle.store.proofs.Judging.{then}
use Rattle.store.proofs.state.Tables.check_commit.Goals as goal

pub returns-in_err-t : goal.returns-in_err-t
returns-in_err-t c = λ e snd fit.
    ap refusal_in (passed_on _ _ c.from_residual.ensures.1) ∙ ap Some c.in_err-t.ensures.1
    ∙ ap (busy_refusal (commit_refusal e)) (sym (idle-told e _ _ _ _ fit c.args.slot (sym (ap run_in c.in_err-t.ensures.0) ∙ c.slot.ensures)))

pub returns : goal.returns
returns c = λ e snd fit.
    let x = going-told e _ _ _ _ fit c.args.slot (model_of c.in_ok-t.t) (sym (ap run_in c.in_ok-t.ensures) ∙ c.slot.ensures) in
    then (c.verdict.ensures e snd fit c.args.slot x.0 x.1 x.2) (ap (busy_refusal (commit_refusal e)) (sym x.1))
