use Rattle.std.proofs.Common.{sym, ap, ◌∙◌}
use Rattle.transactions.specs.Slots.{run_in}
use Rattle.transactions.specs.Transactions.{model_of}
use Rattle.history.proofs.Lists.{none_some}
use Rattle.store.proofs.Runs.{idle-told, going-told}
use Rattle.store.proofs.Steps.{commit-goes}
use Rattle.store.proofs.state.Tables.commit.Goals as goal

pub returns-in_err-t : goal.returns-in_err-t
returns-in_err-t c = λ e snd fit free.
    absurd (none_some (sym (idle-told e _ _ _ _ fit c.args.slot (sym (ap run_in c.in_err-t.ensures.0) ∙ c.slot.ensures)) ∙ (commit-goes e c.args.slot free).1))

pub returns : goal.returns
returns c = λ e snd fit free.
    let x = going-told e _ _ _ _ fit c.args.slot (model_of c.in_ok-t.t) (sym (ap run_in c.in_ok-t.ensures) ∙ c.slot.ensures) in
    c.commit_by.ensures e x.0 snd fit x.1 x.2 free
