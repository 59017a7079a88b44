use Rattle.std.proofs.Common.{refl, sym, ap, ◌∙◌}
use Rattle.transactions.specs.Slots.{run_in}
use Rattle.transactions.specs.Transactions.{model_of}
use Rattle.store.proofs.Runs.{idle-told, going-told}
use Rattle.model.specs.declared.Call.TheVariants.{Commit}
use Rattle.history.specs.Engine.{led}
use Rattle.serial_runs.proofs.Leading.{led-idle}
use Rattle.serial_runs.proofs.Keeping.{call_done}
use Rattle.serial_runs.proofs.runs.Runs.commit.Goals as goal

pub returns-in-None : goal.returns-in-None
returns-in-None c = λ h st.
    call_done h c.args.self.now c.ask.new.self c.ask.result st (Commit c.args.slot) c.ask.ensures.answers c.ask.ensures.pasts
    (led-idle h c.args.slot (idle-told (led h) _ _ _ _ st.engine c.args.slot (sym (ap run_in c.in-None.is) ∙ c.slot.ensures))) refl

pub returns-in-Some : goal.returns-in-Some
returns-in-Some c = λ h st.
    let x = going-told (led h) _ _ _ _ st.engine c.args.slot (model_of c.in-Some.t) (sym (ap run_in c.in-Some.is) ∙ c.slot.ensures) in
    c.commit_by.ensures h x.0 st x.1 x.2
