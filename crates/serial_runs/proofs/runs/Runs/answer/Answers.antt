use Rattle.std.proofs.Common.{◌≡◌, sym, ◌∙◌, subst}
use Rattle.model.specs.declared.Request.{Request}
use Rattle.model.specs.declared.Request.TheVariants.{Whole}
use Rattle.serial_runs.specs.Requests.{as_serial}
use Rattle.serial_runs.specs.Standing.{RequestDone}
use Rattle.serial_runs.proofs.Through.{through}
use Rattle.serial_runs.proofs.runs.Runs.answer.Goals as goal

pub returns-in-Whole : goal.returns-in-Whole
returns-in-Whole c = λ h st.
    let p : as_serial c.args.request ≡ Whole c.in-Whole.call = sym c.as_serial.ensures ∙ c.in-Whole.is in
    subst (λ (q : Request). RequestDone q h c.call.new.self c.call.result) (sym p)
    (c.call.ensures h st (through.asked c.args.request c.in-Whole.call p).1)
