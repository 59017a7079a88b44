use Rattle.std.proofs.Common.{refl, ◌∙◌}
use Rattle.transactions.specs.Slots.{idle, end_refused}
use Rattle.store.proofs.Runs.{turned, not-turned}
use Rattle.store.proofs.state.Tables.end.Goals as goal

pub returns-in-Ok : goal.returns-in-Ok
returns-in-Ok c =
    let p = c.put.ensures in
    (p.0 ∙ turned (λ _. idle) end_refused c.args.self.now.slots c.args.slot c.slot.result c.in-Ok.ended c.slot.ensures c.in-Ok.ensures, p.1, p.2, p.3)

pub returns-in_default : goal.returns-in_default
returns-in_default c = (not-turned (λ _. idle) end_refused c.args.self.now.slots c.args.slot c.slot.result c.in_default.field-0 c.slot.ensures c.in_default.ensures, refl, refl, refl)
