use Rattle.store.proofs.Steps.{fits_forget}
use Rattle.store.proofs.state.Tables.forget.Goals as goal

pub returns : goal.returns
returns c = λ e fit. fits_forget e _ _ _ _ fit c.forget.new.self c.floor-floor.result c.floor-floor.ensures c.forget.ensures.rules
