use Rattle.std.proofs.Common.{refl}
use Rattle.store.proofs.Steps.{fits-counts}
use Rattle.store.proofs.state.Tables.counts.Goals as goal

pub returns : goal.returns
returns c = λ e fit. fits-counts e _ _ _ _ fit _ refl c.count-versions.ensures.history c.busy.ensures
