use Rattle.store.proofs.Steps.{fits-sweep}
use Rattle.store.proofs.state.Tables.sweep.Goals as goal

pub returns : goal.returns
returns c = λ e snd fit _. fits-sweep e _ _ _ _ fit snd c.sweep.new.self c.floor-floor.result c.floor-floor.ensures c.sweep.ensures.history c.sweep.ensures.spaces
