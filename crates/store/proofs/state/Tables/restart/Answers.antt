use Rattle.store.proofs.Steps.{fits_restart}
use Rattle.store.proofs.state.Tables.restart.Goals as goal

pub returns : goal.returns
returns c = λ e snd fit _. fits_restart e _ _ _ _ fit snd c.sweep.new.self c.forget.new.self c.idle-self.result c.idle-self.ensures c.sweep.ensures.history c.sweep.ensures.spaces c.forget.ensures.rules
