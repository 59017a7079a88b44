use Rattle.store.proofs.Restoring.{loaded_is}
use Rattle.store.proofs.state.Tables.settle.Goals as goal

pub returns : goal.returns
returns c = λ ws so e is. loaded_is ws _ _ _ _ so c.sweep.new.self c.sweep.ensures.history c.sweep.ensures.spaces e is
