use Rattle.transactions.specs.Transactions.{model_of}
use Rattle.store.proofs.Steps.{fits-begin}
use Rattle.store.proofs.state.Tables.begin.Goals as goal

pub returns-in-Some : goal.returns-in-Some
returns-in-Some c = λ e snd fit free. fits-begin e _ _ _ _ fit _ _ _ _ c.args.slot c.args.level c.in-Some.level (model_of c.started.result) c.in-Some.is c.started.ensures c.put.ensures
