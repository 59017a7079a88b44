use Rattle.std.proofs.Common.{refl}
use Rattle.store.proofs.Steps.{fits-write}
use Rattle.store.proofs.state.Tables.write.Goals as goal

pub returns : goal.returns
returns c = λ e snd fit free. fits-write e _ _ _ _ fit _ _ _ _ c.args.slot c.args.key c.args.value _ _ free refl refl c.add.ensures
