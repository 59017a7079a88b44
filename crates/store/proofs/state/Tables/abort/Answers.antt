use Rattle.std.proofs.Common.{None, refl}
use Rattle.transactions.specs.Slots.{idle}
use Rattle.history.specs.Engine.{with_slot}
use Rattle.history.proofs.Lists.{none_some}
use Rattle.store.proofs.Steps.{fits-put}
use Rattle.store.proofs.state.Tables.abort.Goals as goal

pub returns : goal.returns
returns c = λ e snd fit free.
    c.forget.ensures (with_slot c.args.slot None e) (fits-put e _ _ _ _ fit _ _ _ _ c.args.slot idle None refl (λ l k s. absurd (none_some k)) c.end.ensures)
