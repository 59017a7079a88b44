use Rattle.std.proofs.Common.{Bool, cond, [], ap, ◌∙◌}
use Rattle.store.specs.declared.stage.Stage.TheVariants.{Loading, Unreadable}
use Rattle.store.specs.Stages.{is_loading}
use Rattle.store.proofs.Staging.{loading_room, not-ready}
use Rattle.store.proofs.Loading.{reads_none}
use Rattle.store.proofs.Restoring.{loaded_none}
use Rattle.store.proofs.store.Store.load.Goals as goal

pub invariant_of-self : goal.invariant_of-self
invariant_of-self c = record {
  led = λ p. absurd (not-ready _ _ c.if_room-self.ensures p);
  filled = λ p. ∣ ([], loaded_none _ _ _ _ (c.reset-room.ensures.fresh (loading_room _ _ c.if_room-self.ensures p))) ∣₁;
}

pub returns : goal.returns
returns c = (
  c.if_room-self.ensures ∙ ap (λ (b : Bool). cond b Loading Unreadable) c.reset-room.ensures.room,
  λ r blank on. (on, reads_none r _ blank (loaded_none _ _ _ _ (c.reset-room.ensures.fresh (loading_room _ _ c.if_room-self.ensures (ap is_loading on))))),
)
