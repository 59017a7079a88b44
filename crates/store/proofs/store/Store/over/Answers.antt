use Rattle.std.proofs.Common.{[], ap, ◌∙◌}
use Rattle.history.specs.Engine.{run}
use Rattle.store.specs.Stages.{is_ready}
use Rattle.store.proofs.Staging.{ready-room, not-loading, ready_is}
use Rattle.store.proofs.store.Store.over.Goals as goal

pub invariant_of-result : goal.invariant_of-result
unfolding run
invariant_of-result c = record {
  led = λ p. ∣ ([], c.reset-room.ensures.fresh (ready-room _ _ c.if_room.ensures p)) ∣₁;
  filled = λ p. absurd (not-loading _ _ c.if_room.ensures p);
}

pub returns : goal.returns
returns c = record {
  ready = ap is_ready c.if_room.ensures ∙ ready_is c.reset-room.result ∙ c.reset-room.ensures.room;
  fresh = λ p. c.reset-room.ensures.fresh (ready-room _ _ c.if_room.ensures p);
}
