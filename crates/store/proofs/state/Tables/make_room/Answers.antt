use Rattle.std.proofs.Common.{sym, ◌∙◌}
use Rattle.store.proofs.Restoring.{loaded_swept, room-swept}
use Rattle.store.proofs.state.Tables.make_room.Goals as goal

pub returns-then-room_for : goal.returns-then-room_for
returns-then-room_for c = λ ws so few. (so, sym c.room_for.ensures.value ∙ c.if-room_for.true)

pub returns : goal.returns
returns c = λ ws so few. (
  loaded_swept ws _ _ _ _ so c.sweep.new.self c.sweep.ensures.history c.sweep.ensures.spaces,
  room-swept ws _ _ _ _ so c.sweep.new.self c.args.writes.now c.sweep.ensures.few c.sweep.ensures.spaces few,
)
