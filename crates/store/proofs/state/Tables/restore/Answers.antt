use Rattle.std.proofs.Common.{arith}
use Rattle.store.proofs.Restoring.{loaded_more, never_bad}
use Rattle.store.proofs.state.Tables.restore.Goals as goal

pub returns-then-number : goal.returns-then-number
returns-then-number c = λ ws so fine small.
    let made = c.make_room.ensures ws so fine.0 in
    absurd (omega (arith, c.if-number.true, made.0.number, small))

pub returns-in_default : goal.returns-in_default
returns-in_default c = λ ws so fine small.
    let made = c.make_room.ensures ws so fine.0 in
    absurd (never_bad ws _ _ _ _ made.0 c.args.writes.now c.in_default.field-0 fine made.1 c.in_default.ensures.done.0)

pub returns-in-Ok : goal.returns-in-Ok
returns-in-Ok c = λ ws so fine small.
    let made = c.make_room.ensures ws so fine.0 in
    loaded_more ws _ _ _ _ made.0 c.commit.new.self c.args.writes.now fine small c.in-Ok.ensures.history c.in-Ok.ensures.done.3
