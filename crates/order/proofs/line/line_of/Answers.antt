use Rattle.std.proofs.Common.{◌≡◌, map, vec_items, sym, subst}
use Rattle.order.specs.Order.{line, SerialOrder}
use Rattle.order.specs.Past.{past_of}
use Rattle.order.proofs.Serial.{serializable}
use Rattle.order.proofs.Taking.{took-whole, all-serial}
use Rattle.order.proofs.line.line_of.Goals as goal
use Rattle.order.proofs.line.line_of.Goals.{After-take}

whole : (c : After-take) → vec_items c.take.new.self.order ≡ line (map past_of c.args.pasts.now)
whole c = took-whole c.args.pasts.now c.in_ok-lineup.lineup c.take.new.self c.take.result c.in_ok-lineup.ensures c.take.ensures

pub returns-clause-line : goal.returns-clause-line
returns-clause-line c = whole (goal.at.returns-clause-line c).After-take

pub returns-clause-serial : goal.returns-clause-serial
returns-clause-serial c a m =
    let done = map past_of c.args.pasts.now in
    subst (SerialOrder done) (sym (whole (goal.at.returns-clause-serial c).After-take)) (serializable done a m (all-serial c.args.pasts.now))
