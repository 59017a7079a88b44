use Rattle.std.proofs.Common.{◌≡◌, ℕ, ◌+◌, ◌-◌, ◌/◌, sym, subst, arith}
use Rattle.order.specs.Lineup.{Took}
use Rattle.order.proofs.Taking.{took_both, took_short}
use Rattle.order.proofs.lineup.Lineup.+take.Goals as goal

halves : (n : ℕ) → n / 2 + (n - n / 2) ≡ n
halves n = omega arith

pub returns-then-take : goal.returns-then-take
returns-then-take t c =
    let n = c.args.n in
    took_both (n / 2) (n - n / 2) n c.args.self.now c.take.new.self (halves n) c.take-then-take.new.self c.take-then-take.result c.if-take.ensures c.take-then-take.ensures

pub returns-else-take : goal.returns-else-take
returns-else-take t c =
    let n = c.args.n in
    subst (Took n c.args.self.now c.take.new.self) (sym c.if-take.false) (took_short (n / 2) (n - n / 2) n c.args.self.now c.take.new.self (halves n) c.if-take.ensures)
