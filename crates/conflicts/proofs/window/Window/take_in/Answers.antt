use Rattle.std.proofs.Common.{◌≡◌, true, false, refl, rules}
use Rattle.transactions.specs.Transactions.{model_of}
use Rattle.model.specs.Transactions.{is_serial}
use Rattle.conflicts.proofs.Rules.{entered-by_marks, left-by_marks}
use Rattle.conflicts.proofs.window.Window.take_in.Goals as goal

pub returns-in_ok-enter-clause-rules : goal.returns-in_ok-enter-clause-rules
returns-in_ok-enter-clause-rules c =
    let s : is_serial (model_of c.args.t.now).level ≡ true = search rules in
    entered-by_marks c.args.self.now c.enter.new.self (model_of c.args.t.now) c.args.number s c.in_ok-enter.ensures

pub returns-else-eq-clause-rules : goal.returns-else-eq-clause-rules
returns-else-eq-clause-rules c =
    let s : is_serial (model_of c.args.t.now).level ≡ false = search rules in
    left-by_marks c.args.self.now c.args.self.now (model_of c.args.t.now) c.args.number s refl
