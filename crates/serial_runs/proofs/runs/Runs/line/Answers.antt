use Rattle.std.proofs.Common.{List, map, subst}
use Rattle.order.specs.declared.past.Past.{Past}
use Rattle.order.specs.Past.{past_of, LineTold}
use Rattle.serial_runs.proofs.Keeping.{in_line}
use Rattle.serial_runs.proofs.runs.Runs.line.Goals as goal

pub returns : goal.returns
returns c =
    in_line c.args.self.now c.line_of.result
    (subst (λ (ps : List Past). LineTold (map past_of ps) c.line_of.result) c.deref.ensures.value c.line_of.ensures.line)
