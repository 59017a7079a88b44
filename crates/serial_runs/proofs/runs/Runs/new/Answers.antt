use Rattle.std.proofs.Common.{map, sym, ap, ◌∙◌}
use Rattle.order.specs.Past.{past_of}
use Rattle.history.specs.Engine.{run}
use Rattle.history.proofs.Lists.{none-there, none_some}
use Rattle.serial_runs.proofs.runs.Runs.new.Goals as goal

pub returns : goal.returns
unfolding run
returns c = λ ready is. record {
  ready = ready;
  engine = is;
  kept = ap (map past_of) c.new.ensures.items;
  serial = λ i l h. absurd (none_some (sym (none-there 16 i) ∙ h));
}
