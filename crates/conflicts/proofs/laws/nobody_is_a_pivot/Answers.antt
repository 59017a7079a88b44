use Rattle.conflicts.proofs.Allowing.{no_pivot}
use Rattle.conflicts.proofs.laws.nobody_is_a_pivot.Goals as goal

pub returns : goal.returns
returns c = no_pivot
