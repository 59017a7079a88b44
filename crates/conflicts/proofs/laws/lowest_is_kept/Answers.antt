use Rattle.conflicts.proofs.Lowering.{lowest-kept_is}
use Rattle.conflicts.proofs.laws.lowest_is_kept.Goals as goal

pub returns : goal.returns
returns c = lowest-kept_is
