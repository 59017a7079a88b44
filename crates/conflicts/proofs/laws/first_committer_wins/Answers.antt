use Rattle.conflicts.proofs.Allowing.{first_wins}
use Rattle.conflicts.proofs.laws.first_committer_wins.Goals as goal

pub returns : goal.returns
returns c = first_wins
