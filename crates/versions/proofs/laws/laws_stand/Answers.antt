use Rattle.versions.proofs.Moments.{show_all, sweep_hides, sweep_twice, sweep_along}
use Rattle.versions.proofs.Newest.{newest_decides}
use Rattle.versions.proofs.laws.laws_stand.Goals as goal

pub returns : goal.returns
returns c = record { show = show_all; hides = sweep_hides; twice = sweep_twice; along = sweep_along; newest = newest_decides }
