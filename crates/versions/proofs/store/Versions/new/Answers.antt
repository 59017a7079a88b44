use Rattle.std.proofs.Common.{sym, ◌∙◌}
use Rattle.versions.specs.Lent.{view}
use Rattle.versions.proofs.Sums.{total-none}
use Rattle.versions.proofs.Moments.{nothing_yet}
use Rattle.versions.proofs.store.Versions.new.Goals as goal

pub returns-clause-size : goal.returns-clause-size
returns-clause-size c =
    total-none (view c.over-chains.result) c.over-chains.ensures.views

pub returns-clause-history : goal.returns-clause-history
returns-clause-history c =
    λ floor k lt. c.over-chains.ensures.views k ∙ sym (nothing_yet k floor)
