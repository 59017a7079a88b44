use Rattle.std.proofs.Common.{ap, ◌∙◌}
use Rattle.model.specs.Versions.{newer}
use Rattle.versions.specs.Lent.{inside}
use Rattle.versions.proofs.Walks.{listed-far}
use Rattle.versions.proofs.Newest.{newer-by}
use Rattle.versions.proofs.store.Versions.newer.Goals as goal

pub returns-clause-beyond : goal.returns-clause-beyond
returns-clause-beyond c =
    let s = c.args.self.now.chains in
    λ far. c.newer.ensures ∙ ap (newer c.args.begin) (listed-far (inside s) s.count s.room c.args.key c.args.self.now.chains.good far)

pub returns-clause-history : goal.returns-clause-history
returns-clause-history c =
    let s = c.args.self.now.chains in
    λ done floor h lt. c.newer.ensures ∙ ap (newer c.args.begin) (h c.args.key lt) ∙ newer-by done c.args.begin c.args.key floor
