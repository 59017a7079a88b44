use Rattle.std.proofs.Common.{ap, ◌∙◌}
use Rattle.model.specs.Versions.{shown}
use Rattle.versions.specs.Lent.{inside}
use Rattle.versions.proofs.Walks.{listed-far}
use Rattle.versions.proofs.Moments.{shown_by, shown_nothing}
use Rattle.versions.proofs.store.Versions.shown.Goals as goal

pub returns-clause-beyond : goal.returns-clause-beyond
returns-clause-beyond c =
    let s = c.args.self.now.chains in
    λ far. c.shown.ensures ∙ ap (shown c.args.at) (listed-far (inside s) s.count s.room c.args.key c.args.self.now.chains.good far) ∙ shown_nothing c.args.at

pub returns-clause-history : goal.returns-clause-history
returns-clause-history c =
    let s = c.args.self.now.chains in
    λ done floor h lt low. c.shown.ensures ∙ ap (shown c.args.at) (h c.args.key lt) ∙ shown_by done c.args.key floor c.args.at low
