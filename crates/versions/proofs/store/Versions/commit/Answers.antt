use Rattle.std.proofs.Common.{ap, ◌∙◌}
use Rattle.model.specs.Versions.{committed}
use Rattle.versions.proofs.Moments.{commit-by}
use Rattle.versions.proofs.store.Versions.commit.Goals as goal

pub returns-clause-history : goal.returns-clause-history
returns-clause-history c =
    let v = c.args.self.now in
    let es = c.args.writes.now in
    let n = c.args.number in
    λ done floor t h same next low k lt. c.commit.ensures.views k ∙ ap (committed n es k) (h k lt) ∙ commit-by done t k floor n es same next low
