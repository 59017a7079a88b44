use Rattle.std.proofs.Common.{length, ap, ◌∙◌, arith}
use Rattle.model.specs.Versions.{swept}
use Rattle.versions.specs.Lent.{view}
use Rattle.versions.proofs.Sums.{total-few}
use Rattle.versions.proofs.Moments.{sweep_twice}
use Rattle.versions.proofs.Newest.{one-stays}
use Rattle.versions.proofs.store.Versions.sweep.Goals as goal

pub returns-clause-history : goal.returns-clause-history
returns-clause-history c =
    let v = c.args.self.now in
    let f = c.args.floor in
    let views = c.sweep.ensures.views in
    λ done floor h low k lt. views k ∙ ap (swept f) (h k lt) ∙ sweep_twice done k floor f low

pub returns-clause-few : goal.returns-clause-few
returns-clause-few c =
    let v = c.args.self.now in
    let f = c.args.floor in
    let views = c.sweep.ensures.views in
    λ done floor h low all. total-few (view c.sweep.new.chains)
    (λ k lt. omega (arith, ap length (views k ∙ ap (swept f) (h k lt) ∙ sweep_twice done k floor f low), one-stays done k f all))
