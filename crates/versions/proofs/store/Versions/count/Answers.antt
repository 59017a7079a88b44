use Rattle.std.proofs.Common.{sym, ◌∙◌}
use Rattle.model.specs.Versions.{swept, versions}
use Rattle.versions.specs.Store.{held}
use Rattle.versions.proofs.Sums.{total-same}
use Rattle.versions.proofs.store.Versions.count.Goals as goal

pub returns-clause-history : goal.returns-clause-history
returns-clause-history c =
    let v = c.args.self.now in
    λ done floor h. sym v.chains.good.4 ∙ total-same (held v) (λ k. swept floor (versions k done)) h
