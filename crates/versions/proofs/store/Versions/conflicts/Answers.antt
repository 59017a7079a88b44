use Rattle.std.proofs.Common.{◌∙◌}
use Rattle.versions.specs.Store.{held}
use Rattle.versions.proofs.Newest.{conflict_by}
use Rattle.versions.proofs.store.Versions.conflicts.Goals as goal

pub returns-clause-history : goal.returns-clause-history
returns-clause-history c =
    λ done floor h out. c.conflicts.ensures ∙ conflict_by done c.args.begin floor (held c.args.self.now) c.args.writes.now h out
