use Rattle.versions.specs.Words.{lent_by}
use Rattle.versions.proofs.Places.{listed_cleared, sound_cleared, fits_cleared}
use Rattle.versions.proofs.chains.Chains.over.Goals as goal

pub invariant_of-result : goal.invariant_of-result
invariant_of-result c =
    let h = c.clear.ensures in
    record { good = sound_cleared (lent_by c.clear.new.self) _ h.heads c.args.room (fits_cleared c.args.words c.clear.new.self c.args.room h.heads h.rest c.requires) }

pub returns-clause-views : goal.returns-clause-views
returns-clause-views c = listed_cleared (lent_by c.clear.new.self) _ c.clear.ensures.heads
