use Rattle.versions.specs.Words.{lent_by}
use Rattle.versions.proofs.Places.{listed_cleared, sound_cleared, fits_cleared}
use Rattle.versions.proofs.chains.Chains.clear.Goals as goal

pub invariant_of-self : goal.invariant_of-self
invariant_of-self c =
    let s = c.args.self.now in
    let h = c.clear.ensures in
    record { good = sound_cleared (lent_by c.clear.new.self) _ h.heads s.room (fits_cleared s.words c.clear.new.self s.room h.heads h.rest s.good.0) }

pub returns-clause-views : goal.returns-clause-views
returns-clause-views c = listed_cleared (lent_by c.clear.new.self) _ c.clear.ensures.heads
