use Rattle.std.proofs.Common.{Err, sym, refl, ◌∙◌}
use Rattle.model.specs.declared.Refusal.TheVariants.{NoMemory}
use Rattle.serial_runs.proofs.Keeping.{commit_lacks, commit-first}
use Rattle.serial_runs.proofs.runs.Runs.commit_without.Goals as goal

pub returns-then-is_bad_line : goal.returns-then-is_bad_line
returns-then-is_bad_line c = λ t h l st here same.
    commit_lacks h c.args.self.now c.ask-reply.new.self (Err NoMemory) st c.args.slot l here c.ask-reply.result c.ask-reply.ensures.answers c.ask-reply.ensures.pasts refl

pub returns : goal.returns
returns c = λ t h l st here same.
    commit-first h c.args.self.now c.ask-reply.new.self _ st c.args.slot l here c.ask-reply.result c.ask-reply.ensures.answers c.ask-reply.ensures.pasts refl (sym c.is_bad_line.ensures ∙ c.if-is_bad_line.false)
