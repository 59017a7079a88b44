use Rattle.std.proofs.Common.{[], ◌∷◌, ◌++◌, vec_items, sym, ap, ◌∙◌, subst}
use Rattle.model.specs.declared.Call.TheVariants.{Commit}
use Rattle.serial_runs.specs.declared.runs.Runs.{Runs}
use Rattle.serial_runs.specs.Standing.{CallDone}
use Rattle.serial_runs.proofs.Keeping.{commit-kept, commit-not-kept}
use Rattle.serial_runs.proofs.runs.Runs.commit_as.Goals as goal
use Rattle.serial_runs.proofs.runs.Runs.commit_as.Goals.{then-is_committed, else-is_committed}

pub returns : goal.returns
returns c = λ h l st here same.
    let a = c.ask-reply.result in
    elim c.if-is_committed.branch [
      | then-is_committed w ↦
          subst (λ (s : Runs). CallDone (Commit c.args.slot) h s a) (sym w.self-is)
          (commit-kept h c.args.self.now _ a st c.args.slot l here c.args.past same c.ask-reply.ensures.answers (sym c.is_committed.ensures ∙ w.if-is_committed.true)
          (w.push_reserved.ensures.items ∙ ap (λ v. vec_items v ++ (c.args.past ∷ [])) c.ask-reply.ensures.pasts))
      | else-is_committed w ↦
          subst (λ (s : Runs). CallDone (Commit c.args.slot) h s a) (sym w.self-is)
          (commit-not-kept h c.args.self.now _ a st c.args.slot l here c.ask-reply.ensures.answers (sym c.is_committed.ensures ∙ w.if-is_committed.false) (ap vec_items c.ask-reply.ensures.pasts))
    ]
