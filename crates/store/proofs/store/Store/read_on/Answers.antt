use Rattle.std.proofs.Common.{◌≡◌, ℕ, true, false, List, is_some, sym, refl, ap, ◌∙◌, subst}
use mathlib.Core.Logic.{∥∥₁_elim, ∥∥₁_prop}
use borrow.Author.Tests.{both_ways}
use Rattle.store.specs.Restored.{EndsIn, Replays}
use Rattle.store.specs.Stages.{is_loading}
use Rattle.store.proofs.Staging.{ready-not_loading, reads_on}
use Rattle.store.proofs.Loading.{reads_failed, reads_flaw, reads_more, still_filled}
use Rattle.store.proofs.store.Store.read_on.Goals as goal

pub returns-then-not-is_loading : goal.returns-then-not-is_loading
returns-then-not-is_loading c =
    let off : is_loading c.args.self.now.stage ≡ false = sym c.if-not-is_loading.ensures in
    record {
      reads = λ bs reads. absurd (both_ways (is_loading c.args.self.now.stage) off (ap is_loading reads.0));
      else_nothing = (refl, λ _. (refl, refl, refl));
    }

pub returns-then-is_some : goal.returns-then-is_some
returns-then-is_some c = record {
  reads = λ bs reads. (reads.0, reads_flaw bs c.args.piece.now c.args.reader.now c.args.self.now.tables.now _ _ refl reads.1 (ap is_some (sym c.flaw.ensures) ∙ sym c.is_some.ensures ∙ c.if-is_some.true));
  else_nothing = (refl, λ _. (refl, refl, refl));
}

pub invariant_of-self : goal.invariant_of-self
invariant_of-self c =
    let on : is_loading c.args.self.now.stage ≡ true = sym c.if-not-is_loading.ensures in
    record {
      led = λ p. absurd (ready-not_loading c.args.self.now.stage p on);
      filled = λ p. ∥∥₁_elim (c.args.self.now.filled p) ∥∥₁_prop (λ so. ∣ still_filled _ c.args.self.now.tables.now c.replay-found.new.self c.replay-found.result c.replay-found.ensures.commits so ∣₁);
    }

pub note-requires : goal.note-requires
note-requires c = subst (λ (l : List ℕ). EndsIn l c.replay-found.result) c.left.ensures c.replay-found.ensures.inside

pub returns-in_err-take : goal.returns-in_err-take
returns-in_err-take c =
    let on : is_loading c.args.self.now.stage ≡ true = sym c.if-not-is_loading.ensures in
    let none : is_some c.args.reader.now.flaw ≡ false = ap is_some (sym c.flaw.ensures) ∙ sym c.is_some.ensures ∙ c.if-is_some.false in
    record {
      reads = reads_failed c.args.piece.now c.args.reader.now c.take.new.self c.args.self.now c.args.self.now c.from_residual.result c.from_residual.ensures.0 refl refl c.in_err-take.ensures;
      else_nothing = (refl, λ off. absurd (reads_on (is_loading c.args.self.now.stage) (is_some c.args.reader.now.flaw) on none off));
    }

pub returns : goal.returns
returns c =
    let on : is_loading c.args.self.now.stage ≡ true = sym c.if-not-is_loading.ensures in
    let none : is_some c.args.reader.now.flaw ≡ false = ap is_some (sym c.flaw.ensures) ∙ sym c.is_some.ensures ∙ c.if-is_some.false in
    let took = c.in_ok-take.ensures in
    record {
      reads = λ bs reads. (
        reads.0,
        reads_more bs c.args.piece.now c.args.reader.now c.take.new.self _ c.args.self.now.tables.now c.replay-found.new.self c.replay-found.result _ refl reads.1 none
            took.0 took.1 took.2
            (subst (λ (l : List ℕ). Replays l c.args.self.now.tables.now c.replay-found.new.self c.replay-found.result) c.left.ensures c.replay-found.ensures.commits)
            c.note.ensures,
      );
      else_nothing = (refl, λ off. absurd (reads_on (is_loading c.args.self.now.stage) (is_some c.args.reader.now.flaw) on none off));
    }
