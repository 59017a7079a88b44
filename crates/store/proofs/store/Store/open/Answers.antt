use Rattle.std.proofs.Common.{◌≡◌, true, false, sym, refl, ap, ◌∙◌}
use mathlib.Core.Logic.{∥∥₁_elim, ∥∥₁_prop}
use borrow.Author.Tests.{both_ways}
use Rattle.history.proofs.Lists.{none_some}
use Rattle.history.proofs.Promising.{promises}
use Rattle.store.specs.Stages.{is_loading}
use Rattle.store.proofs.Loading.{opens_whole, opens_bad}
use Rattle.store.proofs.Cutting.{led-fine, cut-good, cut_is}
use Rattle.store.proofs.Restoring.{settled_led, all_room}
use Rattle.store.proofs.store.Store.open.Goals as goal

pub returns-then-not-is_loading : goal.returns-then-not-is_loading
returns-then-not-is_loading c =
    let off : is_loading c.args.self.now.stage ≡ false = sym c.if-not-is_loading.ensures in
    record {
      opens = λ bs reads. absurd (both_ways (is_loading c.args.self.now.stage) off (ap is_loading reads.0));
      cut = λ h p can kept reads. absurd (both_ways (is_loading c.args.self.now.stage) off (ap is_loading reads.0));
      fine = led-fine;
      not_loading = λ _. (refl, refl, refl);
      promises = λ h fit. promises h;
    }

pub invariant_of-self : goal.invariant_of-self
invariant_of-self c = record { led = λ p. absurd (both_ways false refl p); filled = λ p. absurd (both_ways false refl p) }

pub returns-in-Some : goal.returns-in-Some
returns-in-Some c =
    let on : is_loading c.args.self.now.stage ≡ true = sym c.if-not-is_loading.ensures in
    let flaw = sym c.in-Some.ensures in
    record {
      opens = λ bs reads. opens_bad _ bs c.args.reader.now c.args.self.now.tables.now _ c.in-Some.flaw reads.1 flaw refl
          (c.reset.ensures.fresh (c.reset.ensures.room ∙ all_room c.args.self.now.tables.now (c.args.self.now.filled on)));
      cut = λ h p can kept reads. absurd (none_some (sym (cut-good h p can c.args.reader.now c.args.self.now.tables.now reads.1) ∙ flaw));
      fine = led-fine;
      not_loading = λ off. absurd (both_ways (is_loading c.args.self.now.stage) off on);
      promises = λ h fit. promises h;
    }

pub invariant_of-self-2 : goal.invariant_of-self-2
invariant_of-self-2 c =
    let on : is_loading c.args.self.now.stage ≡ true = sym c.if-not-is_loading.ensures in
    record {
      led = λ p. ∥∥₁_elim (c.args.self.now.filled on) ∥∥₁_prop (λ so. ∣ settled_led c.args.self.now.tables.now c.settle.new.self c.settle.ensures so ∣₁);
      filled = λ p. absurd (both_ways false refl p);
    }

pub returns : goal.returns
returns c =
    let on : is_loading c.args.self.now.stage ≡ true = sym c.if-not-is_loading.ensures in
    record {
      opens = λ bs reads. opens_whole _ bs c.args.reader.now c.args.self.now.tables.now _ c.at.result reads.1 (sym c.in_default.ensures) c.at.ensures refl c.settle.ensures;
      cut = λ h p can kept reads. (refl, cut_is h p can c.args.reader.now c.args.self.now.tables.now c.settle.new.self kept reads.1 c.settle.ensures);
      fine = led-fine;
      not_loading = λ off. absurd (both_ways (is_loading c.args.self.now.stage) off on);
      promises = λ h fit. promises h;
    }
