use Rattle.std.proofs.Common.{sym, refl, ap, ◌∙◌}
use Rattle.history.specs.Engine.{refused}
use Rattle.history.proofs.Promising.{promises}
use Rattle.store.proofs.Answering.{still_led, answers-none, answers-engine}
use Rattle.store.proofs.Staging.{ready-not_loading}
use Rattle.store.proofs.store.Store.answer_recording.Goals as goal

pub invariant_of-self : goal.invariant_of-self
invariant_of-self c = record {
  led = λ p. still_led c.in-Whole.call c.args.self.now.tables.now c.call.new.self c.args.journal.now c.call.new.journal c.call.result c.call.ensures (c.args.self.now.led p);
  filled = λ p. absurd (ready-not_loading c.args.self.now.stage (sym c.is_ready.ensures ∙ c.if-not-is_ready.false) p);
}

pub invariant_of-self-in-Faulty : goal.invariant_of-self-in-Faulty
invariant_of-self-in-Faulty c = record { led = c.args.self.now.led; filled = c.args.self.now.filled }

pub returns-then-not-is_ready : goal.returns-then-not-is_ready
returns-then-not-is_ready c = record { answers = answers-none c.args.request _ _ _ c.unready.result refl refl (sym c.is_ready.ensures ∙ c.if-not-is_ready.true) c.unready.ensures; promises = λ h fit. promises h }

pub returns-in-Whole : goal.returns-in-Whole
returns-in-Whole c = record { answers = answers-engine c.args.request _ _ _ _ _ _ c.in-Whole.is refl (sym c.is_ready.ensures ∙ c.if-not-is_ready.false) c.call.ensures; promises = λ h fit. promises h }

pub returns-in-Faulty : goal.returns-in-Faulty
returns-in-Faulty c = record { answers = answers-engine c.args.request _ _ _ _ _ _ c.in-Faulty.is refl (sym c.is_ready.ensures ∙ c.if-not-is_ready.false) (refl, refl, c.faulty.ensures); promises = λ h fit. promises h }

pub returns-in-Slotless : goal.returns-in-Slotless
returns-in-Slotless c = record { answers = answers-engine c.args.request _ _ _ _ _ _ c.in-Slotless.is refl (sym c.is_ready.ensures ∙ c.if-not-is_ready.false) (refl, refl, ap refused c.slotless.ensures); promises = λ h fit. promises h }

pub returns-in-Unknown : goal.returns-in-Unknown
returns-in-Unknown c = record { answers = answers-engine c.args.request _ _ _ _ _ _ c.in-Unknown.is refl (sym c.is_ready.ensures ∙ c.if-not-is_ready.false) (refl, refl, refl); promises = λ h fit. promises h }
