use Rattle.std.proofs.Common.{Ok, refl}
use Rattle.model.specs.declared.Answer.TheVariants.{Done, Shown}
use Rattle.model.specs.declared.Call.TheVariants.{Begin, Write, Abort, Sweep, Sync, Stop, Show}
use Rattle.store.proofs.Recording.{done-by, no_commit}
use Rattle.store.proofs.Steps.{fits-sync}
use Rattle.store.proofs.state.Tables.perform_recording.Goals as goal

pub returns-in-Begin : goal.returns-in-Begin
returns-in-Begin c = done-by c.args.call (Begin c.in-Begin.slot c.in-Begin.level) c.args.self.now c.begin.new.self c.args.journal.now (Ok Done) c.in-Begin.is (no_commit _ refl) (λ e fit. refl) c.begin.ensures

pub returns-in-Write : goal.returns-in-Write
returns-in-Write c = done-by c.args.call (Write c.in-Write.slot c.in-Write.key c.in-Write.value) c.args.self.now c.write.new.self c.args.journal.now (Ok Done) c.in-Write.is (no_commit _ refl) (λ e fit. refl) c.write.ensures

pub returns-in-Abort : goal.returns-in-Abort
returns-in-Abort c = done-by c.args.call (Abort c.in-Abort.slot) c.args.self.now c.abort.new.self c.args.journal.now (Ok Done) c.in-Abort.is (no_commit _ refl) (λ e fit. refl) c.abort.ensures

pub returns-in-Sweep : goal.returns-in-Sweep
returns-in-Sweep c = done-by c.args.call Sweep c.args.self.now c.sweep.new.self c.args.journal.now (Ok Done) c.in-Sweep.is (no_commit _ refl) (λ e fit. refl) c.sweep.ensures

pub returns-in-Sync : goal.returns-in-Sync
returns-in-Sync c = done-by c.args.call Sync c.args.self.now c.args.self.now c.args.journal.now (Ok Done) c.in-Sync.is (no_commit _ refl) (λ e fit. refl) (λ e snd fit free. fits-sync e _ _ _ _ fit)

pub returns-in-Stop : goal.returns-in-Stop
returns-in-Stop c = done-by c.args.call Stop c.args.self.now c.restart.new.self c.args.journal.now (Ok Done) c.in-Stop.is (no_commit _ refl) (λ e fit. refl) c.restart.ensures

pub returns-in-Show : goal.returns-in-Show
returns-in-Show c = done-by c.args.call Show c.args.self.now c.args.self.now c.args.journal.now (Ok (Shown c.counts.result)) c.in-Show.is (no_commit _ refl) c.counts.ensures (λ e snd fit free. fit)
