use Rattle.std.proofs.Common.{refl, arith}
use Rattle.std.proofs.lemmas.List.{map-set}
use Rattle.transactions.specs.Slots.{run_of}
use Rattle.store.proofs.Steps.{put-out}
use Rattle.store.proofs.state.Tables.put.Goals as goal

pub returns-then-slot-lt-SLOTS : goal.returns-then-slot-lt-SLOTS
returns-then-slot-lt-SLOTS c = (map-set run_of c.args.self.now.slots c.args.slot c.args.s, refl, refl, refl)

pub returns-else-slot-lt-SLOTS : goal.returns-else-slot-lt-SLOTS
returns-else-slot-lt-SLOTS c = (put-out c.args.self.now.slots c.args.slot (run_of c.args.s) (omega (arith, c.args.self.now.all, c.if-slot-lt-SLOTS.false)), refl, refl, refl)
