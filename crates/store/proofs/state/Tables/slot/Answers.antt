use Rattle.std.proofs.Common.{sym, ap, ◌∙◌, arith}
use Rattle.std.proofs.lemmas.List.{get_or-map, get_or_past}
use Rattle.transactions.specs.Slots.{run_of}
use Rattle.store.proofs.Runs.{none, mapped}
use Rattle.store.proofs.state.Tables.slot.Goals as goal

pub returns-then-slot-ge-SLOTS : goal.returns-then-slot-ge-SLOTS
returns-then-slot-ge-SLOTS c = c.idle.ensures ∙ sym (mapped run_of c.args.self.now.slots c.args.slot none ∙ ap run_of (get_or_past c.args.self.now.slots c.args.slot none (omega (arith, c.args.self.now.all))))

pub returns : goal.returns
returns c = sym (get_or-map run_of c.args.self.now.slots c.args.slot _ _ (omega (arith, c.args.self.now.all)))
