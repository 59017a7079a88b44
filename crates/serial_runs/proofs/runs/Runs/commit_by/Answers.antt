use Rattle.std.proofs.Common.{refl, ap, ◌∙◌}
use Rattle.order.specs.Past.{as_serial}
use Rattle.serial_runs.proofs.Keeping.{stands_same, as_itself}
use Rattle.serial_runs.proofs.runs.Runs.commit_by.Goals as goal

pub returns-in-Ok : goal.returns-in-Ok
returns-in-Ok c = λ h l st here same.
    c.commit_as.ensures h l (stands_same h c.args.self.now c.past_of.new.self c.past_of.ensures.store c.past_of.ensures.pasts st) here
    (c.in-Ok.ensures.past ∙ ap as_serial same ∙ as_itself l.txn (st.serial c.args.slot l here))

pub returns-in-Err : goal.returns-in-Err
returns-in-Err c = λ h l st here same.
    c.commit_without.ensures l.txn h l (stands_same h c.args.self.now c.past_of.new.self c.past_of.ensures.store c.past_of.ensures.pasts st) here refl
