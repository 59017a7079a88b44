use Rattle.std.proofs.Common.{Some, None, sym, subst}
use Rattle.store.specs.Answers.{Faulted}
use Rattle.store.proofs.Answering.{fault_told}
use Rattle.store.proofs.Exits.{passed_on}
use Rattle.store.proofs.state.Tables.faulty.Goals as goal

pub returns-in_err-check : goal.returns-in_err-check
returns-in_err-check c =
    subst (Faulted c.args.call c.args.self.now) (sym (passed_on _ _ c.from_residual.ensures.1)) (fault_told c.args.call c.args.self.now (Some c.in_err-check.field-0.0) c.in_err-check.ensures)

pub returns : goal.returns
returns c = fault_told c.args.call c.args.self.now None c.in_ok-check.ensures
