use Rattle.serial_runs.proofs.Leading.{led-same}
use Rattle.serial_runs.proofs.Keeping.{call_done}
use Rattle.serial_runs.proofs.runs.Runs.call.Goals as goal

pub returns-in_default : goal.returns-in_default
returns-in_default c = λ h st fit.
    call_done h c.args.self.now c.ask.new.self c.ask.result st c.args.call c.ask.ensures.answers c.ask.ensures.pasts
    (led-same h c.args.call c.in_default.not-Commit fit.0) fit.1
