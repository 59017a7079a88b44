use Rattle.serial_runs.proofs.Through.{through}
use Rattle.serial_runs.proofs.requests.only_serials.Goals as goal

pub returns : goal.returns
returns c = through
