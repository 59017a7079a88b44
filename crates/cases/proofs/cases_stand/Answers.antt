use Rattle.cases.proofs.Rows.{every_row}
use Rattle.cases.proofs.cases_stand.Goals as goal

pub returns : goal.returns
returns c = every_row
