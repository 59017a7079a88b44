use Rattle.history.proofs.Promising.{promises}
use Rattle.history.proofs.Shown.{examples}
use Rattle.history.proofs.Pasts.{every-past}
use Rattle.history.proofs.promises_stand.Goals as goal

pub returns : goal.returns
returns c = record { promises = promises; examples = examples; pasts = every-past }
