use Rattle.order.proofs.Serial.{serializable}
use Rattle.order.proofs.Shown.{examples}
use Rattle.order.proofs.laws.serializable_stands.Goals as goal

pub returns : goal.returns
returns c = record { theorem = serializable; examples = examples }
