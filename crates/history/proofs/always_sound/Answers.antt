use Rattle.history.proofs.Sounding.{always_sound}
use Rattle.history.proofs.always_sound.Goals as goal

pub returns : goal.returns
returns c = always_sound
