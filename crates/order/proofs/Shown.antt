-- The small examples.
use Rattle.std.proofs.Common.{zero, suc, [], ◌∷◌, refl, arith}
use Rattle.model.specs.Commits.{numbered}
use Rattle.conflicts.specs.Laws.{Allowed}
use Rattle.order.specs.Order.{lined, OneMoment, AllSerial}
use Rattle.order.specs.Examples.{Examples, reading, writing}

allowed : Allowed (writing ∷ reading [] ∷ [])
unfolding numbered
allowed zero l = (refl, omega arith)
allowed (suc zero) l = (refl, omega arith)
allowed (suc (suc n)) l = absurd (omega arith)

moment : OneMoment (writing ∷ reading [] ∷ [])
moment zero l e = tt
moment (suc zero) l e = (refl, tt)
moment (suc (suc n)) l e = absurd (omega arith)

serial : AllSerial (writing ∷ reading [] ∷ [])
serial zero l = refl
serial (suc zero) l = refl
serial (suc (suc n)) l = absurd (omega arith)

pub examples : Examples
unfolding lined
examples = record { passed = refl; passed-allowed = allowed; passed-moment = moment; passed-serial = serial; skewed = refl }
