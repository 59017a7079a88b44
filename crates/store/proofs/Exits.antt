-- What the exit of a `?` returns where refusals are passed on.
use Rattle.std.proofs.Common.{◌≡◌, Err, Result, ap, ◌∙◌}
use Rattle.std.specs.Result.{IsErrAnd}
use Rattle.std.proofs.lemmas.Result.{err_from_is_err_and}
use Rattle.model.specs.declared.Refusal.{Refusal}

pub passed_on : {X : Type 0} (r : Result X Refusal) (y : Refusal) → IsErrAnd r (λ (z : Refusal). z ≡ y) → r ≡ Err y
passed_on r y h = let e = err_from_is_err_and r h in e.1 ∙ ap Err e.2
