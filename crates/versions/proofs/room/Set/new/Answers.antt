use Rattle.std.proofs.lemmas.Result.{IfOk-from_err}
use Rattle.versions.proofs.room.Set.new.Goals as goal

pub returns-in_err-vec-2 : goal.returns-in_err-vec-2
returns-in_err-vec-2 c = IfOk-from_err c.from_residual-in_err-vec-2.result _ c.from_residual-in_err-vec-2.ensures.0

pub returns-in_err-vec-3 : goal.returns-in_err-vec-3
returns-in_err-vec-3 c = IfOk-from_err c.from_residual-in_err-vec-3.result _ c.from_residual-in_err-vec-3.ensures.0

pub returns-in_err-vec-4 : goal.returns-in_err-vec-4
returns-in_err-vec-4 c = IfOk-from_err c.from_residual-in_err-vec-4.result _ c.from_residual-in_err-vec-4.ensures.0
