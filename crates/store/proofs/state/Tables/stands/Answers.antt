use Rattle.std.proofs.Common.{sym}
use Rattle.store.proofs.Judging.{then}
use Rattle.store.proofs.state.Tables.stands.Goals as goal

pub returns-in-None : goal.returns-in-None
returns-in-None c = λ e fit low key. then (c.shown.ensures.history _ e.floor fit.held key low) (sym (c.in-None.ensures _))
