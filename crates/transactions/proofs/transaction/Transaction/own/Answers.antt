use Rattle.transactions.proofs.Writes.{leaves-last}
use Rattle.transactions.proofs.transaction.Transaction.own.Goals as goal

pub returns : goal.returns
returns c = rw (c.last_write.ensures, c.own_writes.ensures) (leaves-last _ _)
