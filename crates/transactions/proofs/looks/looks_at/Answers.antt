use Rattle.transactions.proofs.Ranges.{looks-past}
use Rattle.transactions.proofs.looks.looks_at.Goals as goal

pub returns-then-key-read : goal.returns-then-key-read
returns-then-key-read c = looks-past c.args.key c.args.read c.args.writes.now c.min-own.result c.writes_key.result c.if-key-read.true.0 c.if-key-read.true.1 c.min-own.ensures c.writes_key.ensures
