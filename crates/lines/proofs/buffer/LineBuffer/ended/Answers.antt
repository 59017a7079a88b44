use Rattle.std.proofs.Common.{sym, ◌∙◌}
use Rattle.lines.proofs.Gather.{whole_line}
use Rattle.lines.proofs.buffer.LineBuffer.ended.Goals as goal

pub returns-then-is_empty-clause-request : goal.returns-then-is_empty-clause-request
returns-then-is_empty-clause-request c = λ t h. c.parse.ensures.value ∙ whole_line t c.args.bytes.now (sym (c.is_empty.ensures t h) ∙ c.if-is_empty.true) c.if-bytes-le-LONGEST.true
