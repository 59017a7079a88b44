use Rattle.std.proofs.Common.{◌+◌, sym, ◌∙◌, rules}
use Rattle.std.proofs.lemmas.List.{take_rest}
use Rattle.lines.proofs.Gather.{feed_found}
use Rattle.lines.proofs.buffer.LineBuffer.next.Goals as goal

pub returns-in-Some : goal.returns-in-Some
returns-in-Some c =
    let chunk = c.args.chunk.now in
    let found = feed_found chunk c.in-Some.end (sym c.line_feed.ensures ∙ c.in-Some.is) in
    let end = found.1 in
    let rest = take_rest chunk (c.in-Some.end + 1) in
    record {
      place = (found.0, search rules);
      taken = λ t h. (search rules, c.ended.ensures.after t h);
    }
