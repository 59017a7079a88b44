use Rattle.std.proofs.Common.{arith, ap, ◌∙◌, map, take, drop, length, ◌/◌}
use Rattle.std.specs.Simd.{first_chunks}
use Rattle.std.proofs.lemmas.List.{length-drop, take_rest}
use Rattle.journal.specs.Parsing.{entry_of}
use Rattle.journal.proofs.Entries.{parts-read}
use Rattle.journal.proofs.reader.parts.Goals as goal

pub returns : goal.returns
returns c =
    let bs = c.args.bytes.now in
    let rest = drop 6 bs in
    ap (λ l. map entry_of (take c.args.count l)) (c.as_chunks.ensures.front ∙ ap (λ l. first_chunks 6 (length l / 6) l) (take_rest bs 6))
    ∙ parts-read c.args.count (length rest / 6) rest (omega (arith, length-drop 6 bs))
