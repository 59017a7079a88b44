use Rattle.std.proofs.Common.{◌≡◌, List, ◌++◌, length, drop, map, Some, Ok, sym, ap, ◌∙◌, arith}
use Rattle.std.proofs.lemmas.List.{length-map}
use Rattle.model.specs.declared.Entry.{Entry}
use Rattle.journal.specs.Parsing.{entry_of, entries_of, whole, parsed, outlined, laid}
use Rattle.journal.proofs.Entries.{length-read}
use Rattle.journal.proofs.Reading.{whole-within, outline_whole}
use Rattle.journal.proofs.Canon.{record_in}
use Rattle.journal.proofs.reader.decode.Goals as goal
use Rattle.journal.proofs.reader.decode.Goals.{In-Some, After-parts}

reads_as : (c : In-Some) → Ok (Some c.in-Some.found) ≡ outlined (parsed c.args.number c.args.bytes.now)
reads_as c = ap Ok (sym c.in-Some.is) ∙ sym c.in_ok-found.was ∙ c.front.ensures

-- the writes of the record that was found
found : (c : In-Some) → (es : List Entry) × (parsed c.args.number c.args.bytes.now ≡ whole es c.in-Some.found.bytes) × (length es ≡ c.in-Some.found.count)
found c = outline_whole _ _ (reads_as c)

-- as many as there are parts
parts_are : (c : After-parts) → length c.parts.result.now ≡ c.in-Some.found.count
parts_are c = sym (length-map c.parts.result.now entry_of) ∙ ap length c.parts.ensures ∙ length-read c.in-Some.found.count (drop 6 c.args.bytes.now)

pub parts-requires : goal.parts-requires
parts-requires c =
    let f = found (goal.at.parts-requires c).In-Some in
    let w = whole-within c.args.number c.args.bytes.now f.0 c.in-Some.found.bytes f.1 in
    omega (arith, w.size, w.room, f.2)

pub lay-requires : goal.lay-requires
lay-requires c =
    let o = goal.at.lay-requires c in
    let f = found o.In-Some in
    let w = whole-within c.args.number c.args.bytes.now f.0 c.in-Some.found.bytes f.1 in
    omega (arith, w.few, f.2, c.told-writes, parts_are o.After-parts)

pub returns : goal.returns
returns c =
    let o = goal.at.returns c in
    let f = found o.In-Some in
    let w = whole-within c.args.number c.args.bytes.now f.0 c.in-Some.found.bytes f.1 in
    let read : map entry_of c.parts.result.now ≡ f.0 = c.parts.ensures ∙ ap (λ m. entries_of m (drop 6 c.args.bytes.now)) (sym f.2) ∙ sym w.reads in
    record {
      answer = reads_as o.In-Some;
      writes =
          c.lay.ensures
          ∙ ap (λ l. l ++ drop (length c.parts.result.now) c.args.writes.now) read
          ∙ ap (λ m. f.0 ++ drop m c.args.writes.now) (parts_are o.After-parts ∙ sym f.2)
          ∙ ap (λ r. laid r c.args.writes.now) (sym f.1);
      whole = record_in c.args.number c.args.bytes.now c.type_inv.bytes;
    }
