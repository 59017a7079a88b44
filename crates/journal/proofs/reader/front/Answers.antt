use Rattle.std.proofs.Common.{◌≡◌, ◌+◌, ◌*◌, ◌≤◌, get_or, drop, length, Some, Ok, sym, ap, ◌∙◌, arith}
use Rattle.model.specs.Transactions.{outside}
use Rattle.journal.specs.Parsing.{of4, counted, entries_of, entries_in, outlined}
use Rattle.journal.proofs.Entries.{length-read}
use Rattle.journal.proofs.Fronts.{head_number, head_count, is-nothing, is-other, is-short, is-cut, is-numbered, is-long, is-stray, is-whole}
use Rattle.journal.proofs.reader.front.Goals as goal
use Rattle.journal.proofs.reader.front.Goals.{In-Some-split_first_chunk, Else-rest-count, Else-from_be_bytes-number, After-stray}

pub returns-in_default : goal.returns-in_default
returns-in_default c = ap outlined (sym (is-nothing c.args.number c.args.bytes.now c.in_default.ensures.item.3))

pub returns-then-kind-ne-KIND : goal.returns-then-kind-ne-KIND
returns-then-kind-ne-KIND c =
    let first = c.in-Some.ensures.item.3 in
    ap outlined (sym (is-other c.args.number c.args.bytes.now first.0 (λ e. c.if-kind-ne-KIND.true (first.1 0 ∙ e))))

pub returns-in_default-split_first_chunk : goal.returns-in_default-split_first_chunk
returns-in_default-split_first_chunk c =
    let first = c.in-Some.ensures.item.3 in
    ap outlined (sym (is-short c.args.number c.args.bytes.now (sym (first.1 0) ∙ c.if-kind-ne-KIND.false) first.0 c.in_default-split_first_chunk.ensures.cases))

-- what the head says
module _ (c : In-Some-split_first_chunk) where
  kind : get_or c.args.bytes.now 0 0 ≡ 1
  kind = sym (c.in-Some.ensures.item.3.1 0) ∙ c.if-kind-ne-KIND.false

  room : 6 ≤ length c.args.bytes.now
  room = omega (arith, c.in-Some-split_first_chunk.ensures.cases.2)

  number_is : (let f = c.in-Some-split_first_chunk.field-0-0.now in get_or f 1 0 * 16777216 + get_or f 2 0 * 65536 + get_or f 3 0 * 256 + get_or f 4 0 ≡ of4 (drop 1 c.args.bytes.now))
  number_is = head_number _ _ c.in-Some-split_first_chunk.ensures.cases.0

  count_is : get_or c.in-Some-split_first_chunk.field-0-0.now 5 0 ≡ counted c.args.bytes.now
  count_is = head_count _ _ c.in-Some-split_first_chunk.ensures.cases.0

long : (c : Else-rest-count) → 6 + 6 * counted c.args.bytes.now ≤ length c.args.bytes.now
long c = let k = count_is (goal.at.Else-rest-count c).In-Some-split_first_chunk in omega (arith, k, c.in-Some-split_first_chunk.ensures.cases.2, c.if-rest-count.false)

pub returns-then-rest-count : goal.returns-then-rest-count
returns-then-rest-count c =
    let p = (goal.at.returns-then-rest-count c).In-Some-split_first_chunk in
    ap outlined
    (sym (is-cut c.args.number c.args.bytes.now (kind p) (room p) (omega (arith, count_is p, c.in-Some-split_first_chunk.ensures.cases.2, c.if-rest-count.true))))

number : (c : Else-from_be_bytes-number) → of4 (drop 1 c.args.bytes.now) ≡ c.args.number
number c = sym (number_is (goal.at.Else-from_be_bytes-number c).In-Some-split_first_chunk) ∙ sym c.from_be_bytes.ensures ∙ c.if-from_be_bytes-number.false

keys : (c : After-stray) → outside (entries_in c.args.bytes.now) ≡ c.stray.result
keys c =
    let bs = c.args.bytes.now in
    sym (c.stray.ensures ∙ ap outside (c.parts.ensures ∙ ap (λ n. entries_of n (drop 6 bs)) (count_is (goal.at.After-stray c).In-Some-split_first_chunk)))

pub returns-then-from_be_bytes-number : goal.returns-then-from_be_bytes-number
returns-then-from_be_bytes-number c =
    let o = goal.at.returns-then-from_be_bytes-number c in
    ap outlined
    (sym (is-numbered c.args.number c.args.bytes.now (kind o.In-Some-split_first_chunk) (room o.In-Some-split_first_chunk) (long o.Else-rest-count) (λ e.
    c.if-from_be_bytes-number.true (c.from_be_bytes.ensures ∙ number_is o.In-Some-split_first_chunk ∙ e))))

pub returns-then-count-gt-MOST_WRITES : goal.returns-then-count-gt-MOST_WRITES
returns-then-count-gt-MOST_WRITES c =
    let o = goal.at.returns-then-count-gt-MOST_WRITES c in
    let p = o.In-Some-split_first_chunk in
    ap outlined (sym (is-long c.args.number c.args.bytes.now (kind p) (room p) (long o.Else-rest-count) (number o.Else-from_be_bytes-number) (omega (arith, count_is p, c.if-count-gt-MOST_WRITES.true))))

pub returns-then-stray : goal.returns-then-stray
returns-then-stray c =
    let o = goal.at.returns-then-stray c in
    let p = o.In-Some-split_first_chunk in
    ap outlined
    (sym (is-stray c.args.number c.args.bytes.now (kind p) (room p) (long o.Else-rest-count) (number o.Else-from_be_bytes-number) (omega (arith, count_is p, c.if-count-gt-MOST_WRITES.false))
    (keys o.After-stray ∙ c.if-stray.true)))

pub returns : goal.returns
returns c =
    let o = goal.at.returns c in
    let p = o.In-Some-split_first_chunk in
    let bs = c.args.bytes.now in
    let whole-is = is-whole c.args.number bs (kind p) (room p) (long o.Else-rest-count) (number o.Else-from_be_bytes-number) (omega (arith, count_is p, c.if-count-gt-MOST_WRITES.false))
    (keys o.After-stray ∙ c.if-stray.false)
    in
    ap (λ n. Ok (Some (record { bytes = 6 + 6 * n; count = n }))) (count_is p)
    ∙ ap (λ n. Ok (Some (record { bytes = 6 + 6 * counted bs; count = n }))) (sym (length-read (counted bs) (drop 6 bs)))
    ∙ ap outlined (sym whole-is)
