use Rattle.std.proofs.Common.{◌≡◌, ◌+◌, ◌<◌, ◌≤◌, List, length, drop, Ok, Err, sym, ap, ◌∙◌, arith}
use Rattle.std.proofs.lemmas.List.{length-drop}
use Rattle.std.proofs.lemmas.Result.{err_from_is_err_and}
use Rattle.model.specs.declared.Entry.{Entry}
use Rattle.journal.specs.declared.types.Fault.TheVariants.{WrongNumber}
use Rattle.journal.specs.Parsing.{whole, parsed}
use Rattle.journal.specs.Files.{surveyed}
use Rattle.journal.proofs.Reading.{whole-within, outline_whole, outline_bad, outline_short, flawed_ok, flawed_err}
use Rattle.journal.proofs.Replaying.{below, start, at_end, at-bad, one_more, replayed-faulty, replayed-last}
use Rattle.journal.proofs.Canon.{read_in}
use Rattle.journal.proofs.files.survey.Goals as goal
use Rattle.journal.proofs.files.survey.Goals.{In-Some}

-- the record that was found, in the bytes from `at` on
found : (c : In-Some) → (es : List Entry) × (parsed c.loop-found.next (drop c.loop-found.at c.args.bytes.now) ≡ whole es c.in-Some.found.bytes) × (length es ≡ c.in-Some.found.count)
found c = outline_whole _ _ (flawed_ok c.loop-found.at _ _ (ap Ok (sym c.in-Some.is) ∙ sym c.in_ok-found.was ∙ c.record_at.ensures))

-- it has bytes, and ends within them
fits_on : (c : In-Some) → (0 < c.in-Some.found.bytes) × (c.loop-found.at + c.in-Some.found.bytes ≤ length c.args.bytes.now)
fits_on c =
    let f = found c in
    let rest = drop c.loop-found.at c.args.bytes.now in
    let w = whole-within c.loop-found.next rest f.0 c.in-Some.found.bytes f.1 in
    let d = length-drop c.loop-found.at c.args.bytes.now in
    (omega (arith, w.size), omega (arith, w.size, w.room, d, c.loop-found.invariant.0.place))

pub loop-found-init : goal.loop-found-init
loop-found-init c = (start c.args.number c.args.bytes.now, omega arith)

pub returns-in_err-found : goal.returns-in_err-found
returns-in_err-found c =
    let at = c.loop-found.at in
    let next = c.loop-found.next in
    let h = flawed_err at _ _ (sym c.in_err-found.was ∙ c.record_at.ensures) in
    let e = err_from_is_err_and c.from_residual.result c.from_residual.ensures.1 in
    let faulty-is = outline_bad _ h.0 h.2 in
    record {
      answer =
          e.1 ∙ ap Err (e.2 ∙ h.1)
          ∙ ap (surveyed c.args.number) (sym (at-bad c.args.number c.args.bytes.now at next c.loop-found.invariant.0 h.0 (replayed-faulty next (drop at c.args.bytes.now) h.0 faulty-is)));
      records = read_in c.args.number c.args.bytes.now (omega arith) c.type_inv.bytes;
    }

pub returns-then-next : goal.returns-then-next
returns-then-next c =
    let at = c.loop-found.at in
    let next = c.loop-found.next in
    let rest = drop at c.args.bytes.now in
    let f = found (goal.at.returns-then-next c).In-Some in
    record {
      answer =
          ap (surveyed c.args.number)
          (sym (at-bad c.args.number c.args.bytes.now at next c.loop-found.invariant.0 WrongNumber
          (replayed-last next rest f.0 c.in-Some.found.bytes (omega (arith, c.if-next.true)) f.1)));
      records = read_in c.args.number c.args.bytes.now (omega arith) c.type_inv.bytes;
    }

pub overflow_add-at : goal.overflow_add-at
overflow_add-at c = let h = fits_on (goal.at.overflow_add-at c).In-Some in omega (arith, h.0, h.1)

pub loop-found-smaller : goal.loop-found-smaller
loop-found-smaller c = let h = fits_on (goal.at.loop-found-smaller c).In-Some in omega (arith, h.0, h.1)

pub loop-found-preserved : goal.loop-found-preserved
loop-found-preserved c =
    let f = found (goal.at.loop-found-preserved c).In-Some in
    let b = below c.loop-found.next c.loop-found.invariant.1 c.if-next.false in
    (one_more c.args.number c.args.bytes.now c.loop-found.at c.loop-found.next c.loop-found.invariant.0 f.0 c.in-Some.found.bytes (omega (arith, b)) f.1, b)

pub returns : goal.returns
returns c =
    let at = c.loop-found.at in
    let next = c.loop-found.next in
    let rest = drop at c.args.bytes.now in
    let so = c.loop-found.invariant.0 in
    let s = outline_short _ (flawed_ok at _ _ (ap Ok (sym c.in_default.is) ∙ sym c.in_ok-found.was ∙ c.record_at.ensures)) in
    record {
      answer = ap (λ m. Ok (record { bytes = at; next = m })) so.number ∙ ap (surveyed c.args.number) (sym (at_end c.args.number c.args.bytes.now at next so s));
      records = read_in c.args.number c.args.bytes.now (omega arith) c.type_inv.bytes;
    }
