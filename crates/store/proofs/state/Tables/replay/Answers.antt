use Rattle.std.proofs.Common.{◌≡◌, ◌+◌, ◌<◌, ◌≤◌, List, length, take, drop, Ok, Err, sym, ap, ◌∙◌, subst, arith}
use Rattle.std.proofs.lemmas.Result.{err_from_is_err_and}
use Rattle.model.specs.declared.Entry.{Entry}
use Rattle.journal.specs.declared.types.Fault.TheVariants.{WrongNumber}
use Rattle.journal.specs.Parsing.{whole, parsed}
use Rattle.journal.proofs.Reading.{outline_whole, outline_bad, outline_short, flawed_ok, flawed_err}
use Rattle.journal.proofs.Replaying.{below, replayed-faulty, replayed-last}
use Rattle.store.specs.Restored.{Restores}
use Rattle.store.proofs.Replaying.{going_start, going_on, going_end, going-bad, record-fits, laid-front, record-fine}
use Rattle.store.proofs.state.Tables.replay.Goals as goal
use Rattle.store.proofs.state.Tables.replay.Goals.{In-Some}

-- the record that was found, in the bytes from `at` on
found : (c : In-Some) → (es : List Entry) × (parsed c.loop-found.self.commits (drop c.loop-found.at c.args.bytes.now) ≡ whole es c.in-Some.found.bytes) × (length es ≡ c.in-Some.found.count)
found c = outline_whole _ _ (flawed_ok c.loop-found.at _ _ (ap Ok (sym c.in-Some.is) ∙ sym c.in_ok-found.was ∙ c.record_at.ensures.answer))

fits_on : (c : In-Some) → (0 < c.in-Some.found.bytes) × (c.loop-found.at + c.in-Some.found.bytes ≤ length c.args.bytes.now) × (length (found c).0 ≤ 64)
fits_on c = record-fits c.loop-found.self.commits c.args.bytes.now c.loop-found.at (found c).0 c.in-Some.found.bytes c.loop-found.invariant.0 (found c).1

pub loop-found-init : goal.loop-found-init
loop-found-init c = (omega arith, λ ws fill. going_start ws c.args.bytes.now _ fill)

pub returns-in_err-found : goal.returns-in_err-found
returns-in_err-found c =
    let at = c.loop-found.at in
    let next = c.loop-found.self.commits in
    let h = flawed_err at _ _ (sym c.in_err-found.was ∙ c.record_at.ensures.answer) in
    let e = err_from_is_err_and c.from_residual.result c.from_residual.ensures.1 in
    rw (e.1 ∙ ap Err (e.2 ∙ h.1))
    (record {
      commits = λ ws fill.
          going-bad ws c.args.bytes.now at c.loop-found.self (c.loop-found.invariant.1 ws fill) h.0
          (replayed-faulty next (drop at c.args.bytes.now) h.0 (outline_bad _ h.0 h.2));
      inside = c.loop-found.invariant.0;
    })

pub returns-then-next : goal.returns-then-next
returns-then-next c =
    let at = c.loop-found.at in
    let next = c.loop-found.self.commits in
    let rest = drop at c.args.bytes.now in
    let f = found (goal.at.returns-then-next c).In-Some in
    record {
      commits = λ ws fill.
          going-bad ws c.args.bytes.now at c.loop-found.self (c.loop-found.invariant.1 ws fill) WrongNumber
          (replayed-last next rest f.0 c.in-Some.found.bytes (omega (arith, c.if-next.true)) f.1);
      inside = c.loop-found.invariant.0;
    }

pub overflow_add-at : goal.overflow_add-at
overflow_add-at c = let h = fits_on (goal.at.overflow_add-at c).In-Some in omega (arith, h.0, h.1)

pub loop-found-smaller : goal.loop-found-smaller
loop-found-smaller c = let h = fits_on (goal.at.loop-found-smaller c).In-Some in omega (arith, h.0, h.1)

pub loop-found-preserved : goal.loop-found-preserved
loop-found-preserved c =
    let w = (goal.at.loop-found-preserved c).In-Some in
    let f = found w in
    let bs = c.args.bytes.now in
    let next = c.loop-found.self.commits in
    let front : take c.in-Some.found.count c.record_at.new.writes ≡ f.0 =
    laid-front _ c.loop-found.writes _ f.0 c.in-Some.found.bytes c.in-Some.found.count c.record_at.ensures.writes f.1 f.2 in (
      (fits_on w).1,
      λ ws fill.
          let go = c.loop-found.invariant.1 ws fill in
          going_on ws bs c.loop-found.at c.loop-found.self go c.restore.new.self f.0 c.in-Some.found.bytes f.1 (record-fine next _ _ f.0 c.in-Some.found.bytes c.record_at.ensures.whole f.1) (below next (omega (arith, go.there.fine.0, go.there.number)) c.if-next.false)
          (subst (λ (es : List Entry). Restores es c.loop-found.self c.restore.new.self) front c.restore.ensures),
    )

pub returns : goal.returns
returns c =
    let at = c.loop-found.at in
    let s = outline_short _ (flawed_ok at _ _ (ap Ok (sym c.in_default.is) ∙ sym c.in_ok-found.was ∙ c.record_at.ensures.answer)) in
    record {
      commits = λ ws fill. going_end ws c.args.bytes.now at c.loop-found.self (c.loop-found.invariant.1 ws fill) s;
      inside = c.loop-found.invariant.0;
    }
