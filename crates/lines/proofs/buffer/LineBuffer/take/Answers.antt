use Rattle.std.proofs.Common.{[], vec_items, sym, ◌∙◌, subst}
use Rattle.lines.specs.Held.{Holds}
use Rattle.lines.proofs.Gather.{line_taken, line_left, rest_less, all_taken, scan_open, cut_anywhere}
use Rattle.lines.proofs.buffer.LineBuffer.take.Goals as goal

pub loop-request-smaller : goal.loop-request-smaller
loop-request-smaller c = rest_less c.loop-request.chunk.now c.in-Some.rest.now c.in-Some.ensures.place

pub loop-request-preserved : goal.loop-request-preserved
loop-request-preserved c = λ t h.
    let x = c.loop-request.invariant t h in
    let s = c.loop-request.chunk.now in
    let rest = c.in-Some.rest.now in
    let ends = c.in-Some.ensures.place in
    let taken = c.in-Some.ensures.taken x.0 x.1 in (
      [],
      taken.1,
      line_taken x.0 s rest ends (vec_items c.loop-request.out) (vec_items c.push.new.self) _ c.in-Some.request taken.0 c.in_ok-push.ensures.items x.2,
      line_left x.0 s rest ends ∙ x.3,
    )

pub returns-clause-took : goal.returns-clause-took
returns-clause-took c = λ t h.
    let x = c.loop-request.invariant t h in
    let s = c.loop-request.chunk.now in
    let none = c.in_default.ensures.place in (
      all_taken x.0 s (vec_items c.loop-request.out) _ none x.2,
      subst (Holds c.next.new.self) (sym (scan_open (λ v w. w) (λ v. v) x.0 s none) ∙ x.3) (c.in_default.ensures.taken x.0 x.1),
    )

pub returns-in_err-push-clause-cut : goal.returns-in_err-push-clause-cut
returns-in_err-push-clause-cut c = cut_anywhere

pub returns-clause-cut : goal.returns-clause-cut
returns-clause-cut c = cut_anywhere
