use Rattle.std.proofs.Common.{◌≡◌, sym, ap, ◌∙◌}
use Rattle.transactions.specs.Transactions.{model_of}
use Rattle.conflicts.specs.Marks.{mark_of, remarked}
use Rattle.conflicts.proofs.Loops.{over_more, over_all}
use Rattle.conflicts.proofs.window.marks.remark_all.Goals as goal

pub loop-c-preserved : goal.loop-c-preserved
loop-c-preserved c =
    let g = remarked (model_of c.args.t.now) c.args.number in
    let h : mark_of c.remark.new.self ≡ g (mark_of c.c-item.result) = c.remark.ensures ∙ ap (λ x. g (mark_of x)) (sym c.c-item.is) in
    over_more mark_of g c.args.all.now c.loop-c.all c.loop-c.c-index c.loop-c.invariant c.c-item.result c.remark.new.self _ c.loop-c-test.true c.loop-c.auto.all c.c-item.is h

pub returns : goal.returns
returns c = over_all mark_of (remarked (model_of c.args.t.now) c.args.number) c.args.all.now c.loop-c.all c.loop-c.c-index c.loop-c.invariant c.loop-c-test.false
