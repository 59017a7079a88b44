use Rattle.std.proofs.Common.{◌≡◌, map, vec_items, sym, ap, ◌∙◌}
use Rattle.transactions.specs.Transactions.{model_of}
use Rattle.conflicts.specs.Marks.{mark_of, marks_of, would_pivot}
use Rattle.conflicts.proofs.Rules.{pivot_by_marks}
use Rattle.conflicts.proofs.Seen.{pivot_behind, part_is}
use Rattle.conflicts.proofs.window.Window.would_pivot.Goals as goal

pub returns : goal.returns
returns c =
    let t = model_of c.args.t.now in
    let cs = vec_items c.args.self.now.all in
    let r = c.unseen_from-from.result in
    let m : c.pivot_with.result ≡ would_pivot t (marks_of c.args.self.now) =
    c.pivot_with.ensures ∙ ap (λ l. would_pivot t (map mark_of l)) (part_is c.deref.result.now cs r c.deref.ensures.value) ∙ sym (pivot_behind t cs r c.unseen_from-from.ensures.seen) in
    record { marks = m; rules = pivot_by_marks c.args.self.now t c.pivot_with.result m }
