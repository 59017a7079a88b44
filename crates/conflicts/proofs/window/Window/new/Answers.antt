use Rattle.std.proofs.Common.{◌≡◌, [], map, vec_items, sym, ap, ◌∙◌}
use Rattle.conflicts.specs.Marks.{mark_of}
use Rattle.conflicts.proofs.Forgetting.{nothing_held}
use Rattle.conflicts.proofs.window.Window.new.Goals as goal

pub returns : goal.returns
returns c =
    let m : map mark_of (vec_items c.new.result) ≡ [] = ap (map mark_of) c.new.ensures.items in
    record { marks = m; rules = λ done floor l. m ∙ sym (nothing_held done floor l) }
