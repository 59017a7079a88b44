use Rattle.std.proofs.Common.{◌≡◌, true, map, drop, vec_items, sym, ap, ◌∙◌, subst, rules}
use Rattle.conflicts.specs.Marks.{mark_of, marks_of, from_floor}
use Rattle.conflicts.specs.Rising.{number_of, Rise}
use Rattle.conflicts.proofs.Loops.{from_first, cut-front}
use Rattle.conflicts.proofs.Rules.{forgot_by_marks}
use Rattle.conflicts.proofs.Seen.{rise_drop}
use Rattle.conflicts.proofs.window.Window.forget.Goals as goal
use Rattle.conflicts.proofs.window.Window.forget.Goals.{After-truncate}

left : (c : After-truncate) → vec_items c.truncate.new.self ≡ drop c.unwrap_or-gone.result (vec_items c.args.self.now.all)
left c = search (rules, cut-front (vec_items c.args.self.now.all) c.unwrap_or-gone.result)

marks : (c : After-truncate) → map mark_of (vec_items c.truncate.new.self) ≡ from_floor c.args.floor (marks_of c.args.self.now)
marks c =
    let cs = vec_items c.args.self.now.all in
    ap (map mark_of) (left c ∙ ap (λ k. drop k cs) (search rules)) ∙ sym (from_first mark_of c.args.floor cs)

rises_on : (c : After-truncate) → c.args.self.now.rising ≡ true → Rise (map number_of (vec_items c.truncate.new.self))
rises_on c e = subst (λ l. Rise (map number_of l)) (sym (left c)) (rise_drop (vec_items c.args.self.now.all) c.unwrap_or-gone.result (c.args.self.now.rises e))

pub invariant_of-self : goal.invariant_of-self
invariant_of-self c = record { rises = rises_on c }

pub returns-clause-marks : goal.returns-clause-marks
returns-clause-marks c = marks (goal.at.returns-clause-marks c).After-truncate

pub returns-clause-rules : goal.returns-clause-rules
returns-clause-rules c =
    let d = (goal.at.returns-clause-rules c).After-truncate in
    let w = c.args.self.now in
    forgot_by_marks w record { all = d.truncate.new.self; rising = w.rising; rises = rises_on d } c.args.floor (marks d)
