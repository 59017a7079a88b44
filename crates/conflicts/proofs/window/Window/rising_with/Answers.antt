use Rattle.std.proofs.Common.{◌-◌, ◌<◌, ◌≤◌, map, length, get_or, vec_items, rules}
use Rattle.std.proofs.lemmas.List.Sorted.{IsNonDecreasingBy-push}
use Rattle.conflicts.specs.declared.window.Committed.{Committed}
use Rattle.conflicts.specs.Rising.{number_of}
use Rattle.conflicts.proofs.Seen.{last_number}
use Rattle.conflicts.proofs.window.Window.rising_with.Goals as goal

pub returns-then-self : goal.returns-then-self
returns-then-self c e =
    let w = c.args.self.now in
    let cs = vec_items w.all in
    let last : (d : Committed) → 0 < length cs → (get_or cs (length cs - 1) d).number ≤ c.args.number = search rules in
    IsNonDecreasingBy-push (λ k. k) (map number_of cs) c.args.number (w.rises c.if-self.true) (last_number cs c.args.number last)
