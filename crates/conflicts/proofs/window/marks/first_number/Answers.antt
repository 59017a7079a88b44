use Rattle.std.proofs.Common.{◌≡◌, option_map, sym, ap, ◌∙◌, rules, tests}
use Rattle.std.specs.List.{find}
use Rattle.std.proofs.lemmas.Iterator.{YieldsList-from_slice}
use Rattle.std.proofs.lemmas.Iterator.Search.{find_from_yields_List}
use Rattle.conflicts.specs.Rising.{number_of}
use Rattle.conflicts.proofs.Loops.{map_both}
use Rattle.conflicts.proofs.window.marks.first_number.Goals as goal

pub returns : goal.returns
returns g c p h =
    let found : option_map (λ x. x.now) c.find.result ≡ find p c.args.all.now = find_from_yields_List p _ _ c.find.result c.find.ensures.ran (YieldsList-from_slice c.args.all.now cc) (λ x b q k. search (rules, tests, h)) in
    let number : c.map.result ≡ option_map (λ x. number_of x.now) c.find.result = search (rules, tests) in
    number ∙ sym (map_both number_of (λ x. x.now) c.find.result) ∙ ap (option_map number_of) found
