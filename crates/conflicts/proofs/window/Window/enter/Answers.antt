use Rattle.std.proofs.Common.{◌≡◌, ◌-◌, [], ◌∷◌, ◌++◌, map, length, take, drop, vec_items, sym, ap, ◌∙◌, subst, arith}
use borrow.Rule.Slice.PartMut.{put_mid, same_len_mid}
use Rattle.std.proofs.lemmas.List.{with_items_is}
use Rattle.transactions.specs.Transactions.{model_of}
use Rattle.conflicts.specs.Marks.{mark_of, remarked, new_mark, taken_in}
use Rattle.conflicts.specs.Rising.{Rise}
use Rattle.conflicts.proofs.Seen.{part_is, part-back, taken-behind, numbers-taken}
use Rattle.conflicts.proofs.window.Window.enter.Goals as goal
use Rattle.conflicts.proofs.window.Window.enter.Goals.{After-push_reserved}

taken : (c : After-push_reserved) → map mark_of (vec_items c.push_reserved.new.self) ≡ taken_in (model_of c.args.t.now) c.args.number (map mark_of (vec_items c.reserve.new.self))
taken c =
    let t = model_of c.args.t.now in
    let n = c.args.number in
    let v = c.reserve.new.self in
    let cs = vec_items v in
    let r = c.unseen_from-from.result in
    let ys = c.remark_all.new.all in
    let x = c.in_ok-new.new in
    let back = part-back c.deref_mut.result.now cs r c.deref_mut.ensures.value ys in
    let all = put_mid r (length c.deref_mut.result.now - r) c.deref_mut.result.now ys in
    let long : length all ≡ v.len = omega (arith, same_len_mid r (length c.deref_mut.result.now - r) c.deref_mut.result.now ys c.remark_all.auto.all) in
    let a : vec_items c.push_reserved.new.self ≡ (take r cs ++ ys) ++ (x ∷ []) = c.push_reserved.ensures.items ∙ ap (λ l. l ++ (x ∷ [])) (with_items_is v all long ∙ back) in
    let b : map mark_of ys ≡ map (remarked t n) (map mark_of (drop r cs)) = c.remark_all.ensures ∙ ap (λ l. map (remarked t n) (map mark_of l)) (part_is c.deref_mut.result.now cs r c.deref_mut.ensures.value) in
    let d : mark_of x ≡ new_mark t n (map mark_of (drop r cs)) = c.in_ok-new.ensures ∙ ap (λ l. new_mark t n (map mark_of l)) (part_is c.deref.result.now cs r c.deref.ensures.value) in
    ap (map mark_of) a ∙ taken-behind t cs r c.unseen_from-from.ensures.seen n ys x b d

pub invariant_of-self-2 : goal.invariant_of-self-2
invariant_of-self-2 c =
    let cs = vec_items c.reserve.new.self in
    let ds = vec_items c.push_reserved.new.self in
    let m = numbers-taken (model_of c.args.t.now) c.args.number cs ds (taken c) in
    record { rises = λ e. subst Rise (sym m) (c.rising_with-rising.ensures e) }

pub returns : goal.returns
returns c = taken (goal.at.returns c).After-push_reserved ∙ ap (λ l. taken_in (model_of c.args.t.now) c.args.number (map mark_of l)) c.reserve.ensures.items
