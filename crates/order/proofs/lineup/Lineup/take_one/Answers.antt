use Rattle.std.proofs.Common.{◌≡◌, [], ◌∷◌, ◌++◌, Some, None, vec_items, sym, ap, ◌∙◌, arith, rules}
use Rattle.order.specs.Order.{first_free}
use Rattle.order.specs.Lineup.{commits_of, left_in}
use Rattle.order.proofs.Taking.{taken-one, taken_stuck, compared_taken, first-within, room_left, without_first, front_taken}
use Rattle.order.proofs.lineup.Lineup.take_one.Goals as goal
use Rattle.order.proofs.lineup.Lineup.take_one.Goals.{In-Some}

told : (c : In-Some) → Some c.in-Some.i ≡ first_free (commits_of c.args.self.now) (left_in c.args.self.now)
told c = search rules

pub returns-in_default : goal.returns-in_default
returns-in_default c =
    let u = c.args.self.now in
    let s = c.first_free.ensures.same in
    let e : None ≡ first_free (commits_of u) (left_in u) = search rules in
    record { pasts = s.pasts; taken = λ k. taken_stuck (commits_of u) (left_in u) (vec_items u.order) e k ∙ sym (ap vec_items s.order) }

pub invariant_of-self : goal.invariant_of-self
invariant_of-self c =
    let u = c.args.self.now in
    let v = c.first_free.new.self in
    let s = c.first_free.ensures.same in
    let i = c.in-Some.i in
    let e = told (goal.at.invariant_of-self c).In-Some in
    record {
      few = v.few;
      compared = compared_taken v.pasts.now (vec_items v.cursors) i (first-within u v i s e) v.compared;
      front = front_taken (vec_items v.cursors) v.first v.front i (omega (arith, v.compared.0, first-within u v i s e));
      room = omega (arith, v.room, room_left u v i s e, c.push_reserved.ensures.len, c.push_reserved.ensures.capacity);
    }

pub returns : goal.returns
returns c =
    let u = c.args.self.now in
    let v = c.first_free.new.self in
    let s = c.first_free.ensures.same in
    let i = c.in-Some.i in
    let e = told (goal.at.returns c).In-Some in
    record {
      pasts = s.pasts;
      taken = taken-one (commits_of u) (left_in u) (vec_items u.order) i _ _ e (without_first u v i s e) (c.push_reserved.ensures.items ∙ ap (λ o. vec_items o ++ (i ∷ [])) s.order);
    }
