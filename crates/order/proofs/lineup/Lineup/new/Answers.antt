use Rattle.std.proofs.Common.{length, vec_items, refl, ap, arith, rules}
use Rattle.std.proofs.lemmas.List.FromFn.{length-range_with_len}
use Rattle.order.proofs.Taking.{left-first, compared_first}
use Rattle.order.proofs.lineup.Lineup.new.Goals as goal

pub invariant_of-result : goal.invariant_of-result
invariant_of-result c =
    let ps = c.args.pasts.now in
    let n = length ps in
    let first = c.in_ok-vec.ensures.items_if_clones_equal (λ y e. search rules) in
    let left = left-first n (vec_items c.in_ok-vec.field-0) first in
    record {
      few = c.requires;
      compared = compared_first n (vec_items c.in_ok-vec.field-0) first ps refl;
      front = λ j l. absurd (omega arith);
      room = omega (arith, ap length left, length-range_with_len 0 n, c.in_ok-with_capacity.ensures.len, c.in_ok-with_capacity.ensures.capacity);
    }

pub returns : goal.returns
returns c =
    record { pasts = refl; left = left-first (length c.args.pasts.now) (vec_items c.in_ok-vec.field-0) (c.in_ok-vec.ensures.items_if_clones_equal (λ y e. search rules)); order = c.in_ok-with_capacity.ensures.items }
