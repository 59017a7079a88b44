use Rattle.std.proofs.Common.{◌++◌, eqb, map, length, ap, ◌∙◌, arith}
use Rattle.std.proofs.lemmas.List.{length_push}
use Rattle.versions.specs.Chain.{version_at}
use Rattle.versions.specs.Lent.{inside, view}
use Rattle.versions.proofs.Stacks.{last_behind, last_left, last_within, one_more}
use Rattle.versions.proofs.chains.Chains.add_all.Goals as goal

pub bounds-from-place : goal.bounds-from-place
bounds-from-place c =
    let low = last_within c.args.places.now _ c.next.new.self.iter.rest.now _ c.in-Some.ensures.steps c.loop-place.invariant.2 _ c.requires.used in
    omega (arith, low, c.args.from.now.good.0.3, c.args.from.now.good.1, c.requires.same, c.requires.room)

pub bounds-from-place-in-loop-place : goal.bounds-from-place-in-loop-place
bounds-from-place-in-loop-place c =
    let low = last_within c.args.places.now _ c.next.new.self.iter.rest.now _ c.in-Some.ensures.steps c.loop-place.invariant.2 _ c.requires.used in
    omega (arith, low, c.args.from.now.good.0.4, c.args.from.now.good.1, c.requires.same, c.requires.room)

pub loop-place-preserved : goal.loop-place-preserved
loop-place-preserved c =
    let s = c.loop-place.self in
    let places = c.args.places.now in
    let rest = c.loop-place.place-iterator.iter.rest.now in
    let less = c.next.new.self.iter.rest.now in
    let p = c.in-Some.place.now in
    let f = version_at (inside c.args.from.now) in
    let behind = last_behind places rest less p c.in-Some.ensures.steps c.loop-place.invariant.2 in (
      c.add.ensures.room ∙ c.loop-place.invariant.0,
      omega (arith, c.add.ensures.count, c.loop-place.invariant.1, ap length c.in-Some.ensures.steps, length_push less p),
      last_left places rest less p c.in-Some.ensures.steps c.loop-place.invariant.2,
      λ k. one_more (eqb k c.args.key) (f p) (view c.add.new.self k) (view s k) (view c.args.self.now k) _ _
          (c.add.ensures.views k)
          (c.loop-place.invariant.3 k)
          (ap (λ l. map f l ++ view c.args.self.now c.args.key) behind),
    )
