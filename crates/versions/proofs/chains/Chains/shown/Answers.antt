use Rattle.std.proofs.Common.{◌<◌, sym, ap, ◌∙◌, arith}
use Rattle.model.specs.Versions.{shown}
use Rattle.versions.specs.Chain.{listed, chain}
use Rattle.versions.specs.Lent.{inside}
use Rattle.versions.proofs.Walks.{shown-none, shown-here, shown-behind}
use Rattle.versions.proofs.chains.Chains.shown.Goals as goal
use Rattle.versions.proofs.chains.Chains.shown.Goals.{then-place-eq0-via-then-place-eq0, then-place-eq0-via-else-place-eq0+then-self-place}

pub loop-place-init : goal.loop-place-init
unfolding listed
loop-place-init c =
    let s = c.args.self.now in
    (omega (arith, c.args.self.now.good.3 c.args.key, c.head-place.ensures), ap (λ p. shown c.args.at (chain (inside s) p)) c.head-place.ensures)

pub loop-place-preserved : goal.loop-place-preserved
loop-place-preserved c =
    let s = c.args.self.now in
    let p = c.loop-place.place in
    let pos : 0 < p = omega (arith, c.if-place-eq0.false) in (
      omega (arith, c.args.self.now.good.2 p pos c.loop-place.invariant.0),
      sym (shown-behind (inside s) s.count c.args.self.now.good.2 p pos c.loop-place.invariant.0 c.args.at c.if-self-place.false) ∙ c.loop-place.invariant.1,
    )

pub returns-then-found-eq0 : goal.returns-then-found-eq0
returns-then-found-eq0 c = sym (shown-none (inside c.args.self.now) c.args.at c.loop-place.place c.if-found-eq0.true) ∙ c.loop-place.invariant.1

pub returns-else-found-eq0 : goal.returns-else-found-eq0
returns-else-found-eq0 c =
    let s = c.args.self.now in
    let p = c.loop-place.place in
    let pos : 0 < p = omega (arith, c.if-found-eq0.false) in
    elim c.then-place-eq0.branch [
      | then-place-eq0-via-then-place-eq0 w ↦ let z : ⊥ = omega arith in elim z [ ]
      | then-place-eq0-via-else-place-eq0+then-self-place w ↦
          sym (shown-here (inside s) s.count c.args.self.now.good.2 p pos c.loop-place.invariant.0 c.args.at w.if-self-place.true) ∙ c.loop-place.invariant.1
    ]
