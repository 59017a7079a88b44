use Rattle.std.proofs.Common.{◌+◌, ◌<◌, ◌≤◌, [], ◌++◌, map, length, take, set, sym, ap, ◌∙◌, append-nil, arith}
use Rattle.model.specs.Versions.{swept}
use Rattle.versions.specs.Chain.{listed, version_at, chain}
use Rattle.versions.specs.Lent.{inside}
use Rattle.versions.proofs.Walks.{swept_none, swept-here, swept-behind}
use Rattle.versions.proofs.Stacks.{pushed, pushed-below}
use Rattle.versions.proofs.chains.Chains.kept.Goals as goal

pub loop-place-init : goal.loop-place-init
unfolding listed
loop-place-init c =
    let s = c.args.self.now in (
      omega (arith, c.args.self.now.good.3 c.args.key, c.head-place.ensures),
      (λ i h. omega arith),
      ap (λ p. swept c.args.floor (chain (inside s) p)) c.head-place.ensures,
    )

pub loop-place-preserved : goal.loop-place-preserved
loop-place-preserved c =
    let s = c.args.self.now in
    let p = c.loop-place.place in
    let n = c.loop-place.n in
    let pos : 0 < p = omega (arith, c.if-place-eq0.false) in
    let low : p ≤ s.count = omega (arith, c.loop-place.invariant.0) in
    let fits : n < length c.loop-place.stack = omega (arith, c.loop-place.invariant.0, c.loop-place.auto.stack, c.requires, c.args.self.now.good.1) in (
      omega (arith, c.loop-place.invariant.0, c.args.self.now.good.2 p pos low),
      pushed-below c.loop-place.stack n p s.count fits low c.loop-place.invariant.1,
      pushed (version_at (inside s)) c.loop-place.stack n p _ fits
          ∙ ap (λ vs. map (version_at (inside s)) (take n c.loop-place.stack) ++ vs) (sym (swept-behind (inside s) s.count c.args.self.now.good.2 p pos low c.args.floor c.if-self-place.false))
          ∙ c.loop-place.invariant.2,
    )

pub returns-then-place-eq0-clause-kept : goal.returns-then-place-eq0-clause-kept
returns-then-place-eq0-clause-kept c =
    let s = c.args.self.now in
    sym (append-nil (map (version_at (inside s)) (take c.loop-place.n c.loop-place.stack)))
    ∙ ap (λ vs. map (version_at (inside s)) (take c.loop-place.n c.loop-place.stack) ++ vs) (sym (swept_none (inside s) c.args.floor c.loop-place.place c.if-place-eq0.true))
    ∙ c.loop-place.invariant.2

pub returns-then-self-place-clause-used : goal.returns-then-self-place-clause-used
returns-then-self-place-clause-used c =
    let s = c.args.self.now in
    let p = c.loop-place.place in
    let n = c.loop-place.n in
    let low : p ≤ s.count = omega (arith, c.loop-place.invariant.0) in
    let fits : n < length c.loop-place.stack = omega (arith, c.loop-place.invariant.0, c.loop-place.auto.stack, c.requires, s.good.1) in
    pushed-below c.loop-place.stack n p s.count fits low c.loop-place.invariant.1

pub returns-then-self-place-clause-kept : goal.returns-then-self-place-clause-kept
returns-then-self-place-clause-kept c =
    let s = c.args.self.now in
    let p = c.loop-place.place in
    let n = c.loop-place.n in
    let pos : 0 < p = omega (arith, c.if-place-eq0.false) in
    let low : p ≤ s.count = omega (arith, c.loop-place.invariant.0) in
    let fits : n < length c.loop-place.stack = omega (arith, c.loop-place.invariant.0, c.loop-place.auto.stack, c.requires, s.good.1) in
    sym (append-nil (map (version_at (inside s)) (take (n + 1) (set c.loop-place.stack n p))))
    ∙ pushed (version_at (inside s)) c.loop-place.stack n p [] fits
    ∙ ap (λ vs. map (version_at (inside s)) (take n c.loop-place.stack) ++ vs) (sym (swept-here (inside s) s.count s.good.2 p pos low c.args.floor c.if-self-place.true))
    ∙ c.loop-place.invariant.2
