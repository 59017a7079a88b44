use Rattle.std.proofs.Common.{◌<◌, ◌≤◌, not, sym, ap, ◌∙◌, arith, eq-eqb}
use Rattle.model.specs.Versions.{newer}
use Rattle.versions.specs.Chain.{listed, chain}
use Rattle.versions.specs.Lent.{inside}
use Rattle.versions.proofs.Walks.{newer-none, newer-here}
use Rattle.versions.proofs.chains.Chains.newer.Goals as goal

pub returns-then-place-ne0 : goal.returns-then-place-ne0
unfolding listed
returns-then-place-ne0 c =
    let s = c.args.self.now in
    let p = c.head-place.result in
    let pos : 0 < c.head-place.result = omega (arith, c.if-place-ne0.true) in
    let low : c.head-place.result ≤ c.args.self.now.count = omega (arith, c.head-place.ensures, c.args.self.now.good.3 c.args.key) in
    sym (newer-here (inside s) s.count c.args.self.now.good.2 p pos low c.args.begin)
    ∙ ap (λ q. newer c.args.begin (chain (inside s) q)) c.head-place.ensures

pub returns-else-place-ne0 : goal.returns-else-place-ne0
unfolding listed
returns-else-place-ne0 c =
    let s = c.args.self.now in
    ap not (eq-eqb c.head-place.result 0 c.if-place-ne0.false)
    ∙ sym (newer-none (inside s) c.args.begin c.head-place.result c.if-place-ne0.false)
    ∙ ap (λ q. newer c.args.begin (chain (inside s) q)) c.head-place.ensures
