use Rattle.std.proofs.Common.{◌≡◌, sym, ap, ◌∙◌, inl, inr, arith}
use Rattle.std.proofs.lemmas.Bool.{cases_lt}
use Rattle.model.specs.Versions.{swept}
use Rattle.versions.specs.declared.chains.Chains.{Chains}
use Rattle.versions.specs.Lent.{inside, view}
use Rattle.versions.proofs.Walks.{listed-far}
use Rattle.versions.proofs.Copies.{copies_fit, swept_nothing}
use Rattle.versions.proofs.spare.Spare.sweep.Goals as goal

pub copy-requires-clause-room : goal.copy-requires-clause-room
copy-requires-clause-room c =
    let to = c.loop-key.self.to in
    let from = c.args.chains.now in
    let fits = copies_fit (view to) (view from) c.args.floor c.loop-key.key (omega arith) c.loop-key.invariant.2 c.loop-key.invariant.3 in
    omega (arith, fits, to.good.4, from.good.4, from.good.1, c.loop-key.invariant.0)

pub returns-clause-views : goal.returns-clause-views
returns-clause-views c = λ k.
    let from = c.args.chains.now in
    let copied : view c.loop-key.self.to k ≡ swept c.args.floor (view from k) =
    elim (cases_lt k c.loop-key.key) [
      | inl lt ↦ c.loop-key.invariant.2 k lt
      | inr ge ↦ c.loop-key.invariant.3 k ge
          ∙ sym (swept_nothing c.args.floor)
          ∙ ap (swept c.args.floor) (sym (listed-far (inside from) from.count from.room k from.good (omega arith)))
    ] in
    ap (λ (s : Chains). view s k) c.swap.ensures.x_after ∙ copied
