use Rattle.std.proofs.Common.{◌≡◌, ◌+◌, true, false, get_or, drop, sym, ap, ◌∙◌, arith}
use Rattle.std.proofs.lemmas.List.{take_rest}
use Rattle.model.specs.Transactions.{names}
use Rattle.versions.specs.declared.chains.Chains.{Chains}
use Rattle.versions.specs.Lent.{view}
use Rattle.versions.proofs.Named.{none, keys_end, keys_step, commit-step}
use Rattle.versions.proofs.chains.Chains.commit.Goals as goal
use Rattle.versions.proofs.chains.Chains.commit.Goals.{then-not-writes_key, else-not-writes_key, After-writes_key}

-- whether a later write is of the same key
later : (c : After-writes_key) → c.writes_key.result ≡ names (get_or c.args.writes.now c.loop-i.i none).key (drop (c.loop-i.i + 1) c.args.writes.now)
later c = c.writes_key.ensures ∙ ap (names (get_or c.args.writes.now c.loop-i.i none).key) (take_rest c.args.writes.now (c.loop-i.i + 1))

pub add-requires-clause-room : goal.add-requires-clause-room
add-requires-clause-room c =
    let es = c.args.writes.now in
    let i = c.loop-i.i in
    let step = keys_step es i c.loop-i-test.true false (sym c.if-not-writes_key.true ∙ later (goal.at.add-requires-clause-room c).After-writes_key) in
    omega (arith, step, c.loop-i.invariant.0, c.loop-i.invariant.1, c.requires.room)

pub loop-i-preserved : goal.loop-i-preserved
loop-i-preserved c =
    let es = c.args.writes.now in
    let i = c.loop-i.i in
    let n = c.args.number in
    let told = later (goal.at.loop-i-preserved c).After-writes_key in
    let so = c.loop-i.invariant in
    elim c.if-not-writes_key.branch [
      | then-not-writes_key w ↦
          let same = sym w.if-not-writes_key.true ∙ told in
          let step = keys_step es i c.loop-i-test.true false same in
          let count = ap (λ (s : Chains). s.count) w.self-is in (
            ap (λ (s : Chains). s.room) w.self-is ∙ w.add.ensures.room ∙ so.0,
            omega (arith, count, w.add.ensures.count, step, so.1),
            λ k. ap (λ (s : Chains). view s k) w.self-is ∙ w.add.ensures.views k
                ∙ commit-step es i c.loop-i-test.true false same n k (view c.args.self.now k) (view c.loop-i.self k) (so.2 k),
          )
      | else-not-writes_key w ↦
          let same = sym w.if-not-writes_key.false ∙ told in
          let step = keys_step es i c.loop-i-test.true true same in
          let count = ap (λ (s : Chains). s.count) w.self-is in (
            ap (λ (s : Chains). s.room) w.self-is ∙ so.0,
            omega (arith, count, step, so.1),
            λ k. ap (λ (s : Chains). view s k) w.self-is
                ∙ commit-step es i c.loop-i-test.true true same n k (view c.args.self.now k) (view c.loop-i.self k) (so.2 k),
          )
    ]

pub returns-clause-count : goal.returns-clause-count
returns-clause-count c = omega (arith, keys_end c.args.writes.now c.loop-i.i c.loop-i-test.false, c.loop-i.invariant.1)
