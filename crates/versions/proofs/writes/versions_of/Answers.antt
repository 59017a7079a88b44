use Rattle.std.proofs.Common.{◌≡◌, ◌+◌, true, false, get_or, drop, sym, ap, ◌∙◌, arith}
use Rattle.std.proofs.lemmas.List.{take_rest}
use Rattle.model.specs.Transactions.{names}
use Rattle.versions.proofs.Named.{none, keys_end, keys_step}
use Rattle.versions.proofs.writes.versions_of.Goals as goal
use Rattle.versions.proofs.writes.versions_of.Goals.{then-not-writes_key, else-not-writes_key}

pub loop-i-preserved : goal.loop-i-preserved
loop-i-preserved c =
    let es = c.args.writes.now in
    let i = c.loop-i.i in
    let later : c.writes_key.result ≡ names (get_or es i none).key (drop (i + 1) es) = c.writes_key.ensures ∙ ap (names (get_or es i none).key) (take_rest es (i + 1)) in
    elim c.if-not-writes_key.branch [
      | then-not-writes_key w ↦
          let step = keys_step es i c.loop-i-test.true false (sym w.if-not-writes_key.true ∙ later) in
          (omega (arith, w.n-is, c.loop-i.invariant.0), omega (arith, w.n-is, step, c.loop-i.invariant.1))
      | else-not-writes_key w ↦
          let step = keys_step es i c.loop-i-test.true true (sym w.if-not-writes_key.false ∙ later) in
          (omega (arith, w.n-is, c.loop-i.invariant.0), omega (arith, w.n-is, step, c.loop-i.invariant.1))
    ]

pub returns : goal.returns
returns c = omega (arith, keys_end c.args.writes.now c.loop-i.i c.loop-i-test.false, c.loop-i.invariant.1)
