use Rattle.std.proofs.Common.{◌<◌, take, vec_items, ap, arith}
use Rattle.model.specs.Transactions.{puts, after, empty}
use Rattle.transactions.specs.Transactions.{writes_of}
use Rattle.history.specs.Engine.{txns}
use Rattle.store.proofs.Finding.{one_found, none_found, all_found}
use Rattle.store.proofs.Judging.{then}
use Rattle.store.proofs.state.Tables.found.Goals as goal
use Rattle.store.proofs.state.Tables.found.Goals.{then-value-gt0+in_ok-push, else-value-gt0}

pub loop-key-preserved : goal.loop-key-preserved
loop-key-preserved c = λ e fit low up.
    let m = puts (writes_of c.args.t.now) (after empty (take c.args.at (txns e))) in
    let k : c.loop-key.key < 4096 = omega (arith, c.loop-key-test.true, up) in
    let stands = c.stands-value.ensures e fit low k in
    let old = vec_items c.loop-key.entries in
    let so = c.loop-key.invariant e fit low up in
    elim c.if-value-gt0.branch [
      | then-value-gt0+in_ok-push w ↦
          one_found m old _ _ c.loop-key.key c.args.to c.stands-value.result c.loop-key-test.true stands w.if-value-gt0.true
          (then (ap vec_items w.entries-is) w.in_ok-push.ensures.items) so
      | else-value-gt0 w ↦
          none_found m old _ _ c.loop-key.key c.args.to c.stands-value.result c.loop-key-test.true stands w.if-value-gt0.false (ap vec_items w.entries-is) so
    ]

pub returns : goal.returns
returns c = λ e fit low up.
    all_found (puts (writes_of c.args.t.now) (after empty (take c.args.at (txns e)))) (vec_items c.loop-key.entries) _ c.loop-key.key c.args.to c.loop-key-test.false (c.loop-key.invariant e fit low up)
