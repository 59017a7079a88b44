use Rattle.std.proofs.Common.{◌≡◌, true, false, leb, refl, ap, ◌∙◌, arith, le-leb}
use Rattle.std.proofs.lemmas.Bool.Decides.{nat_tests}
use Rattle.model.specs.Refusals.{refusal_in}
use Rattle.transactions.specs.Transactions.{model_of}
use Rattle.store.proofs.Exits.{passed_on}
use Rattle.store.proofs.Judging.{refused-first, judged_as}
use Rattle.store.proofs.state.Tables.verdict.Goals as goal

pub returns-in_err-verdict : goal.returns-in_err-verdict
returns-in_err-verdict c = λ e snd fit i l here at.
    ap refusal_in (passed_on _ _ c.from_residual.ensures.1)
    ∙ refused-first e snd _ _ _ _ fit i l here (model_of c.args.t.now) at c.own_writes.result.now c.own_writes.ensures c.conflicts-conflict.result _
    c.conflicts-conflict.ensures.history c.in_err-verdict.ensures.rules

pub returns-then-not-room_for : goal.returns-then-not-room_for
returns-then-not-room_for c = λ e snd fit i l here at.
    judged_as e snd _ _ _ _ fit i l here (model_of c.args.t.now) at c.own_writes.result.now c.own_writes-2.result.now c.own_writes.ensures c.own_writes-2.ensures
    c.conflicts-conflict.result c.room_for.result false (leb 4294967295 c.args.self.now.commits)
    c.conflicts-conflict.ensures.history c.in_ok-verdict.ensures.rules c.room_for.ensures.history c.if-not-room_for.true refl

pub returns-then-self : goal.returns-then-self
returns-then-self c = λ e snd fit i l here at.
    judged_as e snd _ _ _ _ fit i l here (model_of c.args.t.now) at c.own_writes.result.now c.own_writes-2.result.now c.own_writes.ensures c.own_writes-2.ensures
    c.conflicts-conflict.result c.room_for.result true true
    c.conflicts-conflict.ensures.history c.in_ok-verdict.ensures.rules c.room_for.ensures.history c.if-not-room_for.false (le-leb 4294967295 _ (omega (arith, c.if-self.true)))

pub returns : goal.returns
returns c = λ e snd fit i l here at.
    let small : leb 4294967295 c.args.self.now.commits ≡ false = grind (arith, nat_tests) in
    judged_as e snd _ _ _ _ fit i l here (model_of c.args.t.now) at c.own_writes.result.now c.own_writes-2.result.now c.own_writes.ensures c.own_writes-2.ensures
    c.conflicts-conflict.result c.room_for.result true false
    c.conflicts-conflict.ensures.history c.in_ok-verdict.ensures.rules c.room_for.ensures.history c.if-not-room_for.false small
