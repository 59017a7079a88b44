use Rattle.std.proofs.Common.{◌≡◌, sym, refl, ap, ◌∙◌}
use Rattle.std.proofs.lemmas.Bool.{or_left}
use Rattle.model.specs.Transactions.{Txn, is_serial}
use Rattle.transactions.specs.Transactions.{model_of}
use Rattle.versions.specs.Store.{room_for}
use Rattle.journal.specs.Held.{room_of}
use Rattle.store.proofs.Exits.{passed_on}
use Rattle.store.proofs.Recording.{lack_room, never_short, one-new}
use Rattle.store.proofs.Judging.{never_full, never_last, then}
use Rattle.store.proofs.Steps.{fits-entered, fits-window, never_refused}
use Rattle.store.proofs.state.Tables.enter.Goals as goal

pub returns-then-not-room_for : goal.returns-then-not-room_for
returns-then-not-room_for c = λ e i l snd fit here same free.
    absurd (never_full e snd _ _ _ _ fit i l here c.own_writes.result.now (then c.own_writes.ensures (ap (λ (t : Txn). t.writes) same)) c.room_for.result c.room_for.ensures.history c.if-not-room_for.true free)

pub returns-then-number : goal.returns-then-number
returns-then-number c = λ e i l snd fit here same free. absurd (never_last e _ _ _ _ fit l c.if-number.true free)

pub returns-then-not-has_room : goal.returns-then-not-has_room
returns-then-not-has_room c = λ e i l snd fit here same free. (lack_room (room_of c.args.journal.now) l (then (sym c.has_room.ensures.room) c.if-not-has_room.true), fit, refl, refl)

pub returns-in_err-take_in : goal.returns-in_err-take_in
returns-in_err-take_in c =
    rw (passed_on _ _ c.from_residual.ensures.1)
    (λ e i l snd fit here same free.
    let p = c.in_err-take_in.ensures.marks in
    (or_left (is_serial l.txn.level) _ (ap (λ (t : Txn). is_serial t.level) (sym same) ∙ p.0), fits-window e _ _ _ _ fit _ p.2, p.1, refl))

pub returns-in_default : goal.returns-in_default
returns-in_default c = λ e i l snd fit here same free.
    absurd
    (never_short e snd i l here c.own_writes-2.result.now (then c.own_writes-2.ensures (ap (λ (t : Txn). t.writes) same)) c.args.journal.now c.append.new.self c.args.self.now.commits (Unit {0}) c.in_default.field-0 c.in_default.ensures.bytes
    (then (sym c.has_room.ensures.room) c.if-not-has_room.false))

pub returns-in_err-commit : goal.returns-in_err-commit
returns-in_err-commit c =
    rw (passed_on _ _ c.from_residual-in_err-commit.ensures.1)
    (λ e i l snd fit here same free.
    let v = c.args.self.now.versions.now in
    let again : c.own_writes-3.result.now ≡ c.own_writes.result.now = then c.own_writes-3.ensures (sym c.own_writes.ensures) in
    absurd
    (never_refused v c.own_writes-3.result.now (model_of c.args.t.now) l c.in_err-commit.field-0.0 c.own_writes-3.ensures same (snd.under i l here).keys
    (ap (room_for v) again ∙ sym c.room_for.ensures.value ∙ c.if-not-room_for.false) c.in_err-commit.ensures.done.0))

pub returns : goal.returns
returns c = λ e i l snd fit here same. (
  fits-entered e snd _ _ _ _ fit i l here (model_of c.args.t.now) same c.own_writes-3.result.now c.own_writes-3.ensures c.commit.new.self c.take_in.new.self
      c.in_ok-commit.ensures.history c.in_ok-commit.ensures.done.3 c.in_ok-take_in.ensures.rules,
  one-new e l c.args.journal.now c.append.new.self c.args.self.now.commits c.own_writes-2.result.now fit.number (then c.own_writes-2.ensures (ap (λ (t : Txn). t.writes) same)) {A = Unit {0}} tt c.in-Ok.ensures.bytes c.in-Ok.ensures.fine,
)
