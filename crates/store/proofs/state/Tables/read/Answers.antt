use Rattle.std.proofs.Common.{◌≡◌, ℕ, ◌≤◌, map, get_or, vec_items, sym, refl, ap, ◌∙◌, subst, inl, inr}
use Rattle.model.specs.declared.Call.TheVariants.{Read}
use Rattle.model.specs.Transactions.{moment}
use Rattle.transactions.specs.Slots.{idle, going, run_of, read}
use Rattle.history.specs.Engine.{refused}
use Rattle.store.specs.Fits.{bare}
use Rattle.store.specs.Calls.{reply_of}
use Rattle.store.proofs.Exits.{passed_on}
use Rattle.store.proofs.Finding.{floor-at, end_within}
use Rattle.store.proofs.Recording.{nothing_new, performed-same, no_commit}
use Rattle.store.proofs.Runs.{slot-bare}
use Rattle.store.proofs.Steps.{read_goes, fits_read, read_told}
use Rattle.store.proofs.state.Tables.read.Goals as goal

pub returns-in_err-seen : goal.returns-in_err-seen
returns-in_err-seen c = λ j e snd fit free.
    let g = read_goes e c.args.slot c.args.from c.args.to free in
    inr (free, refl, fit, ap reply_of (passed_on _ _ c.from_residual.ensures.1) ∙ ap refused (c.in_err-seen.ensures g.0.txn (slot-bare e _ _ _ _ fit c.args.slot ∙ ap bare g.1)), refl)

pub returns : goal.returns
returns c = λ j e snd fit free.
    let i = c.args.slot in
    let a = c.args.from in
    let b = c.args.to in
    let at = c.in_ok-seen.seen.at in
    let g = read_goes e i a b free in
    let l = g.0 in
    let run : get_or (map run_of c.args.self.now.slots) i idle ≡ going l.txn = slot-bare e _ _ _ _ fit i ∙ ap bare g.1 in
    let looks = c.in_ok-seen.ensures l.txn run in
    let low : e.floor ≤ at = subst (λ (k : ℕ). e.floor ≤ k) (sym (ap (moment l.txn) fit.number) ∙ sym looks.0) (floor-at e snd i l g.1) in
    inl (
      fits_read e _ _ _ _ fit _ _ _ _ i a b at _ l.txn l free g.1 refl looks.0 (ap (read a b at) run) c.note.ensures,
      read_told e i a b at _ l.txn l (vec_items c.in_ok-seen.seen.entries) g.1 refl looks.0 fit.number (looks.1 e fit low (end_within e i a b free)),
      nothing_new e _ j (performed-same (Read i a b) e (no_commit _ refl)),
    )
