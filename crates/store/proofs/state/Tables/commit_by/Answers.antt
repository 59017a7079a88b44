use Rattle.std.proofs.Common.{◌≡◌, Some, None, Option, sym, refl, ap, ◌∙◌, subst, inl, inr}
use Rattle.transactions.specs.Slots.{idle}
use Rattle.history.specs.Engine.{Life, Engine, slot_at, with_slot, on_commit, commit_refusal, committed, refused}
use Rattle.history.proofs.Lists.{none_some}
use Rattle.journal.specs.Held.{room_of}
use Rattle.store.proofs.Exits.{passed_on}
use Rattle.store.specs.Calls.{Is, reply_of, Recorded, entered, lack_in}
use Rattle.store.proofs.Recording.{recorded_as}
use Rattle.store.proofs.Steps.{fits-put, commit-goes}
use Rattle.store.proofs.state.Tables.commit_by.Goals as goal

allowed : (e : Engine) (x l : Life) (i : _) → slot_at i e ≡ Some x → slot_at i e ≡ Some l → commit_refusal e x ≡ None → commit_refusal e l ≡ None
allowed e x l i p q r = let h : x ≡ l = cc in subst (λ (y : Life). commit_refusal e y ≡ None) h r

pub returns-in_err-enter : goal.returns-in_err-enter
returns-in_err-enter c = λ e l snd fit here same free.
    let g = commit-goes e c.args.slot free in
    let p = c.in_err-enter.ensures e c.args.slot l snd fit here same (allowed e g.0 l c.args.slot g.1 here g.2) in
    inr (free, ap (lack_in (room_of c.args.journal.now)) here ∙ p.0, p.1, ap reply_of (passed_on _ _ c.from_residual.ensures.1) ∙ ap refused p.2, p.3)

pub returns : goal.returns
returns c = λ e l snd fit here same free.
    let i = c.args.slot in
    let in-done = c.in_ok-enter.ensures e i l snd fit here same in
    let out = c.forget.ensures (with_slot i None (entered e l)) (fits-put (entered e l) _ _ _ _ in-done.0 _ _ _ _ i idle None refl (λ x k s. absurd (none_some k)) c.end.ensures) in
    inl (
      subst (λ (o : Option Life). Is (on_commit i e o) c.forget.new.self) (sym here) out,
      ap committed fit.number,
      subst (λ (o : Option Life). Recorded e (on_commit i e o) c.args.journal.now c.enter.new.journal) (sym here) (recorded_as e (entered e l) _ _ _ refl in-done.1),
    )
