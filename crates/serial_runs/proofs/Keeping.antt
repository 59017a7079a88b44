-- What is kept of the commits, call by call.
use Rattle.std.proofs.Common.{◌≡◌, ℕ, zero, suc, true, false, List, [], ◌∷◌, ◌++◌, map, Some, Ok, Err, vec_items, Result, Vec, sym, refl, ap, ◌∙◌, subst, inl, inr, arith}
use Rattle.std.proofs.lemmas.List.{map_push}
use Rattle.model.specs.declared.Answer.{Answer}
use Rattle.model.specs.declared.Call.{Call}
use Rattle.model.specs.declared.Call.TheVariants.{Commit}
use Rattle.model.specs.declared.Level.{Level}
use Rattle.model.specs.declared.Level.TheVariants.{Serial}
use Rattle.model.specs.declared.Refusal.{Refusal}
use Rattle.model.specs.declared.Refusal.TheVariants.{NoMemory}
use Rattle.model.specs.declared.Request.TheVariants.{Whole, Faulty}
use Rattle.model.specs.Transactions.{Txn, is_serial}
use Rattle.order.specs.declared.past.Past.{Past}
use Rattle.order.specs.Order.{line, AllSerial}
use Rattle.order.specs.Past.{past_of, as_serial, LineTold}
use Rattle.history.specs.Engine.{Life, Engine, txns, count, slot_at, refusal_of, reply_to, committed, refused, Event, Called, led}
use Rattle.history.specs.Promise.{SerialRun}
use Rattle.history.proofs.Promising.{promises}
use Rattle.store.specs.declared.store.Store.{Store}
use Rattle.store.specs.Calls.{Is, reply_of, serial_in, Answers}
use Rattle.store.specs.Answers.{ready_of, AnswersTo}
use Rattle.serial_runs.specs.declared.runs.Runs.{Runs}
use Rattle.serial_runs.specs.Requests.{begins_other}
use Rattle.serial_runs.specs.Standing.{commits, bad_line, OnlySerial, Stands, CallDone, InLine}
use Rattle.serial_runs.proofs.Leading.{false-true, led-serial, led-commit, led-refused, fault_first}

abbrev next : List Event → Call → List Event
next h c = h ++ (Called c ∷ [])

-- other events that led to the same
stands_moved : (h k : List Event) (r : Runs) → led k ≡ led h → Stands h r → Stands k r
stands_moved h k r q st = record {
  ready = st.ready;
  engine = subst (λ (e : Engine). Is e r.store.now.tables.now) (sym q) st.engine;
  kept = st.kept ∙ ap txns (sym q);
  serial = subst OnlySerial (sym q) st.serial;
}

-- the same engine, and the same is kept
pub stands_same : (h : List Event) (r s : Runs) → s.store.now ≡ r.store.now → vec_items s.pasts ≡ vec_items r.pasts → Stands h r → Stands h s
stands_same h r s p q st = record {
  ready = ap ready_of p ∙ st.ready;
  engine = subst (λ (x : Store). Is (led h) x.tables.now) (sym p) st.engine;
  kept = ap (map past_of) q ∙ st.kept;
  serial = st.serial;
}

pub as_itself : (t : Txn) → t.level ≡ Serial → as_serial t ≡ t
as_itself t p = ap (λ (v : Level). record { level = v; begin = t.begin; reads = t.reads; writes = t.writes }) (sym p)

module _ (h : List Event) (r s : Runs) (a : Result Answer Refusal) (st : Stands h r) where
  -- a call that changes no commits
  pub call_done : (c : Call) → AnswersTo (Whole c) r.store.now s.store.now a → s.pasts ≡ r.pasts → txns (led (next h c)) ≡ txns (led h) → begins_other c ≡ false → CallDone c h s a
  call_done c w p q b = go (w.engine st.ready h st.engine)
    where
      kept : map past_of (vec_items s.pasts) ≡ txns (led h)
      kept = ap (λ v. map past_of (vec_items v)) p ∙ st.kept

      go : Answers c (led h) (led (next h c)) (reply_to c (led h)) s.store.now.tables.now a → CallDone c h s a
      go (inl d) = inl (record { ready = w.ready ∙ st.ready; engine = d.0; kept = kept ∙ sym q; serial = led-serial h c b st.serial }, d.1)
      go (inr d) = inr (d.0, record { ready = w.ready ∙ st.ready; engine = d.1; kept = kept; serial = st.serial }, d.2)

  module _ (i : ℕ) (l : Life) (here : slot_at i (led h) ≡ Some l) where
    -- a commit that went through, and is kept
    pub commit-kept : (p : Past) → past_of p ≡ l.txn → AnswersTo (Whole (Commit i)) r.store.now s.store.now a → commits (reply_of a) ≡ true →
        vec_items s.pasts ≡ vec_items r.pasts ++ (p ∷ []) → CallDone (Commit i) h s a
    commit-kept p same w b q = go (w.engine st.ready h st.engine)
      where
        go : Answers (Commit i) (led h) (led (next h (Commit i))) (reply_to (Commit i) (led h)) s.store.now.tables.now a → CallDone (Commit i) h s a
        go (inl d) = inl (
          record {
            ready = w.ready ∙ st.ready;
            engine = d.0;
            kept =
                ap (map past_of) q ∙ map_push past_of (vec_items r.pasts) p
                ∙ ap (λ ts. ts ++ (past_of p ∷ [])) st.kept ∙ ap (λ t. txns (led h) ++ (t ∷ [])) same
                ∙ sym (led-commit h i l here (ap commits (sym d.1) ∙ b));
            serial = led-serial h (Commit i) refl st.serial;
          },
          d.1,
        )
        go (inr d) = false-true (ap commits (sym d.2) ∙ b)

    -- a commit that was refused, and is not kept
    pub commit-not-kept : AnswersTo (Whole (Commit i)) r.store.now s.store.now a → commits (reply_of a) ≡ false →
        vec_items s.pasts ≡ vec_items r.pasts → CallDone (Commit i) h s a
    commit-not-kept w b q = go (w.engine st.ready h st.engine)
      where
        kept : map past_of (vec_items s.pasts) ≡ txns (led h)
        kept = ap (map past_of) q ∙ st.kept

        go : Answers (Commit i) (led h) (led (next h (Commit i))) (reply_to (Commit i) (led h)) s.store.now.tables.now a → CallDone (Commit i) h s a
        go (inl d) = inl (
          record {
            ready = w.ready ∙ st.ready;
            engine = d.0;
            kept = kept ∙ ap txns (sym (led-refused h i (ap commits (sym d.1) ∙ b)));
            serial = led-serial h (Commit i) refl st.serial;
          },
          d.1,
        )
        go (inr d) = inr (d.0, record { ready = w.ready ∙ st.ready; engine = d.1; kept = kept; serial = st.serial }, d.2)

    -- a commit for which there is no memory, by the answer z to a line with a fault
    module _ (z : Result Answer Refusal) (w : AnswersTo (Faulty (Commit i)) r.store.now s.store.now z) (q : s.pasts ≡ r.pasts) where
      stands_still : Stands h s
      stands_still = record {
        ready = w.ready ∙ st.ready;
        engine = subst (Is (led h)) (sym (w.engine st.ready).0) st.engine;
        kept = ap (λ v. map past_of (vec_items v)) q ∙ st.kept;
        serial = st.serial;
      }

      pub commit_lacks : reply_of a ≡ refused NoMemory → CallDone (Commit i) h s a
      commit_lacks e = inr (ap serial_in here ∙ ap is_serial (st.serial i l here), stands_still, e)

      pub commit-first : a ≡ z → bad_line (reply_of z) ≡ false → CallDone (Commit i) h s a
      commit-first e b =
          let told = (w.engine st.ready).1 h st.engine in
          let f = fault_first (refusal_of (Commit i) (led h)) (committed (count (led h))) (ap bad_line (sym told) ∙ b) in
          inl (stands_moved h (next h (Commit i)) s (led-refused h i f.1) stands_still, ap reply_of e ∙ told ∙ f.0)

serial_pasts : (ps : List Past) → AllSerial (map past_of ps)
serial_pasts [] n l = absurd (omega arith)
serial_pasts (p ∷ ps) zero l = refl
serial_pasts (p ∷ ps) (suc n) l = serial_pasts ps n (omega arith)

pub in_line : {Z : Type 0} (r : Runs) (x : Result (Vec ℕ Z) Refusal) → LineTold (map past_of (vec_items r.pasts)) x → InLine r x
in_line r (Ok v) p = λ h st.
    let q : vec_items v ≡ line (txns (led h)) = p ∙ ap line st.kept in
    (q, subst (SerialRun (led h)) (sym q) ((promises h).serial (subst AllSerial st.kept (serial_pasts (vec_items r.pasts)))))
in_line r (Err y) p = p
