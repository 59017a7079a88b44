-- The file of an engine, cut at or behind what was synced.
use Rattle.std.proofs.Common.{◌≡◌, ℕ, suc, ◌-◌, ◌≤◌, cond, leb, List, [], ◌∷◌, ◌++◌, map, length, take, Some, None, Option, sym, refl, ap, ◌∙◌, subst, arith, ltb-true, le-leb, leb-false}
use lib.ListN.{length-map}
use Rattle.std.proofs.lemmas.List.{take-map, length-take-le, length_push}
use Rattle.std.proofs.ByRecursion.{All-push, All-take, All-map}
use Rattle.std.proofs.lemmas.Bool.{cond_both, cond-true, or_parts}
use Rattle.std.specs.List.{AllByRecursion}
use Rattle.model.specs.declared.Call.{Call}
use Rattle.model.specs.declared.Call.TheVariants.{Begin, Read, Write, Commit, Abort, Sweep, Sync, Stop, Show}
use Rattle.model.specs.declared.Entry.{Entry}
use Rattle.model.specs.declared.Level.{Level}
use Rattle.model.specs.Transactions.{Txn, began}
use Rattle.journal.specs.Files as files
use Rattle.journal.specs.Files.{good, opened, file_of}
use Rattle.journal.specs.Records.{FineEntry, FineCommit}
use Rattle.journal.specs.Laws.{FineCommits}
use Rattle.journal.proofs.Cuts.{cut_anywhere}
use Rattle.history.specs.Engine.{Life, Engine, fresh, txn_of, txns, count, slot_at, with_slot, refusal_of, restarted, on_begin, on_read, on_write, on_commit, read_by, written_by, performed, record_size, bytes_in, whole_in, Event, Called, Stopped, step, run, led}
use Rattle.history.specs.Pasts.{writes_of}
use Rattle.history.proofs.Lists.{set_all, none-there, none_some}
use Rattle.history.proofs.Refusing.{goes_through, refused_or_not}
use Rattle.history.proofs.Sounding.{led-more, whole-done}
use Rattle.store.specs.declared.state.Tables.{Tables}
use Rattle.store.specs.declared.reader.Reader.{Reader}
use Rattle.store.specs.Calls.{Is}
use Rattle.store.specs.Restored.{Settled, Settles}
use Rattle.store.specs.Opening.{ReadSo, Small, SmallFine}
use Rattle.store.proofs.Judging.{commit-fits}
use Rattle.store.proofs.Steps.{write_goes, read_goes, commit-goes}

abbrev FineLife : Life → Type 0
FineLife l = FineCommit l.txn.writes

-- all that was committed or is under way can be in a file
record Writes (e : Engine) : Type 0 where
  done : AllByRecursion FineLife e.done
  under : (i : ℕ) (l : Life) → slot_at i e ≡ Some l → FineLife l
  few : count e ≤ 4294967295

put-fine : (i : ℕ) (o : Option Life) (e : Engine) → Writes e → ((l : Life) → o ≡ Some l → FineLife l) → Writes (with_slot i o e)
put-fine i o e w new = record { done = w.done; under = set_all FineLife e.slots i o w.under new; few = w.few }

busy_fine : (i : ℕ) (l : Life) (e : Engine) → Writes e → FineLife l → Writes (with_slot i (Some l) e)
busy_fine i l e w f = put-fine i (Some l) e w (λ k h. let q : l ≡ k = cc in subst FineLife q f)

begin-fine : (i : ℕ) (o : Option Level) (e : Engine) → Writes e → Writes (on_begin i o e)
begin-fine i None e w = w
begin-fine i (Some l) e w = busy_fine i (record { txn = began l (count e); given = [] }) e w (omega arith, tt)

restarted-fine : (k : ℕ) (e : Engine) → k ≤ count e → Writes e → Writes (restarted k e)
restarted-fine k e h w = record {
  done = All-take FineLife k e.done w.done;
  under = λ i l q. absurd (none_some (sym (none-there 16 i) ∙ q));
  few = let n : length (take k e.done) ≡ k = length-take-le k e.done h in omega (arith, n, h, w.few);
}

performed-fine : (c : Call) (e : Engine) → Small (Called c) → Writes e → refusal_of c e ≡ None → Writes (performed c e)
performed-fine (Begin s l) e v w free = begin-fine s l e w
performed-fine (Read s a b) e v w free =
    let g = read_goes e s a b free in
    subst (λ (o : Option Life). Writes (on_read s a b e o)) (sym g.1) (busy_fine s (read_by a b e g.0) e w (w.under s g.0 g.1))
performed-fine (Write s k x) e v w free =
    let g = write_goes e s k x free in
    let new : Entry = record { key = k; value = x } in
    let old = w.under s g.0 g.1 in
    let key = leb-false 4096 k (or_parts (leb 16 s) (leb 4096 k) (goes_through (Write s k x) e free).0).1 in
    let long = length_push g.0.txn.writes new in
    let room = ltb-true (length g.0.txn.writes) 64 g.2 in
    subst (λ (o : Option Life). Writes (on_write s new e o)) (sym g.1)
    (busy_fine s (written_by new g.0) e w (omega (arith, long, room), All-push FineEntry g.0.txn.writes new old.1 (omega (arith, key), v)))
performed-fine (Commit s) e v w free =
    let g = commit-goes e s free in
    let l = g.0 in
    let long = length_push e.done l in
    let room = leb-false 4294967295 (count e) (commit-fits e l g.2).1 in
    subst (λ (o : Option Life). Writes (on_commit s e o)) (sym g.1)
    (record {
      done = All-push FineLife e.done l w.done (w.under s l g.1);
      under = set_all FineLife e.slots s None w.under (λ k h. absurd (none_some h));
      few = omega (arith, long, room);
    })
performed-fine (Abort s) e v w free = put-fine s None e w (λ k h. absurd (none_some h))
performed-fine Sweep e v w free = record { done = w.done; under = w.under; few = w.few }
performed-fine Sync e v w free = record { done = w.done; under = w.under; few = w.few }
performed-fine Stop e v w free = restarted-fine (count e) e (omega arith) w
performed-fine Show e v w free = w

step-fine : (x : Event) (e : Engine) → Small x → Writes e → Writes (step x e)
step-fine (Called c) e v w = refused_or_not Writes (refusal_of c e) e (performed c e) w (performed-fine c e v w)
step-fine (Stopped p) e v w =
    cond_both (leb (bytes_in (take e.synced (txns e))) p) (restarted (whole_in p (txns e)) e) e Writes (λ _. restarted-fine (whole_in p (txns e)) e (whole-done p e) w) (λ _. w)

run-fine : (h : List Event) (e : Engine) → AllByRecursion Small h → Writes e → Writes (run e h)
unfolding run
run-fine [] e v w = w
run-fine (x ∷ h) e v w = run-fine h (step x e) v.1 (step-fine x e v.0 w)

fresh-fine : Writes fresh
fresh-fine = record { done = tt; under = λ i l q. absurd (none_some (sym (none-there 16 i) ∙ q)); few = omega arith }

-- the commits that events led to can be in a file
pub led-fine : SmallFine
led-fine h v =
    let w = run-fine h fresh v fresh-fine in
    let e = led h in
    let n : length (map writes_of (txns e)) ≡ count e = length-map (txns e) writes_of ∙ length-map e.done txn_of in
    (omega (arith, n, w.few), All-map FineCommit writes_of (txns e) (All-map (λ (t : Txn). FineCommit t.writes) txn_of e.done w.done))

-- the same count of whole records, by the commits and by their writes
whole_same : (p : ℕ) (ts : List Txn) → files.whole_in p (map writes_of ts) ≡ whole_in p ts
unfolding files.whole_in whole_in
whole_same p [] = refl
whole_same p (t ∷ ts) = ap (λ (n : ℕ). cond (leb (record_size t) p) (suc n) 0) (whole_same (p - record_size t) ts)

-- the engine after the stop was opened with the commits that the cut left
stopped_opened : (h : List Event) (p : ℕ) → bytes_in (take (led h).synced (txns (led h))) ≤ p →
    Settled (take (files.whole_in p (map writes_of (txns (led h)))) (map writes_of (txns (led h)))) (led (h ++ (Stopped p ∷ [])))
stopped_opened h p kept =
    let e = led h in
    let k = whole_in p (txns e) in
    let n : length (take k e.done) ≡ k = length-take-le k e.done (whole-done p e) in
    let left : map writes_of (map txn_of (take k e.done)) ≡ take (files.whole_in p (map writes_of (txns e))) (map writes_of (txns e)) =
    ap (map writes_of) (sym (take-map txn_of k e.done)) ∙ sym (take-map writes_of k (txns e)) ∙ ap (λ (m : ℕ). take m (map writes_of (txns e))) (sym (whole_same p (txns e))) in
    let goes : led (h ++ (Stopped p ∷ [])) ≡ restarted k e =
    led-more h (Stopped p) ∙ cond-true (leb (bytes_in (take e.synced (txns e))) p) (restarted k e) e (le-leb _ p kept) in
    subst (Settled (take (files.whole_in p (map writes_of (txns e))) (map writes_of (txns e)))) (sym goes) (left, sym n, refl)

module _ (h : List Event) (p : ℕ) (fine : FineCommits (map writes_of (txns (led h)))) (r : Reader) (s : Tables) where
  abbrev File : List ℕ
  File = take p (file_of (map writes_of (txns (led h))))

  abbrev Kept : List (List Entry)
  Kept = take (files.whole_in p (map writes_of (txns (led h)))) (map writes_of (txns (led h)))

  cut-read : ReadSo (opened File) File r s → ReadSo (good Kept (length (file_of Kept))) File r s
  cut-read so = subst (λ o. ReadSo o File r s) (cut_anywhere (map writes_of (txns (led h))) p fine) so

  pub cut-good : ReadSo (opened File) File r s → r.flaw ≡ None
  cut-good so = (cut-read so).3

  pub cut_is : (t : Tables) → bytes_in (take (led h).synced (txns (led h))) ≤ p → ReadSo (opened File) File r s → Settles s t → Is (led (h ++ (Stopped p ∷ []))) t
  cut_is t kept so done = done Kept (cut-read so).0 (led (h ++ (Stopped p ∷ []))) (stopped_opened h p kept)
