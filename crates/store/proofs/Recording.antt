-- What goes to the journal.
use Rattle.std.proofs.Common.{◌≡◌, ℕ, ◌+◌, ◌-◌, ◌*◌, ◌≤◌, Bool, true, false, not, ltb, leb, List, [], ◌∷◌, ◌++◌, map, length, drop, Some, Ok, Err, Result, sym, refl, ap, ◌∙◌, subst, inl, arith}
use lib.ListN.{length-map}
use Rattle.std.proofs.lemmas.List.{append-nil, drop_all, drop_at, map_push, take_all}
use Rattle.std.proofs.lemmas.Bool.{and_from, or_right, lt-ltb, leb-true, leb-false, le-leb, both_ways}
use Rattle.std.specs.List.{AllByRecursion}
use Rattle.model.specs.declared.Answer.{Answer}
use Rattle.model.specs.declared.Call.{Call}
use Rattle.model.specs.declared.Refusal.{Refusal}
use Rattle.model.specs.declared.Call.TheVariants.{Begin, Read, Write, Commit, Abort, Sweep, Sync, Stop, Show}
use Rattle.model.specs.declared.Entry.{Entry}
use Rattle.model.specs.Transactions.{Txn, is_serial}
use Rattle.model.specs.Transactions.{outside}
use Rattle.journal.specs.declared.gather.Journal.{Journal}
use Rattle.journal.specs.declared.types.Unfit.{Unfit}
use Rattle.journal.specs.Held.{held_of, room_of, Appended}
use Rattle.journal.specs.Files.{file_from, file_of}
use Rattle.journal.specs.Records.{record_of, fits, FineCommit}
use Rattle.journal.proofs.Joins.{file_push}
use Rattle.history.specs.Engine.{Life, Engine, txn_of, txns, count, slot_at, performed, replied, on_begin, on_read, on_write}
use Rattle.history.specs.Pasts.{writes_of}
use Rattle.history.specs.Sound.{Sound}
use Rattle.history.proofs.Lists.{none_or_some}
use Rattle.store.specs.declared.state.Tables.{Tables}
use Rattle.store.specs.Calls.{Is, reply_of, writes_in, new_in, records_in, Recorded, lack_in, Performs, PerformsRecording, entered}

-- no commit more, no record more
pub nothing_new : (e f : Engine) (j : Journal) → txns f ≡ txns e → Recorded e f j j
unfolding file_from
nothing_new e f j same =
    let long : length (map writes_of (txns e)) ≡ count e = length-map (txns e) writes_of ∙ length-map e.done txn_of in
    let none : new_in e f ≡ [] = ap (λ (ts : List Txn). drop (count e) (map writes_of ts)) same ∙ drop_all (count e) (map writes_of (txns e)) (omega arith) in
    let bare : records_in e f ≡ [] = ap (file_from (count e)) none in
    let zero : room_of j - 0 ≡ room_of j = omega arith in
    record {
      bytes = sym (append-nil (held_of j)) ∙ ap (λ (bs : List ℕ). held_of j ++ bs) (sym bare);
      room = sym zero ∙ ap (λ (bs : List ℕ). room_of j - length bs) (sym bare);
      file = ap (λ (ts : List Txn). file_of (map writes_of ts)) same ∙ sym (append-nil (file_of (writes_in e))) ∙ ap (λ (bs : List ℕ). file_of (writes_in e) ++ bs) (sym bare);
      fine = subst (AllByRecursion FineCommit) (sym none) tt;
    }

-- one commit more, and its record
pub one-new : (e : Engine) (l : Life) (i j : Journal) (n : ℕ) (es : List Entry) → n ≡ count e → es ≡ l.txn.writes → {A : Type 0} (u : A) → Appended n es i j (Ok u) → FineCommit es →
    Recorded e (entered e l) i j
unfolding file_from
one-new e l i j n es p q u done fine =
    let long : length (map writes_of (txns e)) ≡ count e = length-map (txns e) writes_of ∙ length-map e.done txn_of in
    let all : writes_in (entered e l) ≡ writes_in e ++ (es ∷ []) =
    ap (map writes_of) (map_push txn_of e.done l) ∙ map_push writes_of (txns e) l.txn ∙ ap (λ (x : List Entry). writes_in e ++ (x ∷ [])) (sym q) in
    let one : new_in e (entered e l) ≡ es ∷ [] = ap (drop (count e)) all ∙ drop_at (writes_in e) (es ∷ []) (count e) long in
    let bare : records_in e (entered e l) ≡ record_of n es = ap (file_from (count e)) one ∙ append-nil (record_of (count e) es) ∙ ap (λ (k : ℕ). record_of k es) (sym p) in
    let at : 0 + length (writes_in e) ≡ n = omega (arith, long, p) in
    record {
      bytes = done.1 ∙ ap (λ (bs : List ℕ). held_of i ++ bs) (sym bare);
      room = done.2 ∙ ap (λ (bs : List ℕ). room_of i - length bs) (sym bare);
      file =
          ap file_of all ∙ file_push 0 (writes_in e) es ∙ ap (λ (k : ℕ). file_of (writes_in e) ++ record_of k es) at ∙ ap (λ (bs : List ℕ). file_of (writes_in e) ++ bs) (sym bare);
      fine = subst (AllByRecursion FineCommit) (sym one) (fine, tt);
    }

-- the records are the same where the commits are
pub recorded_as : (e f g : Engine) (i j : Journal) → txns g ≡ txns f → Recorded e f i j → Recorded e g i j
recorded_as e f g i j p r = record {
  bytes = r.bytes ∙ ap (λ (ts : List Txn). held_of i ++ file_from (count e) (drop (count e) (map writes_of ts))) (sym p);
  room = r.room ∙ ap (λ (ts : List Txn). room_of i - length (file_from (count e) (drop (count e) (map writes_of ts)))) (sym p);
  file = ap (λ (ts : List Txn). file_of (map writes_of ts)) p ∙ r.file ∙ ap (λ (ts : List Txn). file_of (writes_in e) ++ file_from (count e) (drop (count e) (map writes_of ts))) (sym p);
  fine = subst (λ (ts : List Txn). AllByRecursion FineCommit (drop (count e) (map writes_of ts))) (sym p) r.fine;
}

-- no commit, and the commits stay
abbrev pub NoCommit : Call → Type 0
NoCommit c = (i : ℕ) → c ≡ Commit i → ⊥

abbrev pub is_commit : Call → Bool
is_commit (Begin s l) = false
is_commit (Read s a b) = false
is_commit (Write s k v) = false
is_commit (Commit s) = true
is_commit (Abort s) = false
is_commit Sweep = false
is_commit Sync = false
is_commit Stop = false
is_commit Show = false

pub no_commit : (c : Call) → is_commit c ≡ false → NoCommit c
no_commit c p i q = both_ways (is_commit c) p (ap is_commit q)

pub performed-same : (c : Call) (e : Engine) → NoCommit c → txns (performed c e) ≡ txns e
performed-same (Begin s l) e n = none_or_some (λ o. txns (on_begin s o e) ≡ txns e) refl (λ _. refl) l
performed-same (Read s a b) e n = none_or_some (λ o. txns (on_read s a b e o) ≡ txns e) refl (λ _. refl) (slot_at s e)
performed-same (Write s k v) e n = none_or_some (λ o. txns (on_write s (record { key = k; value = v }) e o) ≡ txns e) refl (λ _. refl) (slot_at s e)
performed-same (Commit s) e n = absurd (n s refl)
performed-same (Abort s) e n = refl
performed-same Sweep e n = refl
performed-same Sync e n = refl
performed-same Stop e n = ap (map txn_of) (take_all (count e) e.done (omega arith))
performed-same Show e n = refl

-- a call that commits nothing
pub done-by : (c d : Call) (s t : Tables) (j : Journal) (a : Result Answer Refusal) → c ≡ d → NoCommit d → ((e : Engine) → Is e s → reply_of a ≡ replied d e) → Performs d s t → PerformsRecording c s j t j a
done-by c d s t j a p n says does =
    subst (λ (x : Call). PerformsRecording x s j t j a) (sym p) (λ e snd fit free. inl (does e snd fit free, says e fit, nothing_new e (performed d e) j (performed-same d e n)))

-- a journal with room for the largest record has room for the writes of any transaction
fits-any : (es : List Entry) (room : ℕ) → length es ≤ 64 → outside es ≡ false → leb 390 room ≡ true → fits es room ≡ true
unfolding fits
fits-any es room few keys h =
    let r : 390 ≤ room = leb-true 390 room h in
    and_from (leb (length es) 64) _ (le-leb (length es) 64 few)
    (and_from (leb (6 + 6 * length es) room) _ (le-leb (6 + 6 * length es) room (omega arith)) (ap not keys))

pub never_short : (e : Engine) → Sound e → (k : ℕ) (l : Life) → slot_at k e ≡ Some l → (es : List Entry) → es ≡ l.txn.writes → (i j : Journal) (n : ℕ) (A : Type 0) (why : Unfit) →
    Appended {A = A} n es i j (Err why) → leb 390 (room_of i) ≡ true → ⊥
never_short e snd k l here es q i j n A why done room =
    both_ways (fits es (room_of i)) done.0 (fits-any es (room_of i) (subst (λ (x : List Entry). length x ≤ 64) (sym q) (snd.under k l here).writes) (ap outside q ∙ (snd.under k l here).keys) room)

-- no room for the largest record
pub lack_room : (room : ℕ) (l : Life) → leb 390 room ≡ false → lack_in room (Some l) ≡ true
lack_room room l p = or_right (is_serial l.txn.level) (ltb room 390) (lt-ltb room 390 (leb-false 390 room p))
