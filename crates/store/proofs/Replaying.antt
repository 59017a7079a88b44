-- Going through the records of a file behind the commits so far.
use Rattle.std.proofs.Common.{◌≡◌, ℕ, ◌+◌, ◌^◌, ◌<◌, ◌≤◌, List, [], ◌∷◌, ◌++◌, length, take, drop, Ok, Err, Result, sym, refl, ap, ◌∙◌, subst, arith}
use Rattle.std.proofs.lemmas.List.{append-nil, append_assoc, length-append, length_push, length-drop, take-append-le, take_all}
use Rattle.model.specs.declared.Entry.{Entry}
use Rattle.journal.specs.declared.types.Fault.{Fault}
use Rattle.journal.specs.declared.types.Survey.{Survey}
use Rattle.journal.specs.declared.types.Flaw.{Flaw}
use Rattle.journal.specs.Records.{FineCommit}
use Rattle.journal.specs.Parsing.{Reading, whole, short, parsed, laid, RecordIn}
use Rattle.journal.specs.Files.{Opened, bad, replayed, surveyed}
use Rattle.journal.proofs.Reading.{whole-within}
use Rattle.journal.proofs.Replaying.{Sofar, start, at_end, at-bad, one_more}
use Rattle.store.specs.declared.state.Tables.{Tables}
use Rattle.store.specs.Restored.{Restored, Restores, RestoredBy}

-- Behind the commits ws the records in the first `at` bytes are in the tables.
pub record Going (ws : List (List Entry)) (bs : List ℕ) (at : ℕ) (s : Tables) : Type 0 where
  pub next : ℕ
  pub so : Sofar (length ws) bs at next
  pub number : s.commits ≡ next
  pub there : Restored (ws ++ so.past) s

pub going_start : (ws : List (List Entry)) (bs : List ℕ) (s : Tables) → Restored ws s → Going ws bs 0 s
unfolding start
going_start ws bs s fill = record {
  next = length ws;
  so = start (length ws) bs;
  number = fill.number;
  there = subst (λ (us : List (List Entry)). Restored us s) (sym (append-nil ws)) fill;
}

module _ (ws : List (List Entry)) (bs : List ℕ) (at : ℕ) (s : Tables) (go : Going ws bs at s) where
  -- one record more
  pub going_on : (t : Tables) (es : List Entry) (k : ℕ) → parsed s.commits (drop at bs) ≡ whole es k → FineCommit es → s.commits + 1 < 2 ^ 32 → Restores es s t → Going ws bs (at + k) t
  unfolding one_more
  going_on t es k e fine small done =
      let long : length (ws ++ go.so.past) ≡ length ws + length go.so.past = length-append ws go.so.past in
      let reads : parsed go.next (drop at bs) ≡ whole es k = subst (λ (n : ℕ). parsed n (drop at bs) ≡ whole es k) go.number e in
      let new : Restored ((ws ++ go.so.past) ++ es ∷ []) t = done (ws ++ go.so.past) go.there fine (omega (arith, small, go.there.number)) in
      let longer : length ((ws ++ go.so.past) ++ es ∷ []) ≡ length (ws ++ go.so.past) + 1 = length_push (ws ++ go.so.past) es in
      record {
        next = go.next + 1;
        so = one_more (length ws) bs at go.next go.so es k (omega (arith, small, go.number)) reads;
        number = omega (arith, new.number, longer, go.there.number, go.number);
        there = subst (λ (us : List (List Entry)). Restored us t) (append_assoc ws go.so.past (es ∷ [])) new;
      }

  abbrev By : Result Survey Flaw → Opened → Type 0
  By r o = (r ≡ surveyed (length ws) o) × RestoredBy ws o s

  pub going_end : parsed s.commits (drop at bs) ≡ short → (Ok (record { bytes = at; next = s.commits }) ≡ surveyed (length ws) (replayed (length ws) bs)) × RestoredBy ws (replayed (length ws) bs) s
  going_end e =
      let reads : parsed go.next (drop at bs) ≡ short = subst (λ (n : ℕ). parsed n (drop at bs) ≡ short) go.number e in
      subst (By (Ok (record { bytes = at; next = s.commits }))) (sym (at_end (length ws) bs at go.next go.so reads)) (ap (λ (n : ℕ). Ok (record { bytes = at; next = n })) (go.number ∙ go.so.number), go.there)

  pub going-bad : (why : Fault) → replayed s.commits (drop at bs) ≡ bad 0 why → (Err (record { at = at; why = why }) ≡ surveyed (length ws) (replayed (length ws) bs)) × RestoredBy ws (replayed (length ws) bs) s
  going-bad why e =
      let reads : replayed go.next (drop at bs) ≡ bad 0 why = subst (λ (n : ℕ). replayed n (drop at bs) ≡ bad 0 why) go.number e in
      subst (By (Err (record { at = at; why = why }))) (sym (at-bad (length ws) bs at go.next go.so why reads)) (refl, (go.so.past, go.there))

-- a whole record has bytes, and ends within those there are
pub record-fits : (n : ℕ) (bs : List ℕ) (at : ℕ) (es : List Entry) (k : ℕ) → at ≤ length bs → parsed n (drop at bs) ≡ whole es k → (0 < k) × (at + k ≤ length bs) × (length es ≤ 64)
record-fits n bs at es k here e =
    let w = whole-within n (drop at bs) es k e in
    (omega (arith, w.size), omega (arith, w.room, w.size, length-drop at bs, here), w.few)

pub laid-front : (p : Reading) (xs ys es : List Entry) (k n : ℕ) → ys ≡ laid p xs → p ≡ whole es k → length es ≡ n → take n ys ≡ es
laid-front p xs ys es k n l e q =
    ap (take n) (l ∙ ap (λ (r : Reading). laid r xs) e) ∙ take-append-le n es (drop (length es) xs) (omega (arith, q)) ∙ take_all n es (omega (arith, q))

pub record-fine : (n : ℕ) (bs : List ℕ) (p : Reading) (es : List Entry) (k : ℕ) → RecordIn n bs p → p ≡ whole es k → FineCommit es
record-fine n bs p es k r e = (subst (RecordIn n bs) e r).1
