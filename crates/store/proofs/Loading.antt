-- A file read in pieces, and the engine that comes of it.
use Rattle.std.proofs.Common.{◌≡◌, ℕ, zero, suc, ◌+◌, ◌*◌, ◌^◌, ◌<◌, ◌≤◌, true, false, ltb, List, [], ◌++◌, length, drop, is_some, is_err, Some, None, Ok, Err, vec_items, Result, sym, refl, ap, ◌∙◌, subst, zero-add, arith}
use borrow.Author.Tests.{both_ways}
use Rattle.std.proofs.lemmas.List.{length-drop, drop-drop, drop-append-le}
use Rattle.std.proofs.lemmas.Bool.{cond_both, ltb-true}
use Rattle.model.specs.declared.Entry.{Entry}
use Rattle.journal.specs.declared.types.Fault.TheVariants.{WrongNumber}
use Rattle.journal.specs.declared.types.Survey.{Survey}
use Rattle.journal.specs.Parsing.{Reading, whole, short, faulty, parsed}
use Rattle.journal.specs.Files.{Opened, good, bad, after, onward, turned, replayed, opened, behind, on_good, surveyed}
use Rattle.journal.proofs.Reading.{whole-within}
use Rattle.journal.proofs.Pieces.{in_pieces}
use Rattle.journal.specs.declared.types.Flaw.{Flaw}
use Rattle.store.specs.declared.opening.OpenError.TheVariants.{Bad}
use Rattle.store.specs.declared.reader.Reader.{Reader}
use Rattle.store.specs.declared.stage.Stage.TheVariants.{Unreadable}
use Rattle.store.specs.declared.state.Tables.{Tables}
use Rattle.store.specs.declared.store.Store.{Store}
use Rattle.history.specs.Engine.{fresh}
use Rattle.history.proofs.Lists.{none_some}
use Rattle.store.specs.Answers.{ready_of}
use Rattle.store.specs.Calls.{Is}
use Rattle.store.specs.Reader.{Blank, place, Surveyed}
use Rattle.store.specs.Restored.{Restored, RestoredBy, Replays, Filled, Settles}
use Rattle.store.specs.Opening.{ReadSo, ReadOn, OpensBy}

-- where a reading of records ends
abbrev reach : Opened → ℕ
reach (good ws used) = used
reach (bad at why) = at

-- it is within the bytes, and no commit has more than 390
abbrev Reached : ℕ → List ℕ → Opened → Type 0
Reached n bs o = (reach o ≤ length bs) × (n < 2 ^ 32 → reach o + 390 * n ≤ 390 * 2 ^ 32)

reached-after : (n : ℕ) (bs : List ℕ) (es : List Entry) (k : ℕ) → k ≤ length bs → k ≤ 390 → suc n < 2 ^ 32 → (o : Opened) → Reached (suc n) (drop k bs) o → Reached n bs (after es k o)
reached-after n bs es k room few small (good ws used) r = (omega (arith, r.0, room, length-drop k bs), λ _. omega (arith, r.1 small, few))
reached-after n bs es k room few small (bad at why) r = (omega (arith, r.0, room, length-drop k bs), λ _. omega (arith, r.1 small, few))

reached-step : (n : ℕ) (bs : List ℕ) (p : Reading) → parsed n bs ≡ p → (go : ℕ → Opened) → ((k : ℕ) → Reached (suc n) (drop k bs) (go k)) → Reached n bs (onward n p go)
reached-step n bs (whole es k) e go h =
    let w = whole-within n bs es k e in
    cond_both (ltb (suc n) (2 ^ 32)) (after es k (go k)) (bad 0 WrongNumber) (Reached n bs)
    (λ small. reached-after n bs es k w.room (omega (arith, w.size, w.few)) (ltb-true (suc n) (2 ^ 32) small) (go k) (h k))
    (λ _. (omega arith, λ s. omega (arith, s)))
reached-step n bs short e go h = (omega arith, λ s. omega (arith, s))
reached-step n bs (faulty why) e go h = (omega arith, λ s. omega (arith, s))

reached : (t n : ℕ) (bs : List ℕ) → Reached n bs (turned t n bs)
unfolding turned
reached zero n bs = (omega arith, λ s. omega (arith, s))
reached (suc t) n bs = reached-step n bs (parsed n bs) refl (λ k. turned t (suc n) (drop k bs)) (λ k. reached t (suc n) (drop k bs))

ends-within : (bs : List ℕ) (o : Opened) → opened bs ≡ o → (reach o ≤ length bs) × (reach o ≤ 390 * 2 ^ 32)
ends-within bs o e =
    let r = subst (Reached 0 bs) e (reached (length bs) 0 bs) in
    (r.0, let h = r.1 (omega arith) in omega (arith, h))

-- a place in a file never reaches the end of its type
placed : (a b n : ℕ) → a ≡ b → b + n ≤ 390 * 2 ^ 32 → place a n ≡ b + n
placed a b n p h = omega (arith, p, h)

pub reads_none : (r : Reader) (s : Tables) → Blank r → Restored [] s → ReadSo (opened []) [] r s
unfolding turned
reads_none r s blank so = (so, blank.0, blank.1, blank.2)

-- the same where only memory was asked for
pub reads_same : (o : Opened) (bs : List ℕ) (r q : Reader) (s : Tables) → vec_items q.left ≡ vec_items r.left → q.at ≡ r.at → q.flaw ≡ r.flaw → ReadSo o bs r s → ReadSo o bs q s
reads_same (good ws used) bs r q s left at flaw so = (so.0, left ∙ so.1, at ∙ so.2, flaw ∙ so.3)
reads_same (bad at₁ why) bs r q s left at flaw so = flaw ∙ so

-- memory was wanted
pub reads_failed : {X Y : Type 0} (piece : List ℕ) (r q : Reader) (s t : Store) (a : Result X Y) → is_err a ≡ true → t.stage ≡ s.stage → t.tables.now ≡ s.tables.now →
    (vec_items q.left ≡ vec_items r.left) × (q.at ≡ r.at) × (q.flaw ≡ r.flaw) → ReadOn piece r q s t a
reads_failed piece r q s t (Ok x) e stage tables same = absurd (both_ways false refl e)
reads_failed piece r q s t (Err y) e stage tables same = λ bs reads.
    (stage ∙ reads.0, subst (ReadSo (opened bs) bs q) (sym tables) (reads_same (opened bs) bs r q s.tables.now same.0 same.1 same.2 reads.1))

flawed : (r : Reader) (f : Flaw) → r.flaw ≡ Some f → is_some r.flaw ≡ false → ⊥
flawed r f p q = both_ways (is_some r.flaw) q (ap is_some p)

module _ (bs piece : List ℕ) where
  -- behind a flaw nothing is read
  pub reads_flaw : (r : Reader) (s t : Tables) (o : Opened) → opened bs ≡ o → ReadSo o bs r s → is_some r.flaw ≡ true → ReadSo (opened (bs ++ piece)) (bs ++ piece) r t
  reads_flaw r s t (good ws used) e so some = absurd (both_ways (is_some r.flaw) (ap is_some so.3) some)
  reads_flaw r s t (bad at why) e so some =
      subst (λ (x : Opened). ReadSo x (bs ++ piece) r t)
      (sym (in_pieces 0 bs piece ∙ ap (λ (x : Opened). on_good x (λ ws used. behind ws used (replayed (0 + length ws) (drop used bs ++ piece)))) e)) so

  module _ (q p : Reader) (t : Tables) (found : Result Survey Flaw) (ws : List (List Entry)) (used : ℕ) where
    -- what was left and the piece, by what is found in them
    reads-rest : used ≤ length bs → vec_items q.left ≡ drop used bs ++ piece → q.at ≡ used → q.flaw ≡ None → Surveyed found q p →
        (x : Opened) → found ≡ surveyed (length ws) x → RestoredBy ws x t → reach (behind ws used x) ≤ 390 * 2 ^ 32 → ReadSo (behind ws used x) (bs ++ piece) p t
    unfolding behind
    reads-rest inside left at flaw did (good more k) e so end =
        let past = subst (λ (y : Result Survey Flaw). Surveyed y q p) e did in (
          so,
          past.0 ∙ ap (drop k) (left ∙ sym (drop-append-le used bs piece inside)) ∙ drop-drop k used (bs ++ piece),
          past.1 ∙ placed q.at used k at end,
          past.2 ∙ flaw,
        )
    reads-rest inside left at flaw did (bad place why) e so end =
        subst (λ (y : Result Survey Flaw). Surveyed y q p) e did ∙ ap (λ (n : ℕ). Some (record { at = n; why = why })) (placed q.at used place at end)

  -- the piece behind the bytes so far
  pub reads_more : (r q p : Reader) (s t : Tables) (found : Result Survey Flaw) (o : Opened) → opened bs ≡ o → ReadSo o bs r s → is_some r.flaw ≡ false →
      vec_items q.left ≡ vec_items r.left ++ piece → q.at ≡ r.at → q.flaw ≡ r.flaw → Replays (vec_items q.left) s t found → Surveyed found q p → ReadSo (opened (bs ++ piece)) (bs ++ piece) p t
  reads_more r q p s t found (bad at₁ why) e so none left at flaw done did = absurd (flawed r _ so none)
  reads_more r q p s t found (good ws used) e so none left at flaw done did =
      let now : vec_items q.left ≡ drop used bs ++ piece = left ∙ ap (λ (l : List ℕ). l ++ piece) so.1 in
      let rest = replayed (length ws) (vec_items q.left) in
      let said = done ws so.0 in
      let whole : opened (bs ++ piece) ≡ behind ws used rest =
      in_pieces 0 bs piece ∙ ap (λ (x : Opened). on_good x (λ us n. behind us n (replayed (0 + length us) (drop n bs ++ piece)))) e
      ∙ ap (λ (n : ℕ). behind ws used (replayed n (drop used bs ++ piece))) (zero-add (length ws)) ∙ ap (λ (l : List ℕ). behind ws used (replayed (length ws) l)) (sym now) in
      subst (λ (x : Opened). ReadSo x (bs ++ piece) p t) (sym whole)
      (reads-rest q p t found ws used (ends-within bs (good ws used) e).0 now (at ∙ so.2) (flaw ∙ so.3) did rest said.0 said.1 (ends-within (bs ++ piece) (behind ws used rest) whole).1)

-- tables that go on being filled
filled_by : (ws : List (List Entry)) (t : Tables) (x : Opened) → RestoredBy ws x t → Filled t
filled_by ws t (good more used) so = (ws ++ more, so)
filled_by ws t (bad at why) so = (ws ++ so.0, so.1)

pub still_filled : (bs : List ℕ) (s t : Tables) (found : Result Survey Flaw) → Replays bs s t found → Filled s → Filled t
still_filled bs s t found done (ws, so) = filled_by ws t (replayed (length ws) bs) (done ws so).1

-- the file ends: it has no flaw, or it has one
pub opens_whole : (o : Opened) (bs : List ℕ) (r : Reader) (s : Tables) (t : Store) (n : ℕ) → ReadSo o bs r s → r.flaw ≡ None → n ≡ r.at → ready_of t ≡ true → Settles s t.tables.now → OpensBy o t (Ok n)
opens_whole (good ws used) bs r s t n so none at on done = (ap Ok (at ∙ so.2), on, done ws so.0)
opens_whole (bad at₁ why) bs r s t n so none at on done = absurd (none_some (sym none ∙ so))

pub opens_bad : (o : Opened) (bs : List ℕ) (r : Reader) (s : Tables) (t : Store) (f : Flaw) → ReadSo o bs r s → r.flaw ≡ Some f → t.stage ≡ Unreadable → Is fresh t.tables.now → OpensBy o t (Err (Bad f))
opens_bad (good ws used) bs r s t f so some off none = absurd (none_some (sym so.3 ∙ some))
opens_bad (bad at why) bs r s t f so some off none =
    let e : Some f ≡ Some (record { at = at; why = why }) = sym some ∙ so in
    let same : f ≡ record { at = at; why = why } = cc in
    (ap (λ (x : Flaw). Err (Bad x)) same, off, none)
