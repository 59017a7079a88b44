-- Going through a file record by record.
use Rattle.std.proofs.Common.{◌≡◌, ℕ, zero, suc, ◌+◌, ◌^◌, ◌<◌, ◌≤◌, cond, ltb, List, [], ◌∷◌, ◌++◌, length, drop, sym, refl, ap, ◌∙◌, add-zero, add_assoc, zero-add, arith}
use Rattle.std.proofs.lemmas.List.{append-nil, append_assoc, length-append, length-drop, drop-drop, nil_from_length}
use Rattle.std.proofs.lemmas.Bool.{lt-ltb, le-ltb, cond-true, cond-false}
use Rattle.model.specs.declared.Entry.{Entry}
use Rattle.journal.specs.declared.types.Fault.{Fault}
use Rattle.journal.specs.declared.types.Fault.TheVariants.{WrongNumber}
use Rattle.journal.specs.Parsing.{Reading, whole, short, faulty, parsed}
use Rattle.journal.specs.Files.{Opened, good, bad, after, onward, turned, replayed, behind}
use Rattle.journal.proofs.Reading.{whole-within, nothing_short}

-- a number that is not the last has a next one
pub below : (n : ℕ) → n < 2 ^ 32 → (n ≡ 4294967295 → ⊥) → n + 1 < 2 ^ 32
below n h ne = grind (arith, h, ne)

onward-same : (n : ℕ) (p : Reading) (f g : ℕ → Opened) → ((es : List Entry) (k : ℕ) → p ≡ whole es k → f k ≡ g k) → onward n p f ≡ onward n p g
onward-same n (whole es k) f g h = ap (λ r. cond (ltb (suc n) (2 ^ 32)) (after es k r) (bad 0 WrongNumber)) (h es k refl)
onward-same n short f g h = refl
onward-same n (faulty why) f g h = refl

turned-short : (t n : ℕ) (bs : List ℕ) → parsed n bs ≡ short → turned t n bs ≡ good [] 0
unfolding turned
turned-short zero n bs e = refl
turned-short (suc t) n bs e = ap (λ r. onward n r (λ k. turned t (suc n) (drop k bs))) e

none-short : (n : ℕ) (bs : List ℕ) → length bs ≤ 0 → parsed n bs ≡ short
none-short n bs h = ap (parsed n) (nil_from_length bs (omega arith)) ∙ nothing_short n

turns_same : (t u n : ℕ) (bs : List ℕ) → length bs ≤ t → length bs ≤ u → turned t n bs ≡ turned u n bs
unfolding turned
turns_same zero u n bs h k = sym (turned-short u n bs (none-short n bs h))
turns_same (suc t) zero n bs h k = turned-short (suc t) n bs (none-short n bs k)
turns_same (suc t) (suc u) n bs h k =
    onward-same n (parsed n bs) (λ j. turned t (suc n) (drop j bs)) (λ j. turned u (suc n) (drop j bs)) (λ es j e.
    let w = whole-within n bs es j e in
    turns_same t u (suc n) (drop j bs) (omega (arith, length-drop j bs, w.size, w.room)) (omega (arith, length-drop j bs, w.size, w.room)))

-- one record, and then the others
pub replayed-step : (n : ℕ) (bs : List ℕ) → replayed n bs ≡ onward n (parsed n bs) (λ k. replayed (suc n) (drop k bs))
unfolding turned
replayed-step n [] = sym (ap (λ r. onward n r (λ k. replayed (suc n) (drop k []))) (nothing_short n))
replayed-step n (b ∷ bs) =
    onward-same n (parsed n (b ∷ bs)) (λ k. turned (length bs) (suc n) (drop k (b ∷ bs))) (λ k. replayed (suc n) (drop k (b ∷ bs))) (λ es k e.
    let w = whole-within n (b ∷ bs) es k e in
    turns_same (length bs) (length (drop k (b ∷ bs))) (suc n) (drop k (b ∷ bs)) (omega (arith, length-drop k (b ∷ bs), w.size, w.room)) (omega arith))

module _ (n : ℕ) (bs : List ℕ) where
  step_as : (r : Reading) → parsed n bs ≡ r → replayed n bs ≡ onward n r (λ k. replayed (suc n) (drop k bs))
  step_as r e = replayed-step n bs ∙ ap (λ r. onward n r (λ k. replayed (suc n) (drop k bs))) e

  pub replayed-whole : (es : List Entry) (k : ℕ) → suc n < 2 ^ 32 → parsed n bs ≡ whole es k → replayed n bs ≡ after es k (replayed (suc n) (drop k bs))
  replayed-whole es k small e = step_as (whole es k) e ∙ cond-true _ _ _ (lt-ltb (suc n) (2 ^ 32) small)

  pub replayed-last : (es : List Entry) (k : ℕ) → 2 ^ 32 ≤ suc n → parsed n bs ≡ whole es k → replayed n bs ≡ bad 0 WrongNumber
  replayed-last es k full e = step_as (whole es k) e ∙ cond-false _ _ _ (le-ltb (suc n) (2 ^ 32) full)

  pub replayed-short : parsed n bs ≡ short → replayed n bs ≡ good [] 0
  replayed-short e = step_as short e

  pub replayed-faulty : (why : Fault) → parsed n bs ≡ faulty why → replayed n bs ≡ bad 0 why
  replayed-faulty why e = step_as (faulty why) e

pub behind-none : (r : Opened) → r ≡ behind [] 0 r
unfolding behind
behind-none (good more k) = ap (good more) (sym (zero-add k))
behind-none (bad at why) = ap (λ m. bad m why) (sym (zero-add at))

pub behind-after : (ws : List (List Entry)) (m : ℕ) (es : List Entry) (k : ℕ) (r : Opened) → behind ws m (after es k r) ≡ behind (ws ++ es ∷ []) (m + k) r
unfolding behind
behind-after ws m es k (good more j) =
    ap (λ n. good (ws ++ es ∷ more) n) (sym (add_assoc m k j)) ∙ ap (λ l. good l (m + k + j)) (sym (append_assoc ws (es ∷ []) more))
behind-after ws m es k (bad at why) = ap (λ n. bad n why) (sym (add_assoc m k at))

-- From number n on the records in the first `at` bytes were read, and `past` are their writes.
pub record Sofar (n : ℕ) (bs : List ℕ) (at next : ℕ) : Type 0 where
  pub past : List (List Entry)
  pub same : replayed n bs ≡ behind past at (replayed next (drop at bs))
  pub number : next ≡ n + length past
  pub place : at ≤ length bs

unfoldable pub start : (n : ℕ) (bs : List ℕ) → Sofar n bs 0 n
start n bs = record { past = []; same = behind-none _; number = omega arith; place = omega arith }

module _ (n : ℕ) (bs : List ℕ) (at next : ℕ) (so : Sofar n bs at next) where
  -- nothing more
  pub at_end : parsed next (drop at bs) ≡ short → replayed n bs ≡ good so.past at
  unfolding behind
  at_end e =
      so.same ∙ ap (behind so.past at) (replayed-short next (drop at bs) e) ∙ ap (λ l. good l (at + 0)) (append-nil so.past)
      ∙ ap (good so.past) (add-zero at)

  pub at-bad : (why : Fault) → replayed next (drop at bs) ≡ bad 0 why → replayed n bs ≡ bad at why
  unfolding behind
  at-bad why e = so.same ∙ ap (behind so.past at) e ∙ ap (λ m. bad m why) (add-zero at)

  -- one record more
  unfoldable pub one_more : (es : List Entry) (k : ℕ) → suc next < 2 ^ 32 → parsed next (drop at bs) ≡ whole es k → Sofar n bs (at + k) (next + 1)
  one_more es k small e =
      let w = whole-within next (drop at bs) es k e in
      let up : suc next ≡ next + 1 = omega arith in
      record {
        past = so.past ++ es ∷ [];
        same =
            so.same
            ∙ ap (behind so.past at) (replayed-whole next (drop at bs) es k small e)
            ∙ behind-after so.past at es k _
            ∙ ap (λ l. behind (so.past ++ es ∷ []) (at + k) (replayed (suc next) l)) (drop-drop k at bs)
            ∙ ap (λ m. behind (so.past ++ es ∷ []) (at + k) (replayed m (drop (at + k) bs))) up;
        number = omega (arith, so.number, length-append so.past (es ∷ []));
        place = omega (arith, so.place, w.room, length-drop at bs);
      }
