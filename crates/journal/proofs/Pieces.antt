-- Bytes are read in pieces as they are at once.
use Rattle.std.proofs.Common.{◌≡◌, ℕ, zero, suc, ◌+◌, ◌*◌, ◌^◌, ◌≤◌, Bool, true, false, cond, eqb, ltb, List, [], ◌∷◌, ◌++◌, length, get_or, drop, sym, refl, ap, ◌∙◌, add-zero, add_assoc, arith}
use Rattle.std.proofs.lemmas.List.{length-append, length-drop, drop-drop, drop-append-le, get_or_append_left}
use Rattle.std.proofs.lemmas.Bool.{cond_both, ltb-false, eqb-false}
use Rattle.std.proofs.lemmas.Bool.Decides.{nat_tests}
use Rattle.model.specs.declared.Entry.{Entry}
use Rattle.journal.specs.declared.types.Fault.TheVariants.{UnknownKind, WrongNumber}
use Rattle.journal.specs.Parsing.{of2, of4, entry_of, entries_of, counted, entries_in, Reading, whole, short, faulty, checked, parsed}
use Rattle.journal.specs.Files.{Opened, good, bad, after, onward, turned, replayed, behind, on_good}
use Rattle.journal.specs.Laws.{InPieces}
use Rattle.journal.proofs.Reading.{whole-within}
use Rattle.journal.proofs.Replaying.{replayed-step, replayed-faulty, behind-none}

of4-more : (bs more : List ℕ) → 4 ≤ length bs → of4 (bs ++ more) ≡ of4 bs
unfolding of4
of4-more bs more h =
    let a = get_or_append_left bs more 0 0 (omega arith) in
    let b = get_or_append_left bs more 0 1 (omega arith) in
    let c = get_or_append_left bs more 0 2 (omega arith) in
    let d = get_or_append_left bs more 0 3 (omega arith) in
    cc (a, b, c, d)

of2-more : (bs more : List ℕ) → 2 ≤ length bs → of2 (bs ++ more) ≡ of2 bs
unfolding of2
of2-more bs more h =
    let a = get_or_append_left bs more 0 0 (omega arith) in
    let b = get_or_append_left bs more 0 1 (omega arith) in
    cc (a, b)

entry_more : (bs more : List ℕ) → 6 ≤ length bs → entry_of (bs ++ more) ≡ entry_of bs
unfolding entry_of
entry_more bs more h =
    let k = of2-more bs more (omega arith) in
    let v : of4 (drop 2 (bs ++ more)) ≡ of4 (drop 2 bs) = ap of4 (drop-append-le 2 bs more (omega arith)) ∙ of4-more (drop 2 bs) more (omega (arith, length-drop 2 bs)) in
    cc (k, v)

entries-more : (n : ℕ) (bs more : List ℕ) → 6 * n ≤ length bs → entries_of n (bs ++ more) ≡ entries_of n bs
unfolding entries_of
entries-more zero bs more h = refl
entries-more (suc n) bs more h =
    ap (λ e. e ∷ entries_of n (drop 6 (bs ++ more))) (entry_more bs more (omega arith))
    ∙ ap (λ l. entry_of bs ∷ entries_of n l) (drop-append-le 6 bs more (omega arith))
    ∙ ap (λ l. entry_of bs ∷ l) (entries-more n (drop 6 bs) more (omega (arith, length-drop 6 bs)))

checked-more : (n : ℕ) (bs more : List ℕ) → 6 + 6 * counted bs ≤ length bs → checked n (bs ++ more) ≡ checked n bs
unfolding checked
checked-more n bs more h =
    let count : counted (bs ++ more) ≡ counted bs = get_or_append_left bs more 0 5 (omega arith) in
    let number : of4 (drop 1 (bs ++ more)) ≡ of4 (drop 1 bs) = ap of4 (drop-append-le 1 bs more (omega arith)) ∙ of4-more (drop 1 bs) more (omega (arith, length-drop 1 bs)) in
    let entries : entries_in (bs ++ more) ≡ entries_in bs =
    ap (λ k. entries_of k (drop 6 (bs ++ more))) count
    ∙ ap (entries_of (counted bs)) (drop-append-le 6 bs more (omega arith))
    ∙ entries-more (counted bs) (drop 6 bs) more (omega (arith, length-drop 6 bs))
    in
    cc

-- a reading that more bytes do not change
abbrev Stays : Reading → Reading → Type 0
Stays (whole es k) q = q ≡ whole es k
Stays short q = Unit {0}
Stays (faulty why) q = q ≡ faulty why

stays : (p q : Reading) → q ≡ p → Stays p q
stays (whole es k) q e = e
stays short q e = tt
stays (faulty why) q e = e

kind-more : (n : ℕ) (bs more : List ℕ) → eqb (length bs) 0 ≡ false → eqb (get_or bs 0 0) 1 ≡ false → parsed n (bs ++ more) ≡ faulty UnknownKind
unfolding parsed
kind-more n bs more some kind =
    let l = length-append bs more in
    let ne = eqb-false _ _ some in
    let first : get_or (bs ++ more) 0 0 ≡ get_or bs 0 0 = get_or_append_left bs more 0 0 (omega arith) in
    grind (arith, nat_tests)

whole-more : (n : ℕ) (bs more : List ℕ) → eqb (get_or bs 0 0) 1 ≡ true → 6 ≤ length bs → 6 + 6 * counted bs ≤ length bs → parsed n (bs ++ more) ≡ checked n (bs ++ more)
unfolding parsed
whole-more n bs more kind six long =
    let l = length-append bs more in
    let first : get_or (bs ++ more) 0 0 ≡ get_or bs 0 0 = get_or_append_left bs more 0 0 (omega arith) in
    let count : counted (bs ++ more) ≡ counted bs = get_or_append_left bs more 0 5 (omega arith) in
    grind (arith, nat_tests)

-- what is not cut short stays as it is when more follows
parsed-more : (n : ℕ) (bs more : List ℕ) → Stays (parsed n bs) (parsed n (bs ++ more))
unfolding parsed
parsed-more n bs more =
    let q = parsed n (bs ++ more) in
    cond_both (eqb (length bs) 0) _ _ (λ r. Stays r q) (λ _. tt) (λ some.
    cond_both (eqb (get_or bs 0 0) 1) _ _ (λ r. Stays r q) (λ kind.
    cond_both (ltb (length bs) 6) _ _ (λ r. Stays r q) (λ _. tt) (λ six.
    cond_both (ltb (length bs) (6 + 6 * counted bs)) _ _ (λ r. Stays r q) (λ _. tt) (λ long.
    stays (checked n bs) q (whole-more n bs more kind (ltb-false _ _ six) (ltb-false _ _ long) ∙ checked-more n bs more (ltb-false _ _ long)))))
    (λ kind. kind-more n bs more some kind))

-- what follows when these commits, with so many bytes, were read first
abbrev Then : ℕ → List ℕ → List ℕ → List (List Entry) → ℕ → Opened
Then n bs more ws used = behind ws used (replayed (n + length ws) (drop used bs ++ more))

nothing_read : (n : ℕ) (bs more : List ℕ) → replayed n (bs ++ more) ≡ Then n bs more [] 0
nothing_read n bs more = behind-none _ ∙ ap (λ m. behind [] 0 (replayed m (bs ++ more))) (sym (add-zero n))

after-behind : (es : List Entry) (k : ℕ) (ws : List (List Entry)) (u : ℕ) (r : Opened) → after es k (behind ws u r) ≡ behind (es ∷ ws) (k + u) r
unfolding behind
after-behind es k ws u (good more j) = ap (good (es ∷ (ws ++ more))) (sym (add_assoc k u j))
after-behind es k ws u (bad at why) = ap (λ m. bad m why) (sym (add_assoc k u at))

after_then : (n : ℕ) (bs more : List ℕ) (es : List Entry) (k : ℕ) (r : Opened) → after es k (on_good r (Then (suc n) (drop k bs) more)) ≡ on_good (after es k r) (Then n bs more)
after_then n bs more es k (good ws u) =
    let e : suc n + length ws ≡ n + suc (length ws) = omega arith in
    after-behind es k ws u _
    ∙ ap (λ l. behind (es ∷ ws) (k + u) (replayed (suc n + length ws) (l ++ more))) (drop-drop u k bs)
    ∙ ap (λ m. behind (es ∷ ws) (k + u) (replayed m (drop (k + u) bs ++ more))) e
after_then n bs more es k (bad at why) = refl

cond-then : (n : ℕ) (bs more : List ℕ) (es : List Entry) (k : ℕ) (b : Bool) (r : Opened) →
    cond b (after es k (on_good r (Then (suc n) (drop k bs) more))) (bad 0 WrongNumber) ≡ on_good (cond b (after es k r) (bad 0 WrongNumber)) (Then n bs more)
cond-then n bs more es k true r = after_then n bs more es k r
cond-then n bs more es k false r = refl

piece-step : (t n : ℕ) (bs more : List ℕ) → ((m : ℕ) (cs : List ℕ) → length cs ≤ t → replayed m (cs ++ more) ≡ on_good (replayed m cs) (Then m cs more)) →
    (p : Reading) → parsed n bs ≡ p → Stays p (parsed n (bs ++ more)) → length bs ≤ suc t →
    replayed n (bs ++ more) ≡ on_good (onward n p (λ k. replayed (suc n) (drop k bs))) (Then n bs more)
piece-step t n bs more ih (whole es k) e s h =
    let w = whole-within n bs es k e in
    replayed-step n (bs ++ more)
    ∙ ap (λ r. onward n r (λ j. replayed (suc n) (drop j (bs ++ more)))) s
    ∙ ap (λ x. cond (ltb (suc n) (2 ^ 32)) (after es k (replayed (suc n) x)) (bad 0 WrongNumber)) (drop-append-le k bs more w.room)
    ∙ ap (λ r. cond (ltb (suc n) (2 ^ 32)) (after es k r) (bad 0 WrongNumber)) (ih (suc n) (drop k bs) (omega (arith, h, length-drop k bs, w.size, w.room)))
    ∙ cond-then n bs more es k (ltb (suc n) (2 ^ 32)) (replayed (suc n) (drop k bs))
piece-step t n bs more ih short e s h = nothing_read n bs more
piece-step t n bs more ih (faulty why) e s h = replayed-faulty n (bs ++ more) why s

piece : (t n : ℕ) (bs more : List ℕ) → length bs ≤ t → replayed n (bs ++ more) ≡ on_good (replayed n bs) (Then n bs more)
unfolding turned
piece zero n [] more h = nothing_read n [] more
piece zero n (b ∷ bs) more h = absurd (omega arith)
piece (suc t) n bs more h =
    piece-step t n bs more (λ m cs l. piece t m cs more l) (parsed n bs) refl (parsed-more n bs more) h
    ∙ ap (λ r. on_good r (Then n bs more)) (sym (replayed-step n bs))

pub in_pieces : InPieces
in_pieces n a b = piece (length a) n a b (omega arith)
