-- What a line asks for by its words.
use Rattle.std.proofs.Common.{◌≡◌, ℕ, zero, suc, ◌+◌, ◌-◌, ◌^◌, ◌<◌, ◌≤◌, min, Bool, true, false, cond, not, ◌&&◌, ◌||◌, eqb, List, [], ◌∷◌, ◌++◌, length, get_or, take, is_some, Some, None, decimal, Option, sym, refl, ap, ◌∙◌, arith, lt-ltb}
use borrow.Author.Tests.{apart_eqb, both_ways}
use Rattle.std.proofs.lemmas.Slice.Eq.{bytes_eq-Decides}
use Rattle.std.proofs.lemmas.Bool.{or_parts, or_from, cond-false}
use Rattle.std.proofs.lemmas.List.Folds.{list_any-append}
use Rattle.std.specs.List.{AllByRecursion}
use Rattle.std.specs.Str.{bytes_eq}
use Rattle.model.specs.Lists.{any}
use Rattle.model.specs.declared.Level.{Level}
use Rattle.model.specs.declared.Level.TheVariants.{Latest, Snapshot, Serial}
use Rattle.model.specs.declared.Call.{Call}
use Rattle.model.specs.declared.Call.TheVariants.{Begin, Read, Write, Commit, Abort, Sweep, Sync, Stop, Show}
use Rattle.model.specs.declared.Request.{Request}
use Rattle.model.specs.declared.Request.TheVariants.{Whole, Faulty, Unknown}
use Rattle.lines.specs.Words.{blank, unended}
use Rattle.lines.specs.Numbers.{numeral, narrowed, fitting}
use Rattle.lines.specs.Requests.{missing, level_of, judged, part, plain, slot_only, begin_of, read_of, write_of, asked}
use Rattle.lines.specs.Laws.{ended, words_from, words_of, names, NoCall, level_name, spelt, spaced, Sayable, RoundTrip}
use Rattle.lines.proofs.Splits.{splits, asked_of, parsed-by}
use Rattle.lines.proofs.Digits.{numeral-decimal, narrow_small, any-decimal, some_decimal}

same_not : (q : Bool) (v w : List ℕ) → bytes_eq v w ≡ q → (v ≡ w → ⊥) → q ≡ false
same_not true v w e h = absurd (h ((bytes_eq-Decides v w).0 e))
same_not false v w e h = refl

none-same : (w : List ℕ) (ns : List (List ℕ)) → AllByRecursion (λ (n : List ℕ). w ≡ n → ⊥) ns → any (bytes_eq w) ns ≡ false
none-same w [] h = refl
none-same w (n ∷ ns) h = or_from (bytes_eq w n) (any (bytes_eq w) ns) (same_not (bytes_eq w n) w n refl h.0) (none-same w ns h.1)

none_named : (w : List ℕ) (ns : List (List ℕ)) → any (bytes_eq w) ns ≡ false → AllByRecursion (λ (n : List ℕ). w ≡ n → ⊥) ns
none_named w [] h = tt
none_named w (n ∷ ns) h =
    let p = or_parts (bytes_eq w n) (any (bytes_eq w) ns) h in
    (λ e. both_ways (bytes_eq w n) p.0 ((bytes_eq-Decides w n).1 e), none_named w ns p.1)

judged-known : (c : Call) (p q : Bool) → judged c p q ≡ Unknown → ⊥
judged-known c true true e = let z : ◌≡◌ {A = ℕ} 0 1 = cc in omega arith
judged-known c true false e = let z : ◌≡◌ {A = ℕ} 0 1 = cc in omega arith
judged-known c false q e = let z : ◌≡◌ {A = ℕ} 0 1 = cc in omega arith

-- the request that stands where the word stands among names
abbrev pub pick : List ℕ → List (List ℕ) → List Request → Request
pick w [] rs = Unknown
pick w (n ∷ ns) [] = Unknown
pick w (n ∷ ns) (r ∷ rs) = cond (bytes_eq w n) r (pick w ns rs)

pick-none : (w : List ℕ) (ns : List (List ℕ)) (rs : List Request) → any (bytes_eq w) ns ≡ false → pick w ns rs ≡ Unknown
pick-none w [] rs h = refl
pick-none w (n ∷ ns) [] h = refl
pick-none w (n ∷ ns) (r ∷ rs) h =
    let p = or_parts (bytes_eq w n) (any (bytes_eq w) ns) h in
    cond-false (bytes_eq w n) r (pick w ns rs) p.0 ∙ pick-none w ns rs p.1

pick_known : (w : List ℕ) (ns : List (List ℕ)) (rs : List Request) → length ns ≡ length rs → AllByRecursion (λ (r : Request). r ≡ Unknown → ⊥) rs → pick w ns rs ≡ Unknown → any (bytes_eq w) ns ≡ false
pick_known w [] rs l k h = refl
pick_known w (n ∷ ns) [] l k h = absurd (omega arith)
pick_known w (n ∷ ns) (r ∷ rs) l k h = by (bytes_eq w n) h (pick_known w ns rs (omega arith) k.1)
  where
    by : (q : Bool) → cond q r (pick w ns rs) ≡ Unknown → (pick w ns rs ≡ Unknown → any (bytes_eq w) ns ≡ false) → (q || any (bytes_eq w) ns) ≡ false
    by true e f = absurd (k.0 e)
    by false e f = f e

-- what a line asks for whose words these are, if its first word is each of the names
abbrev pub each : List ℕ → List ℕ → List ℕ → List ℕ → List Request
each a b c d =
    begin_of a b c ∷ read_of a b c d ∷ write_of a b c d ∷ slot_only Commit a b ∷ slot_only Abort a b ∷ plain Sweep a ∷ plain Sync a ∷ plain Stop a ∷ plain Show a ∷ []

unknown_named : (w a b c d : List ℕ) → any (bytes_eq w) names ≡ false → asked w a b c d ≡ Unknown
unknown_named w a b c d h = pick-none w names (each a b c d) h

named_unknown : (w a b c d : List ℕ) → asked w a b c d ≡ Unknown → any (bytes_eq w) names ≡ false
named_unknown w a b c d h =
    let slot : Bool = is_some (numeral a) in
    pick_known w names (each a b c d) refl (
      judged-known (Begin (part a) (level_of b)) slot (not (missing b) && missing c),
      (
        judged-known (Read (part a) (part b) (narrowed (numeral c) (part b + 1))) slot (is_some (numeral b) && (is_some (numeral c) && missing d)),
        (
          judged-known (Write (part a) (part b) (part c)) slot (is_some (numeral b) && (fitting (numeral c) && missing d)),
          (
            judged-known (Commit (part a)) slot (missing b),
            (
              judged-known (Abort (part a)) slot (missing b),
              (
                judged-known Sweep true (missing a),
                (
                  judged-known Sync true (missing a),
                  (
                    judged-known Stop true (missing a),
                    (judged-known Show true (missing a), tt),
                  ),
                ),
              ),
            ),
          ),
        ),
      ),
    ) h

unknown_words : (w : List ℕ) (ws : List (List ℕ)) → any (bytes_eq w) names ≡ false → asked_of (w ∷ ws) ≡ Unknown
unfolding asked_of
unknown_words w ws h = unknown_named w (get_or ws 0 []) (get_or ws 1 []) (get_or ws 2 []) (get_or ws 3 []) h

words_unknown : (w : List ℕ) (ws : List (List ℕ)) → asked_of (w ∷ ws) ≡ Unknown → any (bytes_eq w) names ≡ false
unfolding asked_of
words_unknown w ws h = named_unknown w (get_or ws 0 []) (get_or ws 1 []) (get_or ws 2 []) (get_or ws 3 []) h

no_words : asked_of [] ≡ Unknown
unfolding asked_of
no_words = refl

pub no_call : NoCall
no_call = (
  λ s e. parsed-by s ∙ ap asked_of e ∙ no_words,
  λ s w ws e h. parsed-by s ∙ ap asked_of e ∙ unknown_words w ws (none-same w names h),
  λ s w ws e h. none_named w names (words_unknown w ws (ap asked_of (sym e) ∙ sym (parsed-by s) ∙ h)),
)

slot_trip : (call : ℕ → Call) (o : Option ℕ) (n : ℕ) → n < 2 ^ 32 → o ≡ Some n → judged (call (narrowed o 0)) (is_some o) true ≡ Whole (call n)
slot_trip call o n h e = rw e (ap (λ (x : ℕ). Whole (call x)) (narrow_small n h))

read_trip : (o p q : Option ℕ) (s a b : ℕ) → s < 2 ^ 32 → a < 2 ^ 32 → b < 2 ^ 32 → o ≡ Some s → p ≡ Some a → q ≡ Some b →
    judged (Read (narrowed o 0) (narrowed p 0) (narrowed q (narrowed p 0 + 1))) (is_some o) (is_some p && (is_some q && true)) ≡ Whole (Read s a b)
read_trip o p q s a b l m n e f g =
    rw (e, f, g) (ap (λ (x : ℕ). Whole (Read x (min a 4294967295) (min b 4294967295))) (narrow_small s l)
    ∙ ap (λ (x : ℕ). Whole (Read s x (min b 4294967295))) (narrow_small a m) ∙ ap (λ (x : ℕ). Whole (Read s a x)) (narrow_small b n))

write_trip : (o p q : Option ℕ) (s k v : ℕ) → s < 2 ^ 32 → k < 2 ^ 32 → v < 2 ^ 32 → o ≡ Some s → p ≡ Some k → q ≡ Some v →
    judged (Write (narrowed o 0) (narrowed p 0) (narrowed q 0)) (is_some o) (is_some p && (fitting q && true)) ≡ Whole (Write s k v)
write_trip o p q s k v l m n e f g =
    rw (e, f, g) (ap (λ (x : Bool). cond (x && true) (Whole (Write (min s 4294967295) (min k 4294967295) (min v 4294967295))) (Faulty (Write (min s 4294967295) (min k 4294967295) (min v 4294967295)))) (lt-ltb v 4294967296 (omega arith))
    ∙ ap (λ (x : ℕ). Whole (Write x (min k 4294967295) (min v 4294967295))) (narrow_small s l)
    ∙ ap (λ (x : ℕ). Whole (Write s x (min v 4294967295))) (narrow_small k m) ∙ ap (λ (x : ℕ). Whole (Write s k x)) (narrow_small v n))

call_asked : (c : Call) → Sayable c → asked_of (spelt c) ≡ Whole c
unfolding asked_of
call_asked (Begin s None) h = absurd h
call_asked (Begin s (Some Latest)) h = slot_trip (λ n. Begin n (Some Latest)) (numeral (decimal s)) s h (numeral-decimal s h)
call_asked (Begin s (Some Snapshot)) h = slot_trip (λ n. Begin n (Some Snapshot)) (numeral (decimal s)) s h (numeral-decimal s h)
call_asked (Begin s (Some Serial)) h = slot_trip (λ n. Begin n (Some Serial)) (numeral (decimal s)) s h (numeral-decimal s h)
call_asked (Read s a b) h =
    read_trip (numeral (decimal s)) (numeral (decimal a)) (numeral (decimal b)) s a b h.0 h.1 h.2
    (numeral-decimal s h.0) (numeral-decimal a h.1) (numeral-decimal b h.2)
call_asked (Write s k v) h =
    write_trip (numeral (decimal s)) (numeral (decimal k)) (numeral (decimal v)) s k v h.0 h.1 h.2
    (numeral-decimal s h.0) (numeral-decimal k h.1) (numeral-decimal v h.2)
call_asked (Commit s) h = slot_trip Commit (numeral (decimal s)) s h (numeral-decimal s h)
call_asked (Abort s) h = slot_trip Abort (numeral (decimal s)) s h (numeral-decimal s h)
call_asked Sweep h = refl
call_asked Sync h = refl
call_asked Stop h = refl
call_asked Show h = refl

-- a word with neither a blank nor a carriage return
abbrev cr : ℕ → Bool
cr b = eqb b 13

abbrev IsWord : List ℕ → Type 0
IsWord w = (0 < length w) × (any blank w ≡ false) × (any cr w ≡ false)

pub any_join : (p : ℕ → Bool) (xs ys : List ℕ) → any p xs ≡ false → any p ys ≡ false → any p (xs ++ ys) ≡ false
any_join p xs ys h k = list_any-append p xs ys ∙ or_from (any p xs) (any p ys) h k

any_at : (p : ℕ → Bool) (s : List ℕ) (i : ℕ) → p 0 ≡ false → any p s ≡ false → p (get_or s i 0) ≡ false
any_at p [] i z h = z
any_at p (b ∷ s) zero z h = (or_parts (p b) (any p s) h).0
any_at p (b ∷ s) (suc i) z h = any_at p s i z (or_parts (p b) (any p s) h).1

ended-word : (w : List ℕ) → 0 < length w → ended w ≡ w ∷ []
ended-word [] h = absurd (omega arith)
ended-word (b ∷ w) h = refl

spaced_words : (ws : List (List ℕ)) → AllByRecursion IsWord ws → words_of (spaced ws) ≡ ws
unfolding words_from spaced
spaced_words [] h = refl
spaced_words (w ∷ []) h = splits.1 w h.0.1 ∙ ended-word w h.0.0
spaced_words (w ∷ (v ∷ ws)) h =
    splits.0 w 32 (spaced (v ∷ ws)) refl
    ∙ ap (λ (x : List (List ℕ)). x ++ words_of (spaced (v ∷ ws))) (splits.1 w h.0.1 ∙ ended-word w h.0.0)
    ∙ ap (λ (x : List (List ℕ)). w ∷ x) (spaced_words (v ∷ ws) h.1)

spaced-plain : (ws : List (List ℕ)) → AllByRecursion IsWord ws → any cr (spaced ws) ≡ false
unfolding spaced
spaced-plain [] h = refl
spaced-plain (w ∷ []) h = h.0.2
spaced-plain (w ∷ (v ∷ ws)) h = any_join cr w (32 ∷ spaced (v ∷ ws)) h.0.2 (spaced-plain (v ∷ ws) h.1)

unended-same : (s : List ℕ) → any cr s ≡ false → unended s ≡ s
unended-same s h = cond-false (eqb (get_or s (length s - 1) 0) 13) (take (length s - 1) s) s (any_at cr s (length s - 1) refl h)

no_blank : (b : ℕ) → 48 ≤ b → b ≤ 57 → blank b ≡ false
no_blank b l u = or_from (eqb b 32) (eqb b 9) (apart_eqb b 32 (λ e. omega arith)) (apart_eqb b 9 (λ e. omega arith))

number_word : (n : ℕ) → n < 2 ^ 32 → IsWord (decimal n)
number_word n h = (
  some_decimal n (omega arith),
  any-decimal blank no_blank n (omega arith),
  any-decimal cr (λ b l u. apart_eqb b 13 (λ e. omega arith)) n (omega arith),
)

level-word : (l : Level) → IsWord (level_name l)
level-word Latest = (omega arith, refl, refl)
level-word Snapshot = (omega arith, refl, refl)
level-word Serial = (omega arith, refl, refl)

spelt_words : (c : Call) → Sayable c → AllByRecursion IsWord (spelt c)
spelt_words (Begin s None) h = tt
spelt_words (Begin s (Some l)) h = ((omega arith, refl, refl), (number_word s h, (level-word l, tt)))
spelt_words (Read s a b) h = ((omega arith, refl, refl), (number_word s h.0, (number_word a h.1, (number_word b h.2, tt))))
spelt_words (Write s k v) h = ((omega arith, refl, refl), (number_word s h.0, (number_word k h.1, (number_word v h.2, tt))))
spelt_words (Commit s) h = ((omega arith, refl, refl), (number_word s h, tt))
spelt_words (Abort s) h = ((omega arith, refl, refl), (number_word s h, tt))
spelt_words Sweep h = ((omega arith, refl, refl), tt)
spelt_words Sync h = ((omega arith, refl, refl), tt)
spelt_words Stop h = ((omega arith, refl, refl), tt)
spelt_words Show h = ((omega arith, refl, refl), tt)

pub round_trip : RoundTrip
round_trip = (
  λ c s h e. parsed-by s ∙ ap asked_of e ∙ call_asked c h,
  λ c h.
      let ws = spelt_words c h in
      parsed-by (spaced (spelt c)) ∙ ap asked_of (ap words_of (unended-same (spaced (spelt c)) (spaced-plain (spelt c) ws)) ∙ spaced_words (spelt c) ws) ∙ call_asked c h,
)
