-- A line falls apart into words.
use Rattle.std.proofs.Common.{◌≡◌, ℕ, zero, suc, ◌+◌, ◌-◌, Bool, true, false, cond, not, eqb, List, [], ◌∷◌, ◌++◌, length, get_or, Some, None, take, drop, sym, refl, ap, ◌∙◌, append_assoc, append-nil, arith, eq-eqb, ltb, ltb-false}
use borrow.Author.Tests.{apart_eqb}
use Rattle.std.proofs.lemmas.List.Sums.{prefix_len-le-length}
use Rattle.std.proofs.lemmas.List.{length_push, get_or_push, take_at}
use Rattle.std.proofs.lemmas.Bool.{or_parts, cond-true, cond-false}
use Rattle.model.specs.Lists.{any}
use Rattle.model.specs.declared.Request.{Request}
use Rattle.std.specs.List.{position, position_or_len}
use Rattle.std.specs.Option.{unwrap_or}
use Rattle.lines.specs.Words.{blank, trimmed, word, behind, field, unended}
use Rattle.lines.specs.Requests.{asked, parsed}
use Rattle.lines.specs.Laws.{ended, words_from, words_of, line_words, Split, Return, SameWords}

-- where the test passes first, or the length where it passes nowhere
or_len : (p : ℕ → Bool) (s : List ℕ) → unwrap_or (position p s) (length s) ≡ position_or_len p s
or_len p s = by (ltb (position_or_len p s) (length s)) refl
  where
    n : ℕ
    n = position_or_len p s

    by : (q : Bool) → ltb n (length s) ≡ q → unwrap_or (cond q (Some n) None) (length s) ≡ n
    by true e = refl
    by false e = let l = prefix_len-le-length (λ x. not (p x)) s in let m = ltb-false n (length s) e in omega arith

-- as the parser takes the first word: start is where it starts, and end how long it is
module _ (s rest : List ℕ) (start end : ℕ) (e : start ≡ unwrap_or (position (λ b. not (blank b)) s) (length s)) (r : rest ≡ drop start s) (f : end ≡ unwrap_or (position blank rest) (length rest)) where
  trimmed_is : rest ≡ trimmed s
  trimmed_is = r ∙ ap (λ (n : ℕ). drop n s) (e ∙ or_len (λ b. not (blank b)) s)

  pub first_word : take end rest ≡ word s
  unfolding word
  first_word = ap (λ (n : ℕ). take n rest) (f ∙ or_len blank rest) ∙ ap (λ (t : List ℕ). take (position_or_len blank t) t) trimmed_is

  pub behind-first : drop end rest ≡ behind s
  unfolding behind
  behind-first = ap (λ (n : ℕ). drop n rest) (f ∙ or_len blank rest) ∙ ap (λ (t : List ℕ). drop (position_or_len blank t) t) trimmed_is

front-blank : (b : ℕ) (s : List ℕ) → blank b ≡ true → words_of (b ∷ s) ≡ words_of s
unfolding words_from
front-blank b s h = cond-true (blank b) (words_from [] s) (words_from (b ∷ []) s) h

-- the line may be read on from any word
apart_from : (w a : List ℕ) (b : ℕ) (c : List ℕ) → blank b ≡ true → words_from w (a ++ b ∷ c) ≡ words_from w a ++ words_of c
unfolding words_from
apart_from w [] b c h = cond-true (blank b) (ended w ++ words_from [] c) (words_from (w ++ b ∷ []) c) h
apart_from w (x ∷ a) b c h = by (blank x) (apart_from [] a b c h) (apart_from (w ++ x ∷ []) a b c h)
  where
    by : (q : Bool) → words_from [] (a ++ b ∷ c) ≡ words_from [] a ++ words_of c → words_from (w ++ x ∷ []) (a ++ b ∷ c) ≡ words_from (w ++ x ∷ []) a ++ words_of c →
        cond q (ended w ++ words_from [] (a ++ b ∷ c)) (words_from (w ++ x ∷ []) (a ++ b ∷ c)) ≡ cond q (ended w ++ words_from [] a) (words_from (w ++ x ∷ []) a) ++ words_of c
    by true f g = ap (λ (y : List (List ℕ)). ended w ++ y) f ∙ sym (append_assoc (ended w) (words_from [] a) (words_of c))
    by false f g = g

solid_from : (w s : List ℕ) → any blank s ≡ false → words_from w s ≡ ended (w ++ s)
unfolding words_from
solid_from w [] h = ap ended (sym (append-nil w))
solid_from w (b ∷ s) h =
    let p = or_parts (blank b) (any blank s) h in
    cond-false (blank b) (ended w ++ words_from [] s) (words_from (w ++ b ∷ []) s) p.0
    ∙ solid_from (w ++ b ∷ []) s p.1 ∙ ap ended (append_assoc w (b ∷ []) s)

pub splits : Split
splits = (apart_from [], solid_from [])

-- the first word is what stands before the first blank
from-word : (w s : List ℕ) → words_from w s ≡ ended (w ++ take (position_or_len blank s) s) ++ words_of (drop (position_or_len blank s) s)
unfolding words_from
from-word w [] = ap ended (sym (append-nil w)) ∙ sym (append-nil (ended (w ++ [])))
from-word w (b ∷ s) = by (blank b) refl (from-word (w ++ b ∷ []) s)
  where
    n : ℕ
    n = position_or_len blank s

    by : (q : Bool) → blank b ≡ q → words_from (w ++ b ∷ []) s ≡ ended ((w ++ b ∷ []) ++ take n s) ++ words_of (drop n s) →
        cond q (ended w ++ words_from [] s) (words_from (w ++ b ∷ []) s)
        ≡ ended (w ++ take (cond (not q) (1 + n) 0) (b ∷ s)) ++ words_of (drop (cond (not q) (1 + n) 0) (b ∷ s))
    by true p f = ap (λ (y : List (List ℕ)). ended w ++ y) (sym (front-blank b s p)) ∙ ap (λ (y : List ℕ). ended y ++ words_of (b ∷ s)) (sym (append-nil w))
    by false p f =
        let one : 1 + n ≡ suc n = omega arith in
        rw one (f ∙ ap (λ (y : List ℕ). ended y ++ words_of (drop n s)) (append_assoc w (b ∷ []) (take n s)))

trimmed_words : (s : List ℕ) → words_of (trimmed s) ≡ words_of s
trimmed_words [] = refl
trimmed_words (b ∷ s) = by (blank b) refl (trimmed_words s)
  where
    by : (q : Bool) → blank b ≡ q → words_of (trimmed s) ≡ words_of s → words_of (drop (cond (not (not q)) (1 + position_or_len (λ b. not (blank b)) s) 0) (b ∷ s)) ≡ words_of (b ∷ s)
    by true p f =
        let one : 1 + position_or_len (λ b. not (blank b)) s ≡ suc (position_or_len (λ b. not (blank b)) s) = omega arith in
        rw one (f ∙ sym (front-blank b s p))
    by false p f = refl

word_first : (s : List ℕ) → words_of s ≡ ended (word s) ++ words_of (behind s)
unfolding word behind
word_first s = sym (trimmed_words s) ∙ from-word [] (trimmed s)

-- where the first word is empty there is none
word_none : (s : List ℕ) → word s ≡ [] → words_of s ≡ []
unfolding words_from word
word_none [] e = refl
word_none (b ∷ s) e = by (blank b) refl e (word_none s)
  where
    first : Bool → List ℕ
    first q = drop (cond (not (not q)) (1 + position_or_len (λ b. not (blank b)) s) 0) (b ∷ s)

    by : (q : Bool) → blank b ≡ q → take (position_or_len blank (first q)) (first q) ≡ [] → (word s ≡ [] → words_of s ≡ []) → words_of (b ∷ s) ≡ []
    by true p g f =
        let one : 1 + position_or_len (λ b. not (blank b)) s ≡ suc (position_or_len (λ b. not (blank b)) s) = omega arith in
        front-blank b s p ∙ f (rw one at g)
    by false p g f =
        let one : 1 + position_or_len blank s ≡ suc (position_or_len blank s) = omega arith in
        let z : ◌≡◌ {A = ℕ} 0 1 = let y = rw (p, one) at g in cc in
        absurd (omega arith)

field-first : (s w : List ℕ) → word s ≡ w → w ≡ get_or (words_of s) 0 []
field-first s [] e = ap (λ (x : List (List ℕ)). get_or x 0 []) (sym (word_none s e))
field-first s (b ∷ w) e = ap (λ (x : List (List ℕ)). get_or x 0 []) (sym (word_first s ∙ ap (λ (x : List ℕ). ended x ++ words_of (behind s)) e))

behind-at : (n : ℕ) (s w : List ℕ) → word s ≡ w → get_or (words_of (behind s)) n [] ≡ get_or (words_of s) (suc n) []
behind-at n s [] e =
    let z = word_none s e in
    let y : words_of (behind s) ≡ [] = sym (word_first s ∙ ap (λ (x : List ℕ). ended x ++ words_of (behind s)) e) ∙ z in
    ap (λ (x : List (List ℕ)). get_or x n []) y ∙ ap (λ (x : List (List ℕ)). get_or x (suc n) []) (sym z)
behind-at n s (b ∷ w) e = ap (λ (x : List (List ℕ)). get_or x (suc n) []) (sym (word_first s ∙ ap (λ (x : List ℕ). ended x ++ words_of (behind s)) e))

-- the words as the parser takes them
pub field_at : (n : ℕ) (s : List ℕ) → field n s ≡ get_or (words_of s) n []
field_at zero s = field-first s (word s) refl
field_at (suc n) s = field_at n (behind s) ∙ behind-at n s (word s) refl

unfoldable pub asked_of : List (List ℕ) → Request
asked_of ws = asked (get_or ws 0 []) (get_or ws 1 []) (get_or ws 2 []) (get_or ws 3 []) (get_or ws 4 [])

asked-same : (w a b c d v e f g h : List ℕ) → w ≡ v → a ≡ e → b ≡ f → c ≡ g → d ≡ h → asked w a b c d ≡ asked v e f g h
asked-same w a b c d v e f g h p q r s t =
    ap (λ (x : List ℕ). asked x a b c d) p ∙ ap (λ (x : List ℕ). asked v x b c d) q ∙ ap (λ (x : List ℕ). asked v e x c d) r
    ∙ ap (λ (x : List ℕ). asked v e f x d) s ∙ ap (λ (x : List ℕ). asked v e f g x) t

pub parsed-by : (s : List ℕ) → parsed s ≡ asked_of (line_words s)
unfolding asked_of
parsed-by s =
    let u : List ℕ = unended s in
    asked-same (field 0 u) (field 1 u) (field 2 u) (field 3 u) (field 4 u) _ _ _ _ _ (field_at 0 u) (field_at 1 u) (field_at 2 u) (field_at 3 u) (field_at 4 u)

pub same_words : SameWords
same_words s t e = parsed-by s ∙ ap asked_of e ∙ sym (parsed-by t)

last_byte : (s : List ℕ) (b : ℕ) → get_or (s ++ b ∷ []) (length (s ++ b ∷ []) - 1) 0 ≡ b
last_byte s b = let e : length (s ++ b ∷ []) ≡ length s + 1 = length_push s b in get_or_push s b 0 (length (s ++ b ∷ []) - 1) (omega arith)

front_bytes : (s : List ℕ) (b : ℕ) → take (length (s ++ b ∷ []) - 1) (s ++ b ∷ []) ≡ s
front_bytes s b = let e : length (s ++ b ∷ []) ≡ length s + 1 = length_push s b in take_at s (b ∷ []) (length (s ++ b ∷ []) - 1) (omega arith)

pub returned : Return
returned = (
  refl,
  λ s. cond-true (eqb (get_or (s ++ 13 ∷ []) (length (s ++ 13 ∷ []) - 1) 0) 13) (take (length (s ++ 13 ∷ []) - 1) (s ++ 13 ∷ [])) (s ++ 13 ∷ []) (eq-eqb _ 13 (last_byte s 13)) ∙ front_bytes s 13,
  λ s b h. cond-false (eqb (get_or (s ++ b ∷ []) (length (s ++ b ∷ []) - 1) 0) 13) (take (length (s ++ b ∷ []) - 1) (s ++ b ∷ [])) (s ++ b ∷ []) (apart_eqb _ 13 (λ e. h (sym (last_byte s b) ∙ e))),
)
