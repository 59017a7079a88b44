-- Words of digits, and the decimal digits of a number.
use Rattle.std.proofs.Common.{◌≡◌, ℕ, ◌+◌, ◌-◌, ◌*◌, ◌^◌, ◌<◌, ◌≤◌, min, Bool, true, false, cond, not, ◌&&◌, ◌||◌, eqb, leb, List, [], ◌∷◌, length, Some, None, decimal, refl, ap, ◌∙◌, arith, rules}
use borrow.Author.Tests.{apart_eqb}
use Rattle.std.proofs.lemmas.Bool.{and_parts, or_from, leb-true}
use Rattle.std.proofs.lemmas.Str.Parse.{IsNumeralModel, numerals_by_fold, tells_all_ascii_digits}
use Rattle.std.proofs.lemmas.Fmt.{digits_decimal, digits_value-decimal, decimal_nonempty}
use Rattle.std.specs.Char.{is_ascii_digit}
use Rattle.std.specs.List.{fold, list_all}
use Rattle.std.specs.Str.{all_ascii_digits}
use Rattle.model.specs.Lists.{any}
use Rattle.lines.specs.Numbers.{with_digit, numeral}
use Rattle.lines.specs.Laws.{value_from, value_of, Number}

all-digits : (w : List ℕ) → list_all is_ascii_digit w ≡ all_ascii_digits w
all-digits [] = refl
all-digits (b ∷ w) = ap (λ (q : Bool). is_ascii_digit b && q) (all-digits w)

folded : (n : ℕ) (w : List ℕ) → fold with_digit (min n 4294967296) w ≡ min (value_from n w) 4294967296
unfolding value_from
folded n [] = refl
folded n (b ∷ w) = ap (λ (m : ℕ). fold with_digit m w) (capped (b - 48)) ∙ folded (n * 10 + (b - 48)) w
  where
    capped : (d : ℕ) → min (min n 4294967296 * 10 + d) 4294967296 ≡ min (n * 10 + d) 4294967296
    capped d = omega arith

pub numbers : Number
numbers = (
  λ w l h. rw (apart_eqb (length w) 0 (λ e. omega arith), all-digits w, h) (ap Some (folded 0 w)),
  λ w h. none w (all-digits w ∙ h),
  refl,
)
  where
    none : (w : List ℕ) → list_all is_ascii_digit w ≡ false → numeral w ≡ None
    none w e = by (eqb (length w) 0) (list_all is_ascii_digit w) e
      where
        by : (p q : Bool) → q ≡ false → cond (p || not q) None (Some (fold with_digit 0 w)) ≡ None
        by true q z = refl
        by false q z = rw z refl

own : IsNumeralModel (λ ds. all_ascii_digits ds ≡ true) value_of
unfolding value_from
own = numerals_by_fold (λ ds. all_ascii_digits ds ≡ true) tells_all_ascii_digits value_from (search rules)

pub numeral-decimal : (n : ℕ) → n < 2 ^ 32 → numeral (decimal n) ≡ Some n
numeral-decimal n h =
    let e : value_of (decimal n) ≡ n = digits_value-decimal own n (omega arith) in
    numbers.0 (decimal n) (decimal_nonempty n (omega arith)) (digits_decimal own n (omega arith)) ∙ ap Some (omega arith)

pub narrow_small : (n : ℕ) → n < 2 ^ 32 → min n 4294967295 ≡ n
narrow_small n h = omega arith

any-digits : (p : ℕ → Bool) → ((b : ℕ) → 48 ≤ b → b ≤ 57 → p b ≡ false) → (w : List ℕ) → all_ascii_digits w ≡ true → any p w ≡ false
any-digits p f [] h = refl
any-digits p f (b ∷ w) h =
    let q = and_parts (is_ascii_digit b) (all_ascii_digits w) h in
    let r = and_parts (leb 48 b) (leb b 57) q.0 in
    or_from (p b) (any p w) (f b (leb-true 48 b r.0) (leb-true b 57 r.1)) (any-digits p f w q.1)

-- what no digit is, no decimal number has
pub any-decimal : (p : ℕ → Bool) → ((b : ℕ) → 48 ≤ b → b ≤ 57 → p b ≡ false) → (n : ℕ) → n < 2 ^ 64 → any p (decimal n) ≡ false
any-decimal p f n h = any-digits p f (decimal n) (digits_decimal own n h)

pub some_decimal : (n : ℕ) → n < 2 ^ 64 → 0 < length (decimal n)
some_decimal n h = decimal_nonempty n h
