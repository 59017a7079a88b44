-- What the bytes at the front are read as, test by test.
use Rattle.std.proofs.Common.{◌≡◌, ℕ, ◌+◌, ◌*◌, ◌<◌, ◌≤◌, true, false, List, [], ◌∷◌, length, get_or, take, drop, refl, ap, ◌∙◌, arith}
use Rattle.std.proofs.lemmas.Bool.Decides.{nat_tests}
use Rattle.model.specs.Transactions.{outside}
use Rattle.journal.specs.declared.types.Fault.TheVariants.{UnknownKind, WrongNumber, TooManyWrites, KeyOutOfBounds}
use Rattle.journal.specs.Parsing.{of4, counted, entries_in, whole, short, faulty, checked, parsed}

-- the number and the count are within the first six bytes
heads : (bs : List ℕ) →
    (get_or (take 6 bs) 1 0 * 16777216 + get_or (take 6 bs) 2 0 * 65536 + get_or (take 6 bs) 3 0 * 256 + get_or (take 6 bs) 4 0 ≡ of4 (drop 1 bs))
    × (get_or (take 6 bs) 5 0 ≡ counted bs)
unfolding of4
heads [] = (refl, refl)
heads (a ∷ []) = (refl, refl)
heads (a ∷ b ∷ []) = (refl, refl)
heads (a ∷ b ∷ c ∷ []) = (refl, refl)
heads (a ∷ b ∷ c ∷ d ∷ []) = (refl, refl)
heads (a ∷ b ∷ c ∷ d ∷ e ∷ []) = (refl, refl)
heads (a ∷ b ∷ c ∷ d ∷ e ∷ f ∷ bs) = (refl, refl)

pub head_number : (bs head : List ℕ) → head ≡ take 6 bs → get_or head 1 0 * 16777216 + get_or head 2 0 * 65536 + get_or head 3 0 * 256 + get_or head 4 0 ≡ of4 (drop 1 bs)
head_number bs head e = ap (λ l. get_or l 1 0 * 16777216 + get_or l 2 0 * 65536 + get_or l 3 0 * 256 + get_or l 4 0) e ∙ (heads bs).0

pub head_count : (bs head : List ℕ) → head ≡ take 6 bs → get_or head 5 0 ≡ counted bs
head_count bs head e = ap (λ l. get_or l 5 0) e ∙ (heads bs).1

module _ (n : ℕ) (bs : List ℕ) where
  pub is-nothing : length bs ≤ 0 → parsed n bs ≡ short
  unfolding parsed
  is-nothing none = grind (arith, nat_tests)

  pub is-other : 0 < length bs → (get_or bs 0 0 ≡ 1 → ⊥) → parsed n bs ≡ faulty UnknownKind
  unfolding parsed
  is-other some kind = grind (arith, nat_tests)

  module _ (kind : get_or bs 0 0 ≡ 1) where
    pub is-short : 0 < length bs → length bs < 6 → parsed n bs ≡ short
    unfolding parsed
    is-short some less = grind (arith, nat_tests)

    module _ (head : 6 ≤ length bs) where
      pub is-cut : length bs < 6 + 6 * counted bs → parsed n bs ≡ short
      unfolding parsed
      is-cut less = grind (arith, nat_tests)

      module _ (long : 6 + 6 * counted bs ≤ length bs) where
        pub is-numbered : (of4 (drop 1 bs) ≡ n → ⊥) → parsed n bs ≡ faulty WrongNumber
        unfolding parsed checked
        is-numbered other = grind (arith, nat_tests)

        module _ (number : of4 (drop 1 bs) ≡ n) where
          pub is-long : 64 < counted bs → parsed n bs ≡ faulty TooManyWrites
          unfolding parsed checked
          is-long many = grind (arith, nat_tests)

          pub is-stray : counted bs ≤ 64 → outside (entries_in bs) ≡ true → parsed n bs ≡ faulty KeyOutOfBounds
          unfolding parsed checked
          is-stray few keys = grind (arith, nat_tests)

          pub is-whole : counted bs ≤ 64 → outside (entries_in bs) ≡ false → parsed n bs ≡ whole (entries_in bs) (6 + 6 * counted bs)
          unfolding parsed checked
          is-whole few keys = grind (arith, nat_tests)
