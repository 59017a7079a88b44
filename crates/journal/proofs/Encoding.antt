-- What an encoder leaves, and what that is in the free end of a journal.
use Rattle.std.proofs.Common.{◌≡◌, ℕ, ◌+◌, ◌-◌, ◌*◌, ◌<◌, ◌≤◌, true, false, List, ◌++◌, length, take, drop, Some, Ok, sym, ap, ◌∙◌, zero-add, arith}
use borrow.Rule.Slice.PartMut.{put_mid}
use Rattle.std.proofs.lemmas.List.{append-nil, append_assoc, take_at, drop_all, length-append, length-drop, length-take-le}
use Rattle.std.proofs.lemmas.Bool.{le-leb, and_from, not_from_false}
use Rattle.std.proofs.lemmas.Bool.Decides.{nat_tests}
use Rattle.model.specs.declared.Entry.{Entry}
use Rattle.journal.specs.declared.types.Unfit.TheVariants.{TooManyWrites, NoRoom, KeyOutOfBounds}
use Rattle.model.specs.Transactions.{outside}
use Rattle.journal.specs.Records.{written, record_of, fits, misfit, Encoded}
use Rattle.journal.proofs.Places.{length-record}

module _ (es : List Entry) (room : ℕ) where
  pub it_fits : length es ≤ 64 → 6 + 6 * length es ≤ room → outside es ≡ false → fits es room ≡ true
  unfolding fits
  it_fits few h keys = and_from _ _ (le-leb (length es) 64 few) (and_from _ _ (le-leb (6 + 6 * length es) room h) (not_from_false (outside es) keys))

  pub many_not : 64 < length es → (fits es room ≡ false) × (misfit es room ≡ Some TooManyWrites)
  unfolding fits misfit
  many_not many = (grind (arith, nat_tests), grind (arith, nat_tests))

  pub room-not : length es ≤ 64 → room < 6 + 6 * length es → (fits es room ≡ false) × (misfit es room ≡ Some NoRoom)
  unfolding fits misfit
  room-not few h = (grind (arith, nat_tests), grind (arith, nat_tests))

  pub stray_not : length es ≤ 64 → 6 + 6 * length es ≤ room → outside es ≡ true → (fits es room ≡ false) × (misfit es room ≡ Some KeyOutOfBounds)
  unfolding fits misfit
  stray_not few h keys = (grind (arith, nat_tests), grind (arith, nat_tests))

pub encoded : (n : ℕ) (es : List Entry) (xs ys : List ℕ) → length es ≤ 64 → 6 + 6 * length es ≤ length xs → outside es ≡ false → ys ≡ written 0 (record_of n es) xs →
    Encoded n es xs ys (Ok (6 + 6 * length es))
unfolding written
encoded n es xs ys few h keys e = (
  it_fits es (length xs) few h keys,
  sym (length-record n es),
  e ∙ ap (λ m. record_of n es ++ drop m xs) (zero-add (length (record_of n es))),
)

-- an encoder was lent the bytes from len on, and left `after`
module _ (n : ℕ) (es : List Entry) (len k : ℕ) (bytes after : List ℕ) (le : len ≤ length bytes) (e : k ≡ length bytes - len) where
  joined-up : put_mid len k bytes after ≡ take len bytes ++ after
  joined-up =
      ap (λ l. take len bytes ++ (after ++ l)) (drop_all k (drop len bytes) (omega (arith, length-drop len bytes, e)))
      ∙ ap (λ l. take len bytes ++ l) (append-nil after)

  module _ (m : ℕ) (h : Encoded n es (drop len bytes) after (Ok m)) where
    now_is : put_mid len k bytes after ≡ (take len bytes ++ record_of n es) ++ drop (length (record_of n es)) (drop len bytes)
    now_is = joined-up ∙ ap (λ l. take len bytes ++ l) h.2 ∙ sym (append_assoc (take len bytes) (record_of n es) _)

    front-size : length (take len bytes ++ record_of n es) ≡ len + m
    front-size = omega (arith, length-append (take len bytes) (record_of n es), length-take-le len bytes le, h.1)

    pub held_on : take (len + m) (put_mid len k bytes after) ≡ take len bytes ++ record_of n es
    held_on = ap (take (len + m)) now_is ∙ take_at (take len bytes ++ record_of n es) _ (len + m) front-size
