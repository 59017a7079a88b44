-- Every answer is nothing or one line.
use Rattle.std.proofs.Common.{◌≡◌, ℕ, ◌^◌, ◌<◌, Bool, false, eqb, List, [], ◌∷◌, ◌++◌, codes, Ok, Err, vec_items, decimal, sym, refl, append_assoc, arith}
use borrow.Author.Tests.{apart_eqb}
use Rattle.std.specs.List.{AllByRecursion}
use Rattle.model.specs.Lists.{any}
use Rattle.model.specs.Refusals.{number_of}
use Rattle.model.specs.declared.Entry.{Entry}
use Rattle.model.specs.declared.Refusal.{Refusal}
use Rattle.model.specs.declared.Refusal.TheVariants.{OutOfBounds, SlotState, TooMany, WriteConflict, Pivot, NoRoom, LastCommit, BadFile, BadLine, NoMemory}
use Rattle.model.specs.declared.Answer.TheVariants.{Done, Found, Committed, Shown}
use Rattle.lines.specs.Said.{pair, pairs}
use Rattle.lines.specs.Laws.{OneLine}
use Rattle.lines.proofs.Digits.{any-decimal}
use Rattle.lines.proofs.Trips.{any_join}

abbrev feed : ℕ → Bool
feed b = eqb b 10

number-plain : (n : ℕ) → n < 2 ^ 32 → any feed (decimal n) ≡ false
number-plain n h = any-decimal feed (λ b l u. apart_eqb b 10 (λ e. omega arith)) n (omega arith)

pair-plain : (q : List ℕ) (e : Entry) → any feed q ≡ false → e.key < 2 ^ 32 → e.value < 2 ^ 32 → any feed (pair q e) ≡ false
pair-plain q e h k v = any_join feed q (decimal e.key ++ (61 ∷ decimal e.value)) h (any_join feed (decimal e.key) (61 ∷ decimal e.value) (number-plain e.key k) (number-plain e.value v))

pairs-plain : (q : List ℕ) (es : List Entry) → any feed q ≡ false → AllByRecursion (λ (e : Entry). (e.key < 2 ^ 32) × (e.value < 2 ^ 32)) es → any feed (pairs q es) ≡ false
unfolding pairs
pairs-plain q [] p h = refl
pairs-plain q (e ∷ es) p h = any_join feed (pair q e) (pairs (codes " ") es) (pair-plain q e p h.0.0 h.0.1) (pairs-plain (codes " ") es refl h.1)

number_small : (y : Refusal) → number_of y < 2 ^ 32
number_small OutOfBounds = omega arith
number_small SlotState = omega arith
number_small TooMany = omega arith
number_small WriteConflict = omega arith
number_small Pivot = omega arith
number_small NoRoom = omega arith
number_small LastCommit = omega arith
number_small BadFile = omega arith
number_small BadLine = omega arith
number_small NoMemory = omega arith

pub one_line : OneLine
one_line (Ok Done) = refl
one_line (Ok (Found v)) = λ h. (pairs [] (vec_items v), refl, pairs-plain [] (vec_items v) refl h)
one_line (Ok (Committed n)) = λ h. (decimal n, refl, number-plain n h)
one_line (Ok (Shown s)) = λ c v b. (
  decimal s.commits ++ (32 ∷ (decimal s.versions ++ (32 ∷ decimal s.busy))),
  sym (simp append_assoc),
  any_join feed (decimal s.commits) (32 ∷ (decimal s.versions ++ (32 ∷ decimal s.busy))) (number-plain s.commits c)
      (any_join feed (decimal s.versions) (32 ∷ decimal s.busy) (number-plain s.versions v) (number-plain s.busy b)),
)
one_line (Err y) = (110 ∷ 111 ∷ 32 ∷ decimal (number_of y), refl, number-plain (number_of y) (number_small y))
