-- Run alone in the line's order, each commit has the answers that it was given.
use Rattle.std.proofs.Common.{◌≡◌, ℕ, zero, suc, ◌<◌, ◌≤◌, false, ◌⊎◌, List, [], ◌∷◌, map, get_or, sym, refl, ap, ◌∙◌, subst, inl, inr, arith}
use Rattle.std.specs.List.{range_with_len, AllByRecursion}
use Rattle.std.specs.List.Sorted.{IsPermutation}
use Rattle.std.proofs.lemmas.List.{length-map, get_or_past}
use Rattle.std.proofs.lemmas.Bool.{cases_lt}
use Rattle.model.specs.Transactions as rules
use Rattle.model.specs.Transactions.{State, Txn, empty, after, puts, is_latest, answered}
use Rattle.conflicts.specs.Laws.{nth}
use Rattle.order.specs.Order.{line, OneMoment, OneByOne}
use Rattle.order.proofs.Serial.{serializable}
use Rattle.history.specs.Engine.{Life, Engine, txn_of, txns, count}
use Rattle.history.specs.Sound.{nobody, Sound}
use Rattle.history.specs.Promise.{in_order, GivenOneByOne, SerialLine}
use Rattle.history.proofs.Lists.{all_members}

nth-life : (ls : List Life) (n : ℕ) → nth (map txn_of ls) n ≡ (get_or ls n nobody).txn
nth-life [] n = refl
nth-life (l ∷ ls) zero = refl
nth-life (l ∷ ls) (suc n) = nth-life ls n

module _ (e : Engine) (v : Sound e) where
  abbrev life : ℕ → Life
  life n = get_or e.done n nobody

  -- there is nothing to say where no commit has the number
  given-at : (n : ℕ) → (life n).given ≡ map (answered (txns e)) (life n).txn.reads
  given-at n = go (cases_lt n (count e))
    where
      go : (n < count e) ⊎ (count e ≤ n) → (life n).given ≡ map (answered (txns e)) (life n).txn.reads
      go (inl k) = (v.ended n k).given
      go (inr k) = rw (get_or_past e.done n nobody k) refl

  one-moment : OneMoment (txns e)
  one-moment n k =
      let m : n < count e = omega (arith, length-map e.done txn_of) in
      subst (λ (t : Txn). is_latest t.level ≡ false → AllByRecursion (λ (r : rules.Read). r.at ≡ t.begin) t.reads) (sym (nth-life e.done n))
      (λ s. all_members (λ (r : rules.Read). r.at ≡ (life n).txn.begin) (life n).txn.reads ((v.ended n m).moment s))

  given-one-by-one : (order : List ℕ) (m : State) → OneByOne (txns e) m (map (nth (txns e)) order) → GivenOneByOne m (in_order e order)
  given-one-by-one [] m h = tt
  given-one-by-one (n ∷ ns) m h =
      let g = subst (λ (t : Txn). OneByOne (txns e) m (t ∷ map (nth (txns e)) ns)) (nth-life e.done n) h in
      (g.0 ∙ sym (given-at n), given-one-by-one ns (puts (life n).txn.writes m) g.1)

  same-picked : (order : List ℕ) → map txn_of (in_order e order) ≡ map (nth (txns e)) order
  same-picked [] = refl
  same-picked (n ∷ ns) = let a = nth-life e.done n in let b = same-picked ns in cc

  pub serial-line : SerialLine e
  serial-line serials =
      let o = serializable (txns e) v.allowed one-moment serials in
      record {
        all = subst (λ n. IsPermutation (range_with_len 0 n) (line (txns e))) (length-map e.done txn_of) o.all;
        each = given-one-by-one (line (txns e)) empty o.each;
        left = λ k. ap (λ (ts : List Txn). after empty ts k) (same-picked (line (txns e))) ∙ o.left k;
      }
