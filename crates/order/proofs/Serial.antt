-- Run in the line's order, each has the same answers, and the same is left.
use Rattle.std.proofs.Common.{◌≡◌, ℕ, zero, suc, ◌-◌, ◌<◌, ◌≤◌, true, false, ◌⊎◌, List, [], ◌∷◌, ◌++◌, map, length, take, sym, refl, ap, ◌∙◌, subst, inl, inr, ⊎_elim, add-one, arith}
use Rattle.std.specs.List.{range_with_len}
use Rattle.std.proofs.lemmas.List.FromFn.{length-range_with_len, map-range_with_len_more}
use Rattle.std.proofs.lemmas.List.{append_assoc, map-append, take_more, take_all}
use Rattle.std.proofs.lemmas.List.Sorted.{IsPermutation-sym}
use Rattle.std.proofs.lemmas.Bool.{cases_Bool, cases_lt}
use Rattle.model.specs.declared.Level.TheVariants.{Latest}
use Rattle.model.specs.Transactions.{State, Read, Txn, puts, after, empty, answer_in, answered, names, reads_some, began}
use Rattle.conflicts.specs.Laws.{nth, Allowed}
use Rattle.order.specs.Order.{commit_at, line, OneMoment, AllSerial, OneByOne, SerialOrder, Serializable}
use Rattle.order.proofs.Members.{In, clash, in_right, in_cases, all_in, map_same, Asc, in_counting, counting_in, asc-counting}
use Rattle.order.proofs.Stands.{stands-wrote, stands-seen, stands-missed, not-latest-at}
use Rattle.order.proofs.Lines.{shuffled_in, InLine, inline-front, inline-rest, inline_across, Lined, lined-whole}
use Rattle.order.proofs.Keys.{puts_over, puts-named, meets, both, looks, found-same, after_push, Writes, Rising, same_writers}

-- the commits of the first n numbers are the first n
picked : (done : List Txn) (n : ℕ) → n ≤ length done → map (nth done) (range_with_len 0 n) ≡ take n done
picked done zero l = refl
picked done (suc n) l =
    ap (λ i. map (nth done) (range_with_len 0 i)) (sym (add-one n))
    ∙ map-range_with_len_more (nth done) 0 n n (omega arith)
    ∙ ap (λ ts. ts ++ (nth done n ∷ [])) (picked done n (omega arith))
    ∙ sym (take_more done n (began Latest 0) (omega arith))
    ∙ ap (λ i. take i done) (add-one n)

rising_asc : (done : List Txn) (k : ℕ) (xs : List ℕ) → Asc xs → Rising done k xs
rising_asc done k [] a = tt
rising_asc done k (x ∷ xs) a = (λ y m f g. omega (arith, a.0 y m), rising_asc done k xs a.1)

rising_line : (done : List Txn) (k : ℕ) (xs : List ℕ) → InLine done xs → Rising done k xs
rising_line done k [] h = tt
rising_line done k (x ∷ xs) h = (λ y m f g. go y m f g (cases_lt y x), rising_line done k xs h.1)
  where
    go : (y : ℕ) → In y xs → Writes done k x → Writes done k y → (y < x) ⊎ (x ≤ y) → x ≤ y
    go y m f g (inr l) = l
    go y m f g (inl l) = clash _ (stands-wrote (commit_at done y) (commit_at done x) l (both k (nth done x).writes (nth done y).writes f g)) (h.0 y m).0

module _ (done : List Txn) (allowed : Allowed done) (moments : OneMoment done) (serials : AllSerial done) where
  whole : Lined done (range_with_len 0 (length done)) (line done)
  whole = lined-whole done allowed serials (length done) (range_with_len 0 (length done)) (length-range_with_len 0 (length done)) (asc-counting 0 (length done)) (λ i m. let r = counting_in 0 (length done) i m in omega arith)

  below : (i : ℕ) → In i (line done) → i < length done
  below i m = let r = counting_in 0 (length done) i (shuffled_in i (range_with_len 0 (length done)) (line done) whole.1 m) in omega arith

  covered : (i : ℕ) → i < length done → In i (line done)
  covered i l = shuffled_in i (line done) (range_with_len 0 (length done)) (IsPermutation-sym _ _ whole.1) (in_counting 0 (length done) i (omega arith) (omega arith))

  -- xs stand before y in the line, ys behind it
  module _ (xs ys : List ℕ) (y : ℕ) (split : xs ++ (y ∷ ys) ≡ line done) where
    inline : InLine done (xs ++ (y ∷ ys))
    inline = subst (InLine done) (sym split) whole.0

    among : (i : ℕ) → In i (xs ++ (y ∷ ys)) → i < length done
    among i m = below i (subst (In i) split m)

    there : y < length done
    there = among y (in_right y xs (y ∷ ys) (inl refl))

    abbrev begin : ℕ
    begin = (nth done y).begin

    -- a key that y looks at stands as it did when y began
    as_begun : (r : Read) → In r (nth done y).reads → (k : ℕ) → r.from ≤ k → k < r.to → names k r.own ≡ false → after empty (map (nth done) xs) k ≡ after empty (take begin done) k
    as_begun r m k a b n =
        same_writers done k xs (range_with_len 0 begin) (rising_line done k xs (inline-front done xs (y ∷ ys) inline)) (rising_asc done k (range_with_len 0 begin) (asc-counting 0 begin)) to back
        ∙ ap (λ ts. after empty ts k) (picked done begin (omega (arith, (allowed y there).1, there)))
      where
        met : (i : ℕ) → Writes done k i → reads_some (nth done y).reads (nth done i).writes ≡ true
        met i w = meets k r (nth done y).reads (nth done i).writes m (looks k r a b n) w

        to : (i : ℕ) → In i xs → Writes done k i → In i (range_with_len 0 begin)
        to i l w =
            let f = inline_across done xs (y ∷ ys) i y inline l (inl refl) in
            ⊎_elim
            (λ h. in_counting 0 begin i (omega arith) (omega arith))
            (λ h. clash _ (stands-missed (commit_at done y) (commit_at done i) f.1 h (met i w)) f.0)
            (cases_lt i begin)

        behind : (i : ℕ) → i < begin → Writes done k i → In i xs ⊎ In i (y ∷ ys) → In i xs
        behind i l w (inl p) = p
        behind i l w (inr (inl e)) = absurd (omega (arith, (allowed y there).1))
        behind i l w (inr (inr p)) =
            let f = (inline-rest done xs (y ∷ ys) inline).0 i p in
            clash _ (stands-seen (commit_at done i) (commit_at done y) f.1 l (met i w)) f.0

        back : (i : ℕ) → In i (range_with_len 0 begin) → Writes done k i → In i xs
        back i p w =
            let l = counting_in 0 begin i p in
            behind i (omega arith) w (in_cases i xs (y ∷ ys) (subst (In i) (sym split) (covered i (omega (arith, (allowed y there).1, there)))))

    answer : (r : Read) → In r (nth done y).reads → answer_in (after empty (map (nth done) xs)) r ≡ answered done r
    answer r m = found-same _ _ r.from (r.to - r.from) (λ k a b. at_key k a (omega arith) (cases_Bool (names k r.own)))
      where
        now : State
        now = after empty (map (nth done) xs)

        then : State
        then = after empty (take r.at done)

        moment : r.at ≡ begin
        moment = all_in (λ (r : Read). r.at ≡ begin) r (nth done y).reads (moments y there (not-latest-at done allowed serials y there)) m

        at_key : (k : ℕ) → r.from ≤ k → k < r.to → (names k r.own ≡ true) ⊎ (names k r.own ≡ false) → puts r.own now k ≡ puts r.own then k
        at_key k a b (inl n) = puts-named k r.own now then n
        at_key k a b (inr n) = puts_over k r.own now then (as_begun r m k a b n ∙ sym (ap (λ c. after empty (take c done) k) moment))

  one_by_one : (ys xs : List ℕ) → xs ++ ys ≡ line done → OneByOne done (after empty (map (nth done) xs)) (map (nth done) ys)
  one_by_one [] xs e = tt
  one_by_one (y ∷ ys) xs e =
      let push = ap (after empty) (map-append (nth done) xs (y ∷ [])) ∙ after_push (map (nth done) xs) (nth done y) empty in (
        map_same _ _ (nth done y).reads (answer xs ys y e),
        subst (λ m. OneByOne done m (map (nth done) ys)) push (one_by_one ys (xs ++ (y ∷ [])) (append_assoc xs (y ∷ []) ys ∙ e)),
      )

  pub serial_order : SerialOrder done (line done)
  unfolding after
  serial_order = record {
    all = whole.1;
    each = one_by_one (line done) [] refl;
    left = λ k.
        same_writers done k (line done) (range_with_len 0 (length done)) (rising_line done k (line done) whole.0) (rising_asc done k _ (asc-counting 0 (length done)))
        (λ i m w. shuffled_in i (range_with_len 0 (length done)) (line done) whole.1 m)
        (λ i m w. let r = counting_in 0 (length done) i m in covered i (omega arith))
        ∙ ap (λ ts. after empty ts k) (picked done (length done) (omega arith) ∙ take_all (length done) done (omega arith));
  }

pub serializable : Serializable
serializable = serial_order
