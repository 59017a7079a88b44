-- Elements of lists, and tests that some element passes.
use Rattle.std.proofs.Common.{◌≡◌, ℕ, zero, suc, ◌+◌, ◌<◌, ◌≤◌, Bool, true, false, cond, not, ◌&&◌, eqb, ◌⊎◌, List, [], ◌∷◌, ◌++◌, map, Some, None, Option, sym, refl, ap, ◌∙◌, subst, inl, inr, ⊎_elim, arith}
use Rattle.std.specs.List.{range_with_len, AllByRecursion}
use Rattle.std.specs.List.Sorted.{IsPermutation}
use Rattle.std.proofs.lemmas.List.Sorted.{IsPermutation-refl, IsPermutation-cons, IsPermutation-trans, IsPermutation-swap}
use Rattle.std.proofs.lemmas.Bool.{or_left, or_right, or_from, or_cases, or_parts, both_ways, cases_eq, cond-true, cond-false, eq-eqb, ne_eqb, eqb-false, not-true, not_from_true, not_from_false}
use Rattle.model.specs.Lists.{any, kept}
use Rattle.conflicts.specs.Marks.{lowest}
use Rattle.conflicts.proofs.Firsts.{lowest_step}
use Rattle.order.specs.Order.{without}

abbrev pub In : {A : Type 0} → A → List A → Type 0
In x [] = ⊥
In x (y ∷ ys) = (x ≡ y) ⊎ In x ys

pub clash : {A : Type 0} (b : Bool) → b ≡ true → b ≡ false → A
clash b p q = absurd (both_ways b q p)

module _ {A : Type 0} where
  pub in_left : (x : A) (xs ys : List A) → In x xs → In x (xs ++ ys)
  in_left x [] ys m = absurd m
  in_left x (y ∷ xs) ys (inl e) = inl e
  in_left x (y ∷ xs) ys (inr m) = inr (in_left x xs ys m)

  pub in_right : (x : A) (xs ys : List A) → In x ys → In x (xs ++ ys)
  in_right x [] ys m = m
  in_right x (y ∷ xs) ys m = inr (in_right x xs ys m)

  pub in_cases : (x : A) (xs ys : List A) → In x (xs ++ ys) → In x xs ⊎ In x ys
  in_cases x [] ys m = inr m
  in_cases x (y ∷ xs) ys (inl e) = inl (inl e)
  in_cases x (y ∷ xs) ys (inr m) = go (in_cases x xs ys m)
    where
      go : In x xs ⊎ In x ys → In x (y ∷ xs) ⊎ In x ys
      go (inl n) = inl (inr n)
      go (inr n) = inr n

  pub all_in : (P : A → Type 0) (x : A) (xs : List A) → AllByRecursion P xs → In x xs → P x
  all_in P x [] a m = absurd m
  all_in P x (y ∷ ys) a (inl e) = subst P (sym e) a.0
  all_in P x (y ∷ ys) a (inr m) = all_in P x ys a.1 m

  pub all_from : (P : A → Type 0) (xs : List A) → ((x : A) → In x xs → P x) → AllByRecursion P xs
  all_from P [] h = tt
  all_from P (x ∷ xs) h = (h x (inl refl), all_from P xs (λ y m. h y (inr m)))

  pub map_same : {B : Type 0} (f g : A → B) (xs : List A) → ((x : A) → In x xs → f x ≡ g x) → map f xs ≡ map g xs
  map_same f g [] h = refl
  map_same f g (x ∷ xs) h = let a = h x (inl refl) in let b = map_same f g xs (λ y m. h y (inr m)) in cc

  module _ (p : A → Bool) where
    pub any-from : (x : A) (xs : List A) → In x xs → p x ≡ true → any p xs ≡ true
    any-from x [] m e = absurd m
    any-from x (y ∷ ys) (inl q) e = or_left (p y) (any p ys) (sym (ap p q) ∙ e)
    any-from x (y ∷ ys) (inr m) e = or_right (p y) (any p ys) (any-from x ys m e)

    pub any_some : (xs : List A) → any p xs ≡ true → (x : A) × In x xs × (p x ≡ true)
    any_some [] e = clash false e refl
    any_some (y ∷ ys) e = go (or_cases (p y) (any p ys) e) (any_some ys)
      where
        go : (p y ≡ true) ⊎ (any p ys ≡ true) → (any p ys ≡ true → (x : A) × In x ys × (p x ≡ true)) → (x : A) × In x (y ∷ ys) × (p x ≡ true)
        go (inl h) ih = (y, inl refl, h)
        go (inr h) ih = let r = ih h in (r.0, inr r.1, r.2)

    pub any_none : (x : A) (xs : List A) → In x xs → any p xs ≡ false → p x ≡ false
    any_none x [] m e = absurd m
    any_none x (y ∷ ys) (inl q) e = ap p q ∙ (or_parts (p y) (any p ys) e).0
    any_none x (y ∷ ys) (inr m) e = any_none x ys m (or_parts (p y) (any p ys) e).1

    pub none_any : (xs : List A) → ((x : A) → In x xs → p x ≡ false) → any p xs ≡ false
    none_any [] h = refl
    none_any (x ∷ xs) h = or_from (p x) (any p xs) (h x (inl refl)) (none_any xs (λ y m. h y (inr m)))

    pub in_kept : (x : A) (xs : List A) → In x (kept p xs) → In x xs × (p x ≡ true)
    in_kept x [] m = absurd m
    in_kept x (y ∷ ys) m = go (p y) refl m (in_kept x ys)
      where
        go : (b : Bool) → p y ≡ b → In x (cond b (y ∷ kept p ys) (kept p ys)) → (In x (kept p ys) → In x ys × (p x ≡ true)) → In x (y ∷ ys) × (p x ≡ true)
        go true h (inl e) ih = (inl e, ap p e ∙ h)
        go true h (inr n) ih = let r = ih n in (inr r.0, r.1)
        go false h n ih = let r = ih n in (inr r.0, r.1)

    pub kept_in : (x : A) (xs : List A) → In x xs → p x ≡ true → In x (kept p xs)
    kept_in x [] m e = absurd m
    kept_in x (y ∷ ys) m e = go (p y) refl m (λ n. kept_in x ys n e)
      where
        go : (b : Bool) → p y ≡ b → In x (y ∷ ys) → (In x ys → In x (kept p ys)) → In x (cond b (y ∷ kept p ys) (kept p ys))
        go true h (inl q) ih = inl q
        go true h (inr n) ih = inr (ih n)
        go false h (inl q) ih = clash (p y) (sym (ap p q) ∙ e) h
        go false h (inr n) ih = ih n

    pub kept-all : (xs : List A) → ((x : A) → In x xs → p x ≡ true) → kept p xs ≡ xs
    kept-all [] h = refl
    kept-all (x ∷ xs) h = cond-true (p x) (x ∷ kept p xs) (kept p xs) (h x (inl refl)) ∙ ap (λ l. x ∷ l) (kept-all xs (λ y m. h y (inr m)))

    -- those of them that pass another test too
    pub kept-kept : (q r : A → Bool) → ((x : A) → r x ≡ (q x && p x)) → (xs : List A) → kept p (kept q xs) ≡ kept r xs
    kept-kept q r h [] = refl
    kept-kept q r h (x ∷ xs) = go (q x) refl (kept-kept q r h xs)
      where
        go : (b : Bool) → q x ≡ b → kept p (kept q xs) ≡ kept r xs → kept p (cond b (x ∷ kept q xs) (kept q xs)) ≡ cond (r x) (x ∷ kept r xs) (kept r xs)
        go true e ih = ap (λ l. cond (p x) (x ∷ l) l) ih ∙ ap (λ b. cond b (x ∷ kept r xs) (kept r xs)) (sym (h x ∙ ap (λ b. b && p x) e))
        go false e ih = ih ∙ ap (λ b. cond b (x ∷ kept r xs) (kept r xs)) (sym (h x ∙ ap (λ b. b && p x) e))

-- rising numbers
abbrev pub Asc : List ℕ → Type 0
Asc [] = Unit {0}
Asc (x ∷ xs) = ((y : ℕ) → In y xs → x < y) × Asc xs

pub asc-kept : (p : ℕ → Bool) (xs : List ℕ) → Asc xs → Asc (kept p xs)
asc-kept p [] a = tt
asc-kept p (x ∷ xs) a = go (p x) (asc-kept p xs a.1)
  where
    go : (b : Bool) → Asc (kept p xs) → Asc (cond b (x ∷ kept p xs) (kept p xs))
    go true ih = (λ y m. a.0 y (in_kept p y xs m).0, ih)
    go false ih = ih

abbrev another : ℕ → ℕ → Bool
another i j = not (eqb j i)

pub in_without : (i j : ℕ) (xs : List ℕ) → In j (without i xs) → In j xs × (j ≡ i → ⊥)
in_without i j xs m = let r = in_kept (another i) j xs m in (r.0, eqb-false j i (not-true (eqb j i) r.1))

-- one that is taken out, and then the others
pub to_front : (i : ℕ) (xs : List ℕ) → Asc xs → In i xs → IsPermutation xs (i ∷ without i xs)
to_front i [] a m = absurd m
to_front i (x ∷ xs) a (inl e) =
    let self : another i x ≡ false = not_from_true (eqb x i) (eq-eqb x i (sym e)) in
    let rest : without i (x ∷ xs) ≡ xs =
    cond-false (another i x) (x ∷ without i xs) (without i xs) self
    ∙ kept-all (another i) xs (λ y m. not_from_false (eqb y i) (ne_eqb y i (λ q. omega (arith, a.0 y m)))) in
    subst (IsPermutation (x ∷ xs)) (ap (λ y. y ∷ xs) (sym e) ∙ ap (λ l. i ∷ l) (sym rest)) (IsPermutation-refl (x ∷ xs))
to_front i (x ∷ xs) a (inr m) =
    let ys = without i xs in
    let other : another i x ≡ true = not_from_false (eqb x i) (ne_eqb x i (λ q. omega (arith, a.0 i m))) in
    let rest : without i (x ∷ xs) ≡ x ∷ ys = cond-true (another i x) (x ∷ ys) ys other in
    subst (λ l. IsPermutation (x ∷ xs) (i ∷ l)) (sym rest)
    (IsPermutation-trans (x ∷ xs) (x ∷ i ∷ ys) (i ∷ x ∷ ys)
    (IsPermutation-cons x xs (i ∷ ys) (to_front i xs a.1 m))
    (IsPermutation-swap (x ∷ i ∷ ys) (i ∷ x ∷ ys) 0 1 (omega arith) (omega arith) refl))

-- the lowest that passes a test
module _ (p : ℕ → Bool) where
  abbrev low : List ℕ → Option ℕ
  low xs = lowest (λ i. i) p xs

  pub low_is : (i : ℕ) (xs : List ℕ) → Asc xs → In i xs → p i ≡ true → ((j : ℕ) → In j xs → j < i → p j ≡ false) → low xs ≡ Some i
  low_is i [] a m e h = absurd m
  low_is i (x ∷ xs) a (inl q) e h = lowest_step (λ i. i) p x xs ∙ cond-true (p x) (Some x) (low xs) (sym (ap p q) ∙ e) ∙ ap (λ j. Some j) (sym q)
  low_is i (x ∷ xs) a (inr m) e h = lowest_step (λ i. i) p x xs ∙ cond-false (p x) (Some x) (low xs) (h x (inl refl) (a.0 i m)) ∙ low_is i xs a.1 m e (λ j n l. h j (inr n) l)

  pub low-none : (xs : List ℕ) → ((j : ℕ) → In j xs → p j ≡ false) → low xs ≡ None
  low-none [] h = refl
  low-none (x ∷ xs) h = lowest_step (λ i. i) p x xs ∙ cond-false (p x) (Some x) (low xs) (h x (inl refl)) ∙ low-none xs (λ j n. h j (inr n))

  -- where one passes there is a lowest
  pub low_some : (x : ℕ) (xs : List ℕ) → In x xs → p x ≡ true → (i : ℕ) × In i xs × (p i ≡ true) × (low xs ≡ Some i)
  low_some x [] m e = absurd m
  low_some x (y ∷ ys) m e = let r = go (p y) refl m (λ n. low_some x ys n e) in (r.0, r.1, r.2, lowest_step (λ i. i) p y ys ∙ r.3)
    where
      go : (b : Bool) → p y ≡ b → In x (y ∷ ys) → (In x ys → (i : ℕ) × In i ys × (p i ≡ true) × (low ys ≡ Some i)) → (i : ℕ) × In i (y ∷ ys) × (p i ≡ true) × (cond b (Some y) (low ys) ≡ Some i)
      go true h n ih = (y, inl refl, h, refl)
      go false h (inl q) ih = clash (p y) (sym (ap p q) ∙ e) h
      go false h (inr n) ih = let r = ih n in (r.0, inr r.1, r.2, r.3)

  -- the lowest is one of them
  pub low_in : (i : ℕ) (xs : List ℕ) → low xs ≡ Some i → In i xs
  low_in i [] e = let z : ◌≡◌ {A = ℕ} 0 1 = cc in absurd (omega arith)
  low_in i (x ∷ xs) e = go (p x) (sym (lowest_step (λ i. i) p x xs) ∙ e) (low_in i xs)
    where
      go : (b : Bool) → cond b (Some x) (low xs) ≡ Some i → (low xs ≡ Some i → In i xs) → In i (x ∷ xs)
      go true h ih = inl cc
      go false h ih = inr (ih h)

pub in_counting : (a n i : ℕ) → a ≤ i → i < a + n → In i (range_with_len a n)
in_counting a zero i l h = absurd (omega arith)
in_counting a (suc n) i l h = ⊎_elim (λ e. inl e) (λ e. inr (in_counting (a + 1) n i (omega arith) (omega arith))) (cases_eq i a)

pub counting_in : (a n i : ℕ) → In i (range_with_len a n) → (a ≤ i) × (i < a + n)
counting_in a zero i m = absurd m
counting_in a (suc n) i (inl e) = (omega arith, omega arith)
counting_in a (suc n) i (inr m) = let r = counting_in (a + 1) n i m in (omega arith, omega arith)

pub asc-counting : (a n : ℕ) → Asc (range_with_len a n)
asc-counting a zero = tt
asc-counting a (suc n) = (λ y m. let r = counting_in (a + 1) n y m in omega arith, asc-counting (a + 1) n)
