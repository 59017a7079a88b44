-- Lists: some element that passes a test, the first one, and those that are kept.
use Rattle.std.proofs.Common.{◌≡◌, ℕ, Bool, true, false, cond, ◌||◌, List, [], ◌∷◌, ◌++◌, map, option_map, is_some, Some, None, Option, sym, refl, ap, ◌∙◌}
use Rattle.std.specs.List.{AllByRecursion, find}
use Rattle.std.specs.Option.{option_or}
use Rattle.std.proofs.lemmas.List.Folds.{find-append, list_any-append}
use Rattle.std.proofs.lemmas.Bool.{or_parts}
use Rattle.model.specs.Lists.{any, kept}
use Rattle.conflicts.specs.Marks.{lowest, since}
use Rattle.std.proofs.Math.Bool.{or-false}

module _ {X : Type 0} where
  pub any_push : (p : X → Bool) (xs : List X) (x : X) → any p (xs ++ (x ∷ [])) ≡ (any p xs || p x)
  any_push p xs x = list_any-append p xs (x ∷ []) ∙ ap (λ b. any p xs || b) (or-false (p x))

  pub lowest_push : (num : X → ℕ) (p : X → Bool) (xs : List X) (x : X) → lowest num p (xs ++ (x ∷ [])) ≡ since (lowest num p xs) (p x) (num x)
  lowest_push num p xs x = ap (option_map num) (find-append p xs (x ∷ [])) ∙ go (find p xs) (p x)
    where
      go : (o : Option X) (b : Bool) → option_map num (option_or o (cond b (Some x) None)) ≡ since (option_map num o) b (num x)
      go (Some y) b = refl
      go None true = refl
      go None false = refl

  pub lowest_step : (num : X → ℕ) (p : X → Bool) (x : X) (xs : List X) → lowest num p (x ∷ xs) ≡ cond (p x) (Some (num x)) (lowest num p xs)
  lowest_step num p x xs = go (p x)
    where
      go : (b : Bool) → option_map num (cond b (Some x) (find p xs)) ≡ cond b (Some (num x)) (lowest num p xs)
      go true = refl
      go false = refl

  pub some_lowest : (num : X → ℕ) (p : X → Bool) (xs : List X) → is_some (lowest num p xs) ≡ any p xs
  some_lowest num p [] = refl
  some_lowest num p (x ∷ xs) = ap is_some (lowest_step num p x xs) ∙ go (p x) (some_lowest num p xs)
    where
      go : (b : Bool) → is_some (lowest num p xs) ≡ any p xs → is_some (cond b (Some (num x)) (lowest num p xs)) ≡ (b || any p xs)
      go true ih = refl
      go false ih = ih

  pub none_passes : (p : X → Bool) (xs : List X) → any p xs ≡ false → AllByRecursion (λ x. p x ≡ false) xs
  none_passes p [] e = tt
  none_passes p (x ∷ xs) e = let w = or_parts (p x) (any p xs) e in (w.0, none_passes p xs w.1)

  pub all_both : (P Q : X → Type 0) (xs : List X) → AllByRecursion P xs → AllByRecursion Q xs → AllByRecursion (λ x. P x × Q x) xs
  all_both P Q [] a b = tt
  all_both P Q (x ∷ xs) a b = ((a.0, b.0), all_both P Q xs a.1 b.1)

  pub any_same : (P : X → Type 0) (p q : X → Bool) → ((x : X) → P x → p x ≡ q x) → (xs : List X) → AllByRecursion P xs → any p xs ≡ any q xs
  any_same P p q h [] a = refl
  any_same P p q h (x ∷ xs) a = ap (λ b. b || any p xs) (h x a.0) ∙ ap (λ b. q x || b) (any_same P p q h xs a.1)

  pub any-nobody : (p : X → Bool) → ((x : X) → p x ≡ false) → (xs : List X) → any p xs ≡ false
  any-nobody p h [] = refl
  any-nobody p h (x ∷ xs) = ap (λ b. b || any p xs) (h x) ∙ any-nobody p h xs

module _ {X Y : Type 0} (s : X → Bool) (P : X → Type 0) where
  -- those that are kept, seen through two functions that agree on them
  pub map-kept : (g h : X → Y) → ((x : X) → P x → s x ≡ true → g x ≡ h x) → (xs : List X) → AllByRecursion P xs → map g (kept s xs) ≡ map h (kept s xs)
  map-kept g h e [] a = refl
  map-kept g h e (x ∷ xs) a = go (s x) refl (map-kept g h e xs a.1)
    where
      go : (b : Bool) → s x ≡ b → map g (kept s xs) ≡ map h (kept s xs) → map g (cond b (x ∷ kept s xs) (kept s xs)) ≡ map h (cond b (x ∷ kept s xs) (kept s xs))
      go true k ih = let z = e x a.0 k in cc
      go false k ih = ih

  -- a test that only those pass that are kept, seen through g as the test q
  module _ (g : X → Y) (p : X → Bool) (q : Y → Bool) (there : (x : X) → P x → s x ≡ true → p x ≡ q (g x)) (gone : (x : X) → P x → s x ≡ false → p x ≡ false) where
    pub lowest-kept : (num : X → ℕ) (num' : Y → ℕ) → ((x : X) → num x ≡ num' (g x)) → (xs : List X) → AllByRecursion P xs → lowest num p xs ≡ lowest num' q (map g (kept s xs))
    lowest-kept num num' n [] a = refl
    lowest-kept num num' n (x ∷ xs) a = lowest_step num p x xs ∙ go (s x) refl (lowest-kept num num' n xs a.1)
      where
        go : (b : Bool) → s x ≡ b → lowest num p xs ≡ lowest num' q (map g (kept s xs)) → cond (p x) (Some (num x)) (lowest num p xs) ≡ lowest num' q (map g (cond b (x ∷ kept s xs) (kept s xs)))
        go true k ih =
            ap (λ b. cond b (Some (num x)) (lowest num p xs)) (there x a.0 k) ∙ ap (λ m. cond (q (g x)) (Some m) (lowest num p xs)) (n x)
            ∙ ap (λ l. cond (q (g x)) (Some (num' (g x))) l) ih ∙ sym (lowest_step num' q (g x) (map g (kept s xs)))
        go false k ih = ap (λ b. cond b (Some (num x)) (lowest num p xs)) (gone x a.0 k) ∙ ih

    pub any-kept : (xs : List X) → AllByRecursion P xs → any p xs ≡ any q (map g (kept s xs))
    any-kept xs a =
        sym (some_lowest (λ _. 0) p xs) ∙ ap is_some (lowest-kept (λ _. 0) (λ _. 0) (λ _. refl) xs a) ∙ some_lowest (λ _. 0) q (map g (kept s xs))
