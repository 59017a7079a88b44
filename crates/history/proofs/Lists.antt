-- Members of a list, its places, and slots that are set.
use Rattle.std.proofs.Common.{◌≡◌, ℕ, zero, suc, ◌<◌, ◌⊎◌, List, [], ◌∷◌, map, length, get_or, set, replicate, Some, None, Option, sym, refl, inl, inr, arith}
use mathlib.Core.List.{Memᴰ}
use Rattle.std.specs.List.{AllByRecursion}

pub map_same : {X Y : Type 0} (f g : X → Y) (xs : List X) → ((x : X) → Memᴰ x xs → f x ≡ g x) → map f xs ≡ map g xs
map_same f g [] h = refl
map_same f g (x ∷ xs) h =
    let a = h x (Memᴰ.head refl) in
    let b = map_same f g xs (λ y m. h y (Memᴰ.tail m)) in
    cc

pub all_members : {X : Type 0} (P : X → Type 0) (xs : List X) → ((x : X) → Memᴰ x xs → P x) → AllByRecursion P xs
all_members P [] h = tt
all_members P (x ∷ xs) h = (h x (Memᴰ.head refl), all_members P xs (λ y m. h y (Memᴰ.tail m)))

pub place_of : {X : Type 0} {x : X} {xs : List X} (d : X) → Memᴰ x xs → (i : ℕ) × (i < length xs) × (get_or xs i d ≡ x)
place_of d (Memᴰ.head e) = (0, omega arith, sym e)
place_of d (Memᴰ.tail m) = let r = place_of d m in (suc r.0, omega (arith, r.1), r.2)

-- what is there after a place was set was put there now, or was there before
pub set_cases : {X : Type 0} (xs : List (Option X)) (i j : ℕ) (o : Option X) (x : X) → get_or (set xs i o) j None ≡ Some x → (o ≡ Some x) ⊎ (get_or xs j None ≡ Some x)
set_cases [] i j o x h = inr h
set_cases (y ∷ ys) zero zero o x h = inl h
set_cases (y ∷ ys) zero (suc j) o x h = inr h
set_cases (y ∷ ys) (suc i) zero o x h = inr h
set_cases (y ∷ ys) (suc i) (suc j) o x h = set_cases ys i j o x h

pub none-there : {X : Type 0} (n j : ℕ) → get_or {A = Option X} (replicate n None) j None ≡ None
none-there zero j = refl
none-there (suc n) zero = refl
none-there (suc n) (suc j) = none-there n j

pub none_or_some : {X : Type 0} (P : Option X → Type 0) → P None → ((x : X) → P (Some x)) → (o : Option X) → P o
none_or_some P n s None = n
none_or_some P n s (Some x) = s x

pub none_some : {X : Type 0} {x : X} → None ≡ Some x → ⊥
none_some h = let z : ◌≡◌ {A = ℕ} 0 1 = cc in omega arith

-- what holds of all that were there and of what is put in place i holds of all that are there then
pub set_all : {X : Type 0} (P : X → Type 0) (xs : List (Option X)) (i : ℕ) (o : Option X) →
    ((j : ℕ) (x : X) → get_or xs j None ≡ Some x → P x) → ((x : X) → o ≡ Some x → P x) → (j : ℕ) (x : X) → get_or (set xs i o) j None ≡ Some x → P x
set_all P xs i o old new j x h = go (set_cases xs i j o x h)
  where
    go : (o ≡ Some x) ⊎ (get_or xs j None ≡ Some x) → P x
    go (inl e) = new x e
    go (inr e) = old j x e
