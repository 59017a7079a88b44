-- Loops over what is kept, seen as marks.
use Rattle.std.proofs.Common.{◌≡◌, ℕ, ◌+◌, ◌-◌, ◌<◌, ◌≤◌, Bool, true, false, not, cond, leb, List, [], ◌∷◌, ◌++◌, map, length, get_or, take, drop, set, Some, None, sym, refl, ap, ◌∙◌, option_map, unwrap_or, Option, ⊎_elim, one-add, arith}
use Rattle.std.specs.List.{position, position_or_len, find}
use Rattle.std.proofs.lemmas.List.{length-map, map-set, get_or-map, take_all, drop_all, append-nil, take_at, length-drop}
use Rattle.std.proofs.lemmas.List.Edits.{map_over_more}
use Rattle.std.proofs.lemmas.List.Sums.{prefix_len-le-length}
use Rattle.std.proofs.lemmas.Bool.{lt-ltb, le-ltb, lt-leb, le-leb, cases_lt}
use Rattle.conflicts.specs.Marks.{Mark, lowest, from_floor}

found_at : {S R : Type 0} (f : S → R) (ss : List S) (i : ℕ) (x a : S) → i < length ss → x ≡ get_or ss i a → (d : R) → get_or (map f ss) i d ≡ f x
found_at f ss i x a l e d = get_or-map f ss i a d l ∙ ap f (sym e)

-- a loop that changes each in turn: xs before it, ys now
module _ {X Y : Type 0} (f : X → Y) (g : Y → Y) (xs ys : List X) (i : ℕ) (inv : map f ys ≡ map g (take i (map f xs)) ++ drop i (map f xs)) where
  pub over_more : (x y a : X) → i < length xs → length ys ≡ length xs → x ≡ get_or ys i a → f y ≡ g (f x) → map f (set ys i y) ≡ map g (take (i + 1) (map f xs)) ++ drop (i + 1) (map f xs)
  over_more x y a l n e h =
      let l' : i < length (map f xs) = rw length-map l in
      let m : i < length ys = omega arith in
      map-set f ys i y ∙ ap (set (map f ys) i) h ∙ map_over_more g (map f xs) (map f ys) i (f x) l' inv (sym (found_at f ys i x a m e (f x)))

  pub over_all : length xs ≤ i → map f ys ≡ map g (map f xs)
  over_all l =
      let m : length (map f xs) ≤ i = rw length-map l in
      let a = take_all i (map f xs) m in
      let b = drop_all i (map f xs) m in
      let d = append-nil (map g (map f xs)) in cc

-- the place of the first that passes, or how many there are
place_is : {X : Type 0} (p : X → Bool) (xs : List X) → unwrap_or (position p xs) (length xs) ≡ position_or_len p xs
place_is p xs =
    let n = position_or_len p xs in
    let l = prefix_len-le-length (λ x. not (p x)) xs in
    ⊎_elim
    (λ m. ap (λ b. unwrap_or (cond b (Some n) None) (length xs)) (lt-ltb n (length xs) m))
    (λ m. ap (λ b. unwrap_or (cond b (Some n) None) (length xs)) (le-ltb n (length xs) m) ∙ (omega arith))
    (cases_lt n (length xs))

-- those from the floor on stand behind as many as are below it at the front
from_place : {X : Type 0} (h : X → Mark) (f : ℕ) (xs : List X) → from_floor f (map h xs) ≡ map h (drop (position_or_len (λ x. leb f (h x).number) xs) xs)
unfolding from_floor
from_place h f [] = refl
from_place {X = X} h f (x ∷ xs) =
    ⊎_elim
    (λ l.
    ap (λ z. cond z (from_floor f (map h xs)) (h x ∷ map h xs)) (lt-ltb (h x).number f l) ∙ from_place h f xs
    ∙ sym (ap (λ n. map h (drop n (x ∷ xs))) (ap (λ z. cond (not z) (1 + there) 0) (lt-leb f (h x).number l) ∙ one-add there)))
    (λ l.
    ap (λ z. cond z (from_floor f (map h xs)) (h x ∷ map h xs)) (le-ltb (h x).number f l)
    ∙ sym (ap (λ z. map h (drop (cond (not z) (1 + there) 0) (x ∷ xs))) (le-leb f (h x).number l)))
    (cases_lt (h x).number f)
  where
    there : ℕ
    there = position_or_len (λ x. leb f (h x).number) xs

pub from_first : {X : Type 0} (h : X → Mark) (f : ℕ) (xs : List X) → from_floor f (map h xs) ≡ map h (drop (unwrap_or (position (λ x. leb f (h x).number) xs) (length xs)) xs)
from_first h f xs = from_place h f xs ∙ sym (ap (λ n. map h (drop n xs)) (place_is (λ x. leb f (h x).number) xs))

pub map_both : {X Y Z : Type 0} (g : Y → Z) (f : X → Y) (o : Option X) → option_map g (option_map f o) ≡ option_map (λ x. g (f x)) o
map_both g f None = refl
map_both g f (Some x) = refl

-- the first mark that passes a test
module _ {X Y : Type 0} (p : Y → Bool) (f : X → Y) where
  pub find_map : (xs : List X) → find p (map f xs) ≡ option_map f (find (λ x. p (f x)) xs)
  find_map [] = refl
  find_map (x ∷ xs) = go (p (f x)) (find_map xs)
    where
      go : (b : Bool) → find p (map f xs) ≡ option_map f (find (λ x. p (f x)) xs) → cond b (Some (f x)) (find p (map f xs)) ≡ option_map f (cond b (Some x) (find (λ x. p (f x)) xs))
      go true ih = refl
      go false ih = ih

  pub lowest_map : (num : Y → ℕ) (xs : List X) → lowest num p (map f xs) ≡ lowest (λ x. num (f x)) (λ x. p (f x)) xs
  lowest_map num xs = ap (option_map num) (find_map xs) ∙ map_both num f (find (λ x. p (f x)) xs)

-- turned to the left by i and cut behind, the first i are gone
pub cut-front : {X : Type 0} (xs : List X) (i : ℕ) → take (length xs - i) (drop i xs ++ take i xs) ≡ drop i xs
cut-front xs i = take_at (drop i xs) (take i xs) (length xs - i) (length-drop i xs)
