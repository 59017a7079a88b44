-- Those in front whose numbers are below a begin: who began there saw them, and they do not count.
use Rattle.std.proofs.Common.{◌≡◌, ℕ, zero, suc, ◌-◌, ◌<◌, ◌≤◌, Bool, true, false, ltb, cond, ◌&&◌, ◌||◌, List, [], ◌∷◌, ◌++◌, map, length, get_or, take, drop, is_some, unwrap_or, reverse, Some, None, sym, refl, ap, ◌∙◌, subst, arith}
use borrow.Rule.Slice.PartMut.{put_mid}
use Rattle.std.specs.List.{AllWithin, position, position_or_len}
use Rattle.std.specs.List.Sorted.{IsNonDecreasingBy}
use Rattle.std.proofs.lemmas.List.{drop-map, map_push, map-append, get_or-map, length-map, take_rest, drop_all, append-nil, length-drop, length-reverse, get_or-reverse}
use Rattle.std.proofs.lemmas.List.Sums.{fails_before_first, passes_at_first}
use Rattle.std.proofs.lemmas.Simd.{map-map}
use Rattle.std.proofs.lemmas.List.Sorted.{IsNonDecreasingBy-drop}
use Rattle.std.proofs.lemmas.Bool.{lt-leb, lt-ltb, ltb-true, ltb-false}
use Rattle.model.specs.Lists.{any}
use Rattle.model.specs.Transactions.{Txn, reads_some}
use Rattle.conflicts.specs.declared.window.Committed.{Committed}
use Rattle.conflicts.specs.Marks.{Mark, lowest, since, mark_of, mark_number, is_passed, is_passing, turns, would_pivot, remarked, new_mark, taken_in}
use Rattle.conflicts.specs.Rising.{number_of, Rise, FrontBelow, RestFrom}
use Rattle.conflicts.proofs.Bools.{since-not}
use Rattle.conflicts.proofs.Firsts.{some_lowest, lowest_step}

-- the numbers of what is held rise with it
pub rises_by : (cs : List Committed) → Rise (map number_of cs) → IsNonDecreasingBy number_of cs
rises_by cs up i j d l m =
    let a = up i j 0 l (omega (arith, length-map cs number_of)) in
    omega (arith, get_or-map number_of cs i d 0 (omega arith), get_or-map number_of cs j d 0 m)

pub last_number : (cs : List Committed) (n : ℕ) → ((c : Committed) → 0 < length cs → (get_or cs (length cs - 1) c).number ≤ n) → (d : ℕ) → 0 < length (map number_of cs) → get_or (map number_of cs) (length (map number_of cs) - 1) d ≤ n
last_number [] n h d l = absurd (omega arith)
last_number (c ∷ cs) n h d l =
    let k : length (map number_of (c ∷ cs)) ≡ length (c ∷ cs) = length-map (c ∷ cs) number_of in
    omega (arith, ap (λ i. get_or (map number_of (c ∷ cs)) (i - 1) d) k, get_or-map number_of (c ∷ cs) (length (c ∷ cs) - 1) c d (omega arith), h c (omega arith))

pub rise_drop : (cs : List Committed) (i : ℕ) → Rise (map number_of cs) → Rise (map number_of (drop i cs))
rise_drop cs i up = subst Rise (drop-map number_of i cs) (IsNonDecreasingBy-drop (λ n. n) i (map number_of cs) up)

pub front_below : (b : ℕ) (cs : List Committed) (r : ℕ) → AllWithin (λ (c : Committed). ltb c.number b ≡ true) cs 0 r → FrontBelow b r cs
front_below b cs zero h = tt
front_below b [] (suc r) h = tt
front_below b (c ∷ cs) (suc r) h = (ltb-true c.number b (h 0 c (omega arith) (omega arith)), front_below b cs r (λ k d l m. h (suc k) d (omega arith) (omega arith)))

-- the last with a number below b, looked for from the end, parts those below b from the others
module _ (b : ℕ) (cs : List Committed) where
  abbrev below : Committed → Bool
  below c = ltb c.number b

  abbrev behind : ℕ
  behind = position_or_len (λ (c : Committed). ltb c.number b) (reverse cs)

  counted : (x : Bool) → ltb behind (length (reverse cs)) ≡ x → length cs - unwrap_or (cond x (Some behind) None) (length cs) ≡ length cs - behind
  counted true e = refl
  counted false e = omega (arith, ltb-false behind (length (reverse cs)) e, length-reverse cs)

  counted_back : length cs - unwrap_or (position below (reverse cs)) (length cs) ≡ length cs - behind
  counted_back = counted (ltb behind (length (reverse cs))) refl

  seen_front : IsNonDecreasingBy number_of cs → FrontBelow b (length cs - behind) cs
  seen_front up =
      front_below b cs (length cs - behind) (λ i d l m.
      let here = passes_at_first below (reverse cs) d (omega (arith, length-reverse cs)) in
      let last = ltb-true (number_of (get_or (reverse cs) behind d)) b here in
      let same = ap number_of (get_or-reverse cs behind d (omega arith)) in
      lt-ltb (number_of (get_or cs i d)) b (omega (arith, last, same, up i (length cs - 1 - behind) d (omega arith) (omega arith))))

  unseen_rest : RestFrom b (length cs - behind) cs
  unseen_rest i d l m =
      let j = length cs - 1 - i in
      let e : length cs - 1 - j ≡ i = omega arith in
      let there = fails_before_first below (reverse cs) j d (omega arith) in
      let same = ap number_of (get_or-reverse cs j d (omega arith) ∙ ap (λ k. get_or cs k d) e) in
      subst (λ n. b ≤ n) same (ltb-false (number_of (get_or (reverse cs) j d)) b there)

  pub parted_back : IsNonDecreasingBy number_of cs → (r : ℕ) → r ≡ length cs - unwrap_or (position (λ c. ltb c.number b) (reverse cs)) (length cs) → (r ≤ length cs) × FrontBelow b r cs × RestFrom b r cs
  parted_back up r e =
      let at : r ≡ length cs - behind = e ∙ counted_back in
      (omega arith, subst (λ k. FrontBelow b k cs) (sym at) (seen_front up), subst (λ k. RestFrom b k cs) (sym at) unseen_rest)

module _ (t : Txn) (m : Mark) (l : m.number < t.begin) where
  not-passed : is_passed t m ≡ false
  not-passed = ap (λ z. z && reads_some t.reads m.writes) (lt-leb t.begin m.number l)

  not-passing : is_passing t m ≡ false
  not-passing = ap (λ z. z && reads_some m.reads t.writes) (lt-leb t.begin m.number l)

  not-turned : turns t m ≡ false
  not-turned =
      ap (λ z. (z && (is_some m.out || is_passing t m)) || (is_passing t m && is_some m.into)) not-passed
      ∙ ap (λ z. z && is_some m.into) not-passing

  as_it_was : (n : ℕ) → remarked t n m ≡ m
  as_it_was n =
      let o : since m.out (is_passing t m) n ≡ m.out = ap (λ z. since m.out z n) not-passing ∙ since-not m.out n in
      let i : since m.into (is_passed t m) n ≡ m.into = ap (λ z. since m.into z n) not-passed ∙ since-not m.into n in
      ap (λ z. record { number = m.number; reads = m.reads; writes = m.writes; out = z; into = since m.into (is_passed t m) n }) o
      ∙ ap (λ z. record { number = m.number; reads = m.reads; writes = m.writes; out = m.out; into = z }) i

module _ (b : ℕ) where
  -- a test that none below b passes
  lowest-behind : (num : Mark → ℕ) (p : Mark → Bool) → ((m : Mark) → m.number < b → p m ≡ false) → (cs : List Committed) (r : ℕ) → FrontBelow b r cs →
      lowest num p (map mark_of cs) ≡ lowest num p (map mark_of (drop r cs))
  lowest-behind num p h cs zero a = refl
  lowest-behind num p h [] (suc r) a = refl
  lowest-behind num p h (c ∷ cs) (suc r) a =
      lowest_step num p (mark_of c) (map mark_of cs) ∙ ap (λ z. cond z (Some (num (mark_of c))) (lowest num p (map mark_of cs))) (h (mark_of c) a.0) ∙ lowest-behind num p h cs r a.1

  any-behind : (p : Mark → Bool) → ((m : Mark) → m.number < b → p m ≡ false) → (cs : List Committed) (r : ℕ) → FrontBelow b r cs →
      any p (map mark_of cs) ≡ any p (map mark_of (drop r cs))
  any-behind p h cs r a =
      sym (some_lowest (λ _. 0) p (map mark_of cs)) ∙ ap is_some (lowest-behind (λ _. 0) p h cs r a) ∙ some_lowest (λ _. 0) p (map mark_of (drop r cs))

  -- a change that leaves those below b as they are
  map-behind : (g : Mark → Mark) → ((m : Mark) → m.number < b → g m ≡ m) → (cs : List Committed) (r : ℕ) → FrontBelow b r cs →
      map g (map mark_of cs) ≡ map mark_of (take r cs) ++ map g (map mark_of (drop r cs))
  map-behind g h cs zero a = refl
  map-behind g h [] (suc r) a = refl
  map-behind g h (c ∷ cs) (suc r) a =
      ap (λ z. z ∷ map g (map mark_of cs)) (h (mark_of c) a.0) ∙ ap (λ l. mark_of c ∷ l) (map-behind g h cs r a.1)

module _ (t : Txn) (cs : List Committed) (r : ℕ) (a : FrontBelow t.begin r cs) where
  passed-behind : lowest mark_number (is_passed t) (map mark_of cs) ≡ lowest mark_number (is_passed t) (map mark_of (drop r cs))
  passed-behind = lowest-behind t.begin mark_number (is_passed t) (not-passed t) cs r a

  passing-behind : lowest mark_number (is_passing t) (map mark_of cs) ≡ lowest mark_number (is_passing t) (map mark_of (drop r cs))
  passing-behind = lowest-behind t.begin mark_number (is_passing t) (not-passing t) cs r a

  pub pivot_behind : would_pivot t (map mark_of cs) ≡ would_pivot t (map mark_of (drop r cs))
  pivot_behind =
      let w = any-behind t.begin (turns t) (not-turned t) cs r a in
      let o = passed-behind in
      let i = passing-behind in cc

  mark_behind : (n : ℕ) → new_mark t n (map mark_of cs) ≡ new_mark t n (map mark_of (drop r cs))
  mark_behind n =
      let o = passed-behind in
      let i = passing-behind in cc

  -- the part behind as it is once t is taken in, and t
  pub taken-behind : (n : ℕ) (ys : List Committed) (x : Committed) → map mark_of ys ≡ map (remarked t n) (map mark_of (drop r cs)) → mark_of x ≡ new_mark t n (map mark_of (drop r cs)) →
      map mark_of ((take r cs ++ ys) ++ (x ∷ [])) ≡ taken_in t n (map mark_of cs)
  taken-behind n ys x e h =
      map_push mark_of (take r cs ++ ys) x
      ∙ ap (λ l. l ++ (mark_of x ∷ [])) (map-append mark_of (take r cs) ys ∙ ap (λ l. map mark_of (take r cs) ++ l) e ∙ sym (map-behind t.begin (remarked t n) (λ m l. as_it_was t m l n) cs r a))
      ∙ ap (λ m. map (remarked t n) (map mark_of cs) ++ (m ∷ [])) (h ∙ sym (mark_behind n))

-- the numbers once t is taken in
numbers-remarked : (t : Txn) (n : ℕ) (ms : List Mark) → map mark_number (map (remarked t n) ms) ≡ map mark_number ms
numbers-remarked t n [] = refl
numbers-remarked t n (m ∷ ms) = ap (λ l. m.number ∷ l) (numbers-remarked t n ms)

pub numbers-taken : (t : Txn) (n : ℕ) (cs ds : List Committed) → map mark_of ds ≡ taken_in t n (map mark_of cs) → map number_of ds ≡ map number_of cs ++ (n ∷ [])
numbers-taken t n cs ds e =
    let ms = map mark_of cs in
    sym (map-map mark_number mark_of ds) ∙ ap (map mark_number) e ∙ map_push mark_number (map (remarked t n) ms) (new_mark t n ms)
    ∙ ap (λ l. l ++ (n ∷ [])) (numbers-remarked t n ms ∙ map-map mark_number mark_of cs)

-- the part from place r on, lent
module _ {X : Type 0} (ds cs : List X) (r : ℕ) (e : ds ≡ cs) where
  pub part_is : take (length ds - r) (drop r ds) ≡ drop r cs
  part_is = take_rest ds r ∙ ap (drop r) e

  pub part-back : (ys : List X) → put_mid r (length ds - r) ds ys ≡ take r cs ++ ys
  part-back ys =
      ap (λ l. take r ds ++ (ys ++ l)) (drop_all (length ds - r) (drop r ds) (omega (arith, length-drop r ds))) ∙ ap (λ l. take r ds ++ l) (append-nil ys) ∙ ap (λ l. take r l ++ ys) e
