-- Commits are taken one by one by what is marked of each.
use Rattle.std.proofs.Common.{◌≡◌, ℕ, zero, suc, ◌+◌, ◌<◌, ◌≤◌, Bool, true, false, not, ◌&&◌, eqb, ◌⊎◌, List, [], ◌∷◌, ◌++◌, map, length, get_or, set, replicate, vec_items, is_some, is_none, Some, None, Option, sym, refl, ap, ◌∙◌, subst, inl, inr, ⊎_elim, add-zero, add_assoc, one-add, arith, unwrap_or, IfSome, cond, ◌-◌, max}
use Rattle.std.specs.List.{range_with_len, find}
use Rattle.std.proofs.lemmas.List.{append-nil, append_assoc, length-map, length-set, map-set, length-replicate, get_or-replicate, get_or-set_same, get_or-set_other}
use Rattle.std.proofs.Math.Seq.{map-set_same}
use Rattle.std.proofs.lemmas.List.Sorted.{length_permutation}
use Rattle.std.proofs.lemmas.Bool.{and_parts, and_right, not_from_true, not_from_false, cases_eq, cases_lt, cases_Bool, eq-eqb, ne_eqb}
use Rattle.model.specs.Lists.{kept}
use Rattle.model.specs.Transactions.{Txn}
use Rattle.order.specs.declared.past.Past.{Past}
use Rattle.order.specs.Order.{stands_before, commit_at, blocked, first_free, without, then_those, lined, line, AllSerial}
use Rattle.order.specs.Past.{past_of}
use Rattle.order.specs.Taking.{gone_of, left_of, holds_up, NoneBelow, is_free, Compared, Front, Taken}
use Rattle.order.specs.declared.lineup.Lineup.{Lineup}
use Rattle.order.specs.Lineup.{commits_of, left_in, Starts, Compares, Took}
use Rattle.order.proofs.Members.{In, Asc, in_kept, kept_in, kept-all, kept-kept, in_counting, counting_in, asc-counting, asc-kept, any-from, none_any, low_is, low-none, low_in, to_front}

-- who has a cursor is left
open_is : (cs : List (Option ℕ)) (j : ℕ) → not (get_or (gone_of cs) j true) ≡ is_some (get_or cs j None)
open_is [] j = refl
open_is (None ∷ cs) zero = refl
open_is (Some c ∷ cs) zero = refl
open_is (c ∷ cs) (suc j) = open_is cs j

abbrev is_open : List Bool → ℕ → Bool
is_open gone i = not (get_or gone i true)

left_member : (gone : List Bool) (j : ℕ) → In j (left_of gone) → (j < length gone) × (is_open gone j ≡ true)
left_member gone j m =
    let r = in_kept (is_open gone) j (range_with_len 0 (length gone)) m in
    let l = counting_in 0 (length gone) j r.0 in
    (omega arith, r.1)

in_left_of : (gone : List Bool) (j : ℕ) → j < length gone → is_open gone j ≡ true → In j (left_of gone)
in_left_of gone j l e = kept_in (is_open gone) j (range_with_len 0 (length gone)) (in_counting 0 (length gone) j (omega arith) (omega arith)) e

module _ (done : List Txn) (gone : List Bool) (i : ℕ) where
  held_blocks : (j : ℕ) → j < length gone → holds_up done gone i j ≡ true → true ≡ blocked done (left_of gone) i
  held_blocks j l h =
      let p = and_parts (is_open gone j) (stands_before (commit_at done j) (commit_at done i)) h in
      sym (any-from (λ (j : ℕ). stands_before (commit_at done j) (commit_at done i)) j (left_of gone) (in_left_of gone j l p.0) p.1)

  none_blocks : (c : ℕ) → length gone ≤ c → NoneBelow done gone i c → false ≡ blocked done (left_of gone) i
  none_blocks c l h = sym (none_any (λ (j : ℕ). stands_before (commit_at done j) (commit_at done i)) (left_of gone) go)
    where
      go : (j : ℕ) → In j (left_of gone) → stands_before (commit_at done j) (commit_at done i) ≡ false
      go j m =
          let p = left_member gone j m in
          sym (ap (λ b. b && stands_before (commit_at done j) (commit_at done i)) p.1) ∙ h j (omega (arith, p.0))

-- nobody numbered below i is free
abbrev pub Passed : List Txn → List Bool → ℕ → Type 0
Passed done gone i = (j : ℕ) → j < i → is_free done gone j ≡ false

module _ (done : List Txn) (gone : List Bool) where
  is_free_lem : (i : ℕ) (b : Bool) → is_open gone i ≡ true → b ≡ blocked done (left_of gone) i → not b ≡ is_free done gone i
  is_free_lem i b g h = ap not h ∙ sym (ap (λ z. z && not (blocked done (left_of gone) i)) g)

  -- o is the lowest number that holds up i, of the n that there are
  free-by : (i n : ℕ) (o : Option ℕ) → length gone ≡ n → is_open gone i ≡ true → NoneBelow done gone i (unwrap_or o n) → IfSome o (λ c. (c < n) × (holds_up done gone i c ≡ true)) → is_none o ≡ is_free done gone i
  free-by i n None e g b h = is_free_lem i false g (none_blocks done gone i n (omega arith) b)
  free-by i n (Some c) e g b h = is_free_lem i true g (held_blocks done gone i c (omega (arith, h.0)) h.1)

  waiting : (i j : ℕ) → Passed done gone i → j < i → In j (left_of gone) → not (blocked done (left_of gone) j) ≡ false
  waiting i j h l m = sym (ap (λ z. z && not (blocked done (left_of gone) j)) (left_member gone j m).1) ∙ h j l

  asc : Asc (left_of gone)
  asc = asc-kept (is_open gone) (range_with_len 0 (length gone)) (asc-counting 0 (length gone))

  pub in_first : (i : ℕ) → Some i ≡ first_free done (left_of gone) → In i (left_of gone)
  in_first i e = low_in (λ i. not (blocked done (left_of gone) i)) i (left_of gone) (sym e)

  pub free_at : (i : ℕ) → i < length gone → true ≡ is_free done gone i → Passed done gone i → Some i ≡ first_free done (left_of gone)
  free_at i l f h =
      let p = and_parts (is_open gone i) (not (blocked done (left_of gone) i)) (sym f) in
      sym (low_is (λ i. not (blocked done (left_of gone) i)) i (left_of gone) asc (in_left_of gone i l p.0) p.1 (λ j m k. waiting i j h k m))

  pub free_none : (i : ℕ) → length gone ≤ i → Passed done gone i → None ≡ first_free done (left_of gone)
  free_none i l h =
      sym (low-none (λ i. not (blocked done (left_of gone) i)) (left_of gone) (λ j m. waiting i j h (omega (arith, (left_member gone j m).0)) m))

and_true : (a : Bool) → (a && true) ≡ a
and_true true = refl
and_true false = refl

-- number i is taken
module _ (gone : List Bool) (i : ℕ) (l : i < length gone) where
  open_set : (j : ℕ) → is_open (set gone i true) j ≡ (is_open gone j && not (eqb j i))
  open_set j =
      ⊎_elim
      (λ e.
      ap (is_open (set gone i true)) e ∙ not_from_true (get_or (set gone i true) i true) (get_or-set_same gone i true true l)
      ∙ sym (and_right (is_open gone j) (not (eqb j i)) (not_from_true (eqb j i) (eq-eqb j i e))))
      (λ e.
      ap not (get_or-set_other gone i j true true e)
      ∙ sym (ap (λ b. is_open gone j && b) (not_from_false (eqb j i) (ne_eqb j i e)) ∙ and_true (is_open gone j)))
      (cases_eq j i)

  pub left-taken : left_of (set gone i true) ≡ without i (left_of gone)
  left-taken =
      ap (λ n. kept' (range_with_len 0 n)) (length-set gone i true)
      ∙ sym (kept-kept (λ j. not (eqb j i)) (is_open gone) (is_open (set gone i true)) open_set (range_with_len 0 (length gone)))
    where
      kept' : List ℕ → List ℕ
      kept' = kept (is_open (set gone i true))

  held_less : (done : List Txn) (k j : ℕ) → holds_up done gone k j ≡ false → holds_up done (set gone i true) k j ≡ false
  held_less done k j h = go (cases_Bool (is_open gone j))
    where
      go : (is_open gone j ≡ true) ⊎ (is_open gone j ≡ false) → holds_up done (set gone i true) k j ≡ false
      go (inr e) = ap (λ b. b && stands_before (commit_at done j) (commit_at done k)) (open_set j ∙ ap (λ b. b && not (eqb j i)) e)
      go (inl e) =
          and_right (is_open (set gone i true) j) (stands_before (commit_at done j) (commit_at done k))
          (sym (ap (λ b. b && stands_before (commit_at done j) (commit_at done k)) e) ∙ h)

-- one fewer is left
pub left-fewer : (gone : List Bool) (i : ℕ) → In i (left_of gone) → suc (length (left_of (set gone i true))) ≡ length (left_of gone)
left-fewer gone i m =
    let l = (left_member gone i m).0 in
    ap (λ xs. suc (length xs)) (left-taken gone i l) ∙ length_permutation (left_of gone) (i ∷ without i (left_of gone)) (to_front i (left_of gone) (asc [] gone) m)

-- number i is left, with a cursor, and is compared further
module _ (cs : List (Option ℕ)) (i c b : ℕ) (e : get_or cs i None ≡ Some b) where
  pub gone-still : gone_of (set cs i (Some c)) ≡ gone_of cs
  gone-still = map-set_same is_none cs i (Some c) None (sym (ap is_none e))

  pub free_told : (done : List Txn) (n : ℕ) (o : Option ℕ) → length cs ≡ n → NoneBelow done (gone_of cs) i (unwrap_or o n) → IfSome o (λ d. (d < n) × (holds_up done (gone_of cs) i d ≡ true)) → is_none o ≡ is_free done (gone_of cs) i
  free_told done n o l = free-by done (gone_of cs) i n o (length-map cs is_none ∙ l) (open_is cs i ∙ ap is_some e)

-- the lowest from a on that passes a test, of the numbers below n
module _ (p : ℕ → Bool) where
  find-below : (n a m j : ℕ) → n ≤ a + m → a ≤ j → j < unwrap_or (find p (range_with_len a m)) n → p j ≡ false
  find-below n a zero j l k h = absurd (omega arith)
  find-below n a (suc m) j l k h = go (p a) refl h (find-below n (a + 1) m j (omega arith))
    where
      go : (b : Bool) → p a ≡ b → j < unwrap_or (cond b (Some a) (find p (range_with_len (a + 1) m))) n → (a + 1 ≤ j → j < unwrap_or (find p (range_with_len (a + 1) m)) n → p j ≡ false) → p j ≡ false
      go true e q ih = absurd (omega arith)
      go false e q ih = ⊎_elim (λ r. ap p r ∙ e) (λ r. ih (omega arith) q) (cases_eq j a)

  find-within : (a m : ℕ) → IfSome (find p (range_with_len a m)) (λ c. (a ≤ c) × (c < a + m) × (p c ≡ true))
  find-within a zero = tt
  find-within a (suc m) = go (p a) refl (find p (range_with_len (a + 1) m)) (find-within (a + 1) m)
    where
      go : (b : Bool) → p a ≡ b → (o : Option ℕ) → IfSome o (λ c. (a + 1 ≤ c) × (c < a + 1 + m) × (p c ≡ true)) → IfSome (cond b (Some a) o) (λ c. (a ≤ c) × (c < a + suc m) × (p c ≡ true))
      go true e o h = (omega arith, omega arith, e)
      go false e None h = tt
      go false e (Some c) h = (omega (arith, h.0), omega (arith, h.1), h.2)

  module _ (a n : ℕ) (o : Option ℕ) (e : o ≡ find p (range_with_len a (n - a))) where
    pub next_below : ((j : ℕ) → j < a → p j ≡ false) → (j : ℕ) → j < unwrap_or o n → p j ≡ false
    next_below h j l = ⊎_elim (h j) (λ k. find-below n a (n - a) j (omega arith) k (subst (λ q. j < unwrap_or q n) e l)) (cases_lt j a)

    pub next_here : IfSome o (λ c. (c < n) × (p c ≡ true))
    next_here = go o (subst (λ q. IfSome q (λ c. (a ≤ c) × (c < a + (n - a)) × (p c ≡ true))) (sym e) (find-within a (n - a)))
      where
        go : (q : Option ℕ) → IfSome q (λ c. (a ≤ c) × (c < a + (n - a)) × (p c ≡ true)) → IfSome q (λ c. (c < n) × (p c ≡ true))
        go None h = tt
        go (Some c) h = (omega (arith, h.0, h.1), h.2)

    pub next_most : unwrap_or o n ≤ n
    next_most = go o next_here
      where
        go : (q : Option ℕ) → IfSome q (λ c. (c < n) × (p c ≡ true)) → unwrap_or q n ≤ n
        go None h = omega arith
        go (Some c) h = omega (arith, h.0)

-- what is taken in front is not free, and holds nobody up
module _ (cs : List (Option ℕ)) (f : ℕ) (h : Front f cs) where
  gone-front : (j : ℕ) → j < f → not (get_or (gone_of cs) j true) ≡ false
  gone-front j l = open_is cs j ∙ ap is_some (h j l)

  pub passed_front : (done : List Txn) → Passed done (gone_of cs) f
  passed_front done j l = ap (λ b. b && not (blocked done (left_of (gone_of cs)) j)) (gone-front j l)

  pub none_front : (done : List Txn) (i c m : ℕ) → m ≡ max f c → NoneBelow done (gone_of cs) i c → NoneBelow done (gone_of cs) i m
  none_front done i c m e n j l =
      ⊎_elim (λ k. ap (λ b. b && stands_before (commit_at done j) (commit_at done i)) (gone-front j k)) (λ k. n j (omega (arith, e))) (cases_lt j f)

  pub front_more : get_or cs f None ≡ None → Front (f + 1) cs
  front_more e j l = ⊎_elim (λ q. ap (λ k. get_or cs k None) q ∙ e) (λ q. h j (omega (arith, q))) (cases_eq j f)

  -- a change at i, which is left, or is taken now
  pub front_on : (i b : ℕ) (v : Option ℕ) → get_or cs i None ≡ Some b → Front f (set cs i v)
  front_on i b v e j l =
      ⊎_elim (λ q. let z : None ≡ Some b = sym (h j l) ∙ ap (λ k. get_or cs k None) q ∙ e in absurd_some z) (λ q. get_or-set_other cs i j v None q ∙ h j l) (cases_eq j i)
    where
      absurd_some : {X : Type 0} → None ≡ Some b → X
      absurd_some z = let y : ◌≡◌ {A = ℕ} 0 1 = cc in absurd (omega arith)

  pub front_taken : (i : ℕ) → i < length cs → Front f (set cs i None)
  front_taken i lt j l =
      ⊎_elim (λ q. ap (λ k. get_or (set cs i None) k None) q ∙ get_or-set_same cs i None None lt) (λ q. get_or-set_other cs i j None None q ∙ h j l) (cases_eq j i)

-- the cursors after a change at i
compared_set : (ps : List Past) (cs : List (Option ℕ)) (i : ℕ) (v : Option ℕ) → i < length ps → Compared ps cs →
    ((k c : ℕ) → NoneBelow (map past_of ps) (gone_of cs) k c → NoneBelow (map past_of ps) (gone_of (set cs i v)) k c) →
    ((c : ℕ) → v ≡ Some c → NoneBelow (map past_of ps) (gone_of (set cs i v)) i c) → Compared ps (set cs i v)
compared_set ps cs i v l h more here = (
  length-set cs i v ∙ h.0,
  λ k c lk e.
      ⊎_elim
      (λ q. subst (λ j. NoneBelow (map past_of ps) (gone_of (set cs i v)) j c) (sym q) (here c (sym (get_or-set_same cs i v None (omega (arith, h.0))) ∙ subst (λ j. get_or (set cs i v) j None ≡ Some c) q e)))
      (λ q. more k c (h.1 k c lk (sym (get_or-set_other cs i k v None q) ∙ e)))
      (cases_eq k i),
)

pub compared_more : (ps : List Past) (cs : List (Option ℕ)) (i c b : ℕ) → get_or cs i None ≡ Some b → i < length ps → Compared ps cs → NoneBelow (map past_of ps) (gone_of cs) i c → Compared ps (set cs i (Some c))
compared_more ps cs i c b e l h n =
    let same = gone-still cs i c b e in
    compared_set ps cs i (Some c) l h (λ k m. subst (λ g. NoneBelow (map past_of ps) g k m) (sym same)) (λ d q. let z : c ≡ d = cc in subst (NoneBelow (map past_of ps) (gone_of (set cs i (Some c))) i) z (subst (λ g. NoneBelow (map past_of ps) g i c) (sym same) n))

pub compared_taken : (ps : List Past) (cs : List (Option ℕ)) (i : ℕ) → i < length ps → Compared ps cs → Compared ps (set cs i None)
compared_taken ps cs i l h =
    let done = map past_of ps in
    let m : i < length (gone_of cs) = omega (arith, h.0, length-map cs is_none) in
    compared_set ps cs i None l h (λ k c n j lj. ap (λ g. holds_up done g k j) (map-set is_none cs i None) ∙ held_less (gone_of cs) i m done k j (n j lj)) (λ d q. let z : ◌≡◌ {A = ℕ} 0 1 = cc in absurd (omega arith))

module _ (done : List Txn) (l o : List ℕ) where
  pub taken-one : (i : ℕ) (m p : List ℕ) → Some i ≡ first_free done l → m ≡ without i l → p ≡ o ++ (i ∷ []) → Taken done 1 l o m p true
  unfolding lined
  taken-one i m p e em ep k =
      ap (λ n. o ++ lined done n l) (one-add k)
      ∙ ap (λ f. o ++ then_those f (λ i. lined done k (without i l))) (sym e)
      ∙ sym (append_assoc o (i ∷ []) (lined done k (without i l)))
      ∙ ap (λ z. z ++ lined done k (without i l)) (sym ep)
      ∙ ap (λ z. p ++ lined done k z) (sym em)

  pub taken_stuck : None ≡ first_free done l → Taken done 1 l o l o false
  unfolding lined
  taken_stuck e k =
      ap (λ n. o ++ lined done n l) (one-add k)
      ∙ ap (λ f. o ++ then_those f (λ i. lined done k (without i l))) (sym e)
      ∙ append-nil o

  in_two : (a b n k : ℕ) → a + b ≡ n → o ++ lined done (n + k) l ≡ o ++ lined done (a + (b + k)) l
  in_two a b n k e = ap (λ z. o ++ lined done z l) (ap (λ z. z + k) (sym e) ∙ add_assoc a b k)

  pub taken-both : (a b n : ℕ) (m p s t : List ℕ) (r : Bool) → a + b ≡ n → Taken done a l o m p true → Taken done b m p s t r → Taken done n l o s t r
  taken-both a b n m p s t true e h g = λ k. in_two a b n k e ∙ h (b + k) ∙ g k
  taken-both a b n m p s t false e h g = λ k. in_two a b n k e ∙ h (b + k) ∙ g k

  pub taken-short : (a b n : ℕ) (m p : List ℕ) → a + b ≡ n → Taken done a l o m p false → Taken done n l o m p false
  taken-short a b n m p e h k = in_two a b n k e ∙ h (b + k)

-- what is free is the same once some are compared
pub free_same : (u v : Lineup) (i : ℕ) → Compares u v → is_free (commits_of v) (gone_of (vec_items v.cursors)) i ≡ is_free (commits_of u) (gone_of (vec_items u.cursors)) i
free_same u v i s = ap (λ ps. is_free (map past_of ps) (gone_of (vec_items v.cursors)) i) s.pasts ∙ ap (λ g. is_free (commits_of u) g i) s.gone

-- the first that is free is left, and is taken
module _ (u v : Lineup) (i : ℕ) (s : Compares u v) (e : Some i ≡ first_free (commits_of u) (left_in u)) where
  is-left : In i (left_in v)
  is-left = subst (λ g. In i (left_of g)) (sym s.gone) (in_first (commits_of u) (gone_of (vec_items u.cursors)) i e)

  after : gone_of (set (vec_items v.cursors) i None) ≡ set (gone_of (vec_items v.cursors)) i true
  after = map-set is_none (vec_items v.cursors) i None

  pub first-within : i < length v.pasts.now
  first-within = omega (arith, (left_member (gone_of (vec_items v.cursors)) i is-left).0, length-map (vec_items v.cursors) is_none, v.compared.0)

  pub room_left : suc (length (left_of (gone_of (set (vec_items v.cursors) i None)))) ≡ length (left_in v)
  room_left = ap (λ g. suc (length (left_of g))) after ∙ left-fewer (gone_of (vec_items v.cursors)) i is-left

  pub without_first : left_of (gone_of (set (vec_items v.cursors) i None)) ≡ without i (left_in u)
  without_first =
      let l = (left_member (gone_of (vec_items v.cursors)) i is-left).0 in
      ap left_of after ∙ left-taken (gone_of (vec_items v.cursors)) i l ∙ ap (λ g. without i (left_of g)) s.gone

-- n in two parts
module _ (a b n : ℕ) (u v : Lineup) (e : a + b ≡ n) where
  pub took_both : (w : Lineup) (r : Bool) → Took a u v true → Took b v w r → Took n u w r
  took_both w r h g =
      let d = commits_of u in
      record {
        pasts = g.pasts ∙ h.pasts;
        taken = taken-both d (left_in u) (vec_items u.order) a b n (left_in v) (vec_items v.order) (left_in w) (vec_items w.order) r e h.taken
            (subst (λ ps. Taken (map past_of ps) b (left_in v) (vec_items v.order) (left_in w) (vec_items w.order) r) h.pasts g.taken);
      }

  pub took_short : Took a u v false → Took n u v false
  took_short h = record { pasts = h.pasts; taken = taken-short (commits_of u) (left_in u) (vec_items u.order) a b n (left_in v) (vec_items v.order) e h.taken }

-- at first nobody is taken or compared
module _ (n : ℕ) (cs : List (Option ℕ)) (first : cs ≡ replicate n (Some 0)) where
  gone-first : gone_of cs ≡ replicate n false
  gone-first = ap gone_of first ∙ go n
    where
      go : (m : ℕ) → gone_of (replicate m (Some 0)) ≡ replicate m false
      go zero = refl
      go (suc m) = ap (λ l. false ∷ l) (go m)

  pub left-first : left_of (gone_of cs) ≡ range_with_len 0 n
  left-first =
      ap left_of gone-first ∙ ap (λ m. kept (is_open (replicate n false)) (range_with_len 0 m)) (length-replicate n false)
      ∙ kept-all (is_open (replicate n false)) (range_with_len 0 n) (λ j m. let l = counting_in 0 n j m in not_from_false (get_or (replicate n false) j true) (get_or-replicate n j false true (omega arith)))

  pub compared_first : (ps : List Past) → length ps ≡ n → Compared ps cs
  compared_first ps e = (
    ap length first ∙ length-replicate n (Some 0) ∙ sym e,
    λ i c l q j k.
        let s : get_or cs i None ≡ Some 0 = ap (λ l. get_or l i None) first ∙ get_or-replicate n i (Some 0) None (omega arith) in
        let z : c ≡ 0 = cc in
        absurd (omega arith),
  )

taken-whole : (done : List Txn) (n : ℕ) (l m p : List ℕ) (r : Bool) → Taken done n l [] m p r → p ≡ lined done n l
unfolding lined
taken-whole done n l m p true h = sym (append-nil p) ∙ sym (h 0) ∙ ap (λ k. lined done k l) (add-zero n)
taken-whole done n l m p false h = sym (h 0) ∙ ap (λ k. lined done k l) (add-zero n)

-- from nothing on, all are asked for
line_taken : (ps : List Past) (l m p : List ℕ) (r : Bool) → l ≡ range_with_len 0 (length ps) → Taken (map past_of ps) (length ps) l [] m p r → p ≡ line (map past_of ps)
line_taken ps l m p r e h =
    let done = map past_of ps in
    taken-whole done (length ps) l m p r h
    ∙ ap (lined done (length ps)) e
    ∙ ap (λ n. lined done n (range_with_len 0 n)) (sym (length-map ps past_of))

pub took-whole : (ps : List Past) (u v : Lineup) (r : Bool) → Starts ps u → Took (length ps) u v r → vec_items v.order ≡ line (map past_of ps)
took-whole ps u v r s h =
    line_taken ps (left_in u) (left_in v) (vec_items v.order) r s.left
    (subst (λ o. Taken (map past_of ps) (length ps) (left_in u) o (left_in v) (vec_items v.order) r) s.order
    (subst (λ qs. Taken (map past_of qs) (length ps) (left_in u) (vec_items u.order) (left_in v) (vec_items v.order) r) s.pasts h.taken))

pub all-serial : (ps : List Past) → AllSerial (map past_of ps)
all-serial [] n l = absurd (omega arith)
all-serial (p ∷ ps) zero l = refl
all-serial (p ∷ ps) (suc n) l = all-serial ps n (omega arith)
