-- What commits leave at a key is what the last that wrote it left.
use Rattle.std.proofs.Common.{◌≡◌, ℕ, zero, suc, ◌+◌, ◌<◌, ◌≤◌, true, false, cond, eqb, ◌⊎◌, List, [], ◌∷◌, ◌++◌, map, sym, refl, ap, ◌∙◌, inl, inr, arith}
use Rattle.std.proofs.lemmas.Bool.{cases_Bool, or_parts, eqb-true, eqb-false, eq-eqb, ne_eqb, le-leb, lt-ltb, and_from, not_from_false, cond-true, cond-false}
use Rattle.model.specs.declared.Entry.{Entry}
use Rattle.model.specs.Transactions.{State, Read, Txn, put, puts, after, empty, found_from, names, looks_at, looked, reads_some, both_write}
use Rattle.conflicts.specs.Laws.{nth}
use Rattle.order.proofs.Members.{In, clash, any-from, any_some}

module _ (k : ℕ) where
  -- what writes leave at a key depends on what stood there only
  pub puts_over : (es : List Entry) (m n : State) → m k ≡ n k → puts es m k ≡ puts es n k
  unfolding puts
  puts_over [] m n h = h
  puts_over (e ∷ es) m n h = puts_over es (put e m) (put e n) (ap (cond (eqb k e.key) e.value) h)

  -- writes of other keys leave what stood there
  pub puts_aside : (es : List Entry) (m : State) → names k es ≡ false → puts es m k ≡ m k
  unfolding puts
  puts_aside [] m h = refl
  puts_aside (e ∷ es) m h =
      let p = or_parts (eqb e.key k) (names k es) h in
      puts_aside es (put e m) p.1 ∙ cond-false (eqb k e.key) e.value (m k) (ne_eqb k e.key (λ q. eqb-false e.key k p.0 (sym q)))

  -- where one of them is of the key, what stood there does not matter
  pub puts-named : (es : List Entry) (m n : State) → names k es ≡ true → puts es m k ≡ puts es n k
  unfolding puts
  puts-named [] m n h = clash false h refl
  puts-named (e ∷ es) m n h = go (cases_Bool (eqb e.key k)) (puts-named es (put e m) (put e n))
    where
      go : (eqb e.key k ≡ true) ⊎ (eqb e.key k ≡ false) → (names k es ≡ true → puts es (put e m) k ≡ puts es (put e n) k) → puts es (put e m) k ≡ puts es (put e n) k
      go (inl p) ih =
          let q = eq-eqb k e.key (sym (eqb-true e.key k p)) in
          puts_over es (put e m) (put e n) (cond-true (eqb k e.key) e.value (m k) q ∙ sym (cond-true (eqb k e.key) e.value (n k) q))
      go (inr p) ih = ih (rw p at h)

  pub meets : (r : Read) (rs : List Read) (es : List Entry) → In r rs → looks_at k r ≡ true → names k es ≡ true → reads_some rs es ≡ true
  meets r rs es m h w =
      let e = any_some (λ (e : Entry). eqb e.key k) es w in
      any-from (λ (e : Entry). looked e.key rs) e.0 es e.1 (ap (λ j. looked j rs) (eqb-true e.0.key k e.2) ∙ any-from (looks_at k) r rs m h)

  pub both : (es fs : List Entry) → names k es ≡ true → names k fs ≡ true → both_write es fs ≡ true
  both es fs h w =
      let e = any_some (λ (e : Entry). eqb e.key k) es h in
      any-from (λ (e : Entry). names e.key fs) e.0 es e.1 (ap (λ j. names j fs) (eqb-true e.0.key k e.2) ∙ w)

  pub looks : (r : Read) → r.from ≤ k → k < r.to → names k r.own ≡ false → looks_at k r ≡ true
  looks r a b n = and_from _ _ (and_from _ _ (le-leb r.from k a) (lt-ltb k r.to b)) (not_from_false (names k r.own) n)

-- what is found in a range depends on what stands in it only
pub found-same : (m n : State) (a c : ℕ) → ((k : ℕ) → a ≤ k → k < a + c → m k ≡ n k) → found_from m a c ≡ found_from n a c
unfolding found_from
found-same m n a zero h = refl
found-same m n a (suc c) h =
    let here : m a ≡ n a = h a (omega arith) (omega arith) in
    let rest : found_from m (suc a) c ≡ found_from n (suc a) c = found-same m n (suc a) c (λ k l u. h k (omega arith) (omega arith)) in
    ap (λ v. cond (eqb v 0) (found_from m (suc a) c) (record { key = a; value = v } ∷ found_from m (suc a) c)) here
    ∙ ap (λ l. cond (eqb (n a) 0) l (record { key = a; value = n a } ∷ l)) rest

pub after_push : (ts : List Txn) (t : Txn) (m : State) → after m (ts ++ (t ∷ [])) ≡ puts t.writes (after m ts)
unfolding after
after_push [] t m = refl
after_push (u ∷ ts) t m = after_push ts t (puts u.writes m)

-- the commits of a list of numbers, and key k
module _ (done : List Txn) (k : ℕ) where
  abbrev pub Writes : ℕ → Type 0
  Writes i = names k (nth done i).writes ≡ true

  -- those that wrote the key stand by their numbers
  abbrev pub Rising : List ℕ → Type 0
  Rising [] = Unit {0}
  Rising (x ∷ xs) = ((y : ℕ) → In y xs → Writes x → Writes y → x ≤ y) × Rising xs

  abbrev leaves : State → List ℕ → ℕ
  leaves m xs = after m (map (nth done) xs) k

  -- nobody wrote the key
  record Untouched (m : State) (xs : List ℕ) : Type 0 where
    none : (i : ℕ) → In i xs → Writes i → ⊥
    same : leaves m xs ≡ m k

  -- w, of the highest number of those that wrote it, was the last
  record Last (m : State) (xs : List ℕ) (w : ℕ) : Type 0 where
    there : In w xs
    writes : Writes w
    high : (i : ℕ) → In i xs → Writes i → i ≤ w
    value : leaves m xs ≡ puts (nth done w).writes empty k

  abbrev Outcome : State → List ℕ → Type 0
  Outcome m xs = Untouched m xs ⊎ ((w : ℕ) × Last m xs w)

  outcome : (xs : List ℕ) (m : State) → Rising xs → Outcome m xs
  unfolding after
  outcome [] m r = inl (record { none = λ i n w. n; same = refl })
  outcome (x ∷ xs) m r = go (cases_Bool (names k (nth done x).writes)) (outcome xs (puts (nth done x).writes m) r.1)
    where
      more : (w : ℕ) → Last (puts (nth done x).writes m) xs w → (i : ℕ) → In i (x ∷ xs) → Writes i → i ≤ w
      more w l i (inl e) h = let f : Writes x = ap (λ j. names k (nth done j).writes) (sym e) ∙ h in omega (arith, r.0 w l.there f l.writes)
      more w l i (inr n) h = l.high i n h

      only : Untouched (puts (nth done x).writes m) xs → (i : ℕ) → In i (x ∷ xs) → Writes i → i ≤ x
      only u i (inl e) h = omega arith
      only u i (inr n) h = absurd (u.none i n h)

      nobody : Untouched (puts (nth done x).writes m) xs → names k (nth done x).writes ≡ false → (i : ℕ) → In i (x ∷ xs) → Writes i → ⊥
      nobody u f i (inl e) h = clash (names k (nth done x).writes) (ap (λ j. names k (nth done j).writes) (sym e) ∙ h) f
      nobody u f i (inr n) h = u.none i n h

      go : (Writes x) ⊎ (names k (nth done x).writes ≡ false) → Outcome (puts (nth done x).writes m) xs → Outcome m (x ∷ xs)
      go c (inr (w, l)) = inr (w, record { there = inr l.there; writes = l.writes; high = more w l; value = l.value })
      go (inl f) (inl u) = inr (x, record { there = inl refl; writes = f; high = only u; value = u.same ∙ puts-named k (nth done x).writes m empty f })
      go (inr f) (inl u) = inl (record { none = nobody u f; same = u.same ∙ puts_aside k (nth done x).writes m f })

  -- two lists with the same writers of the key, each by their numbers, leave the same there
  pub same_writers : (xs ys : List ℕ) → Rising xs → Rising ys → ((i : ℕ) → In i xs → Writes i → In i ys) → ((i : ℕ) → In i ys → Writes i → In i xs) → leaves empty xs ≡ leaves empty ys
  same_writers xs ys rx ry to back = go (outcome xs empty rx) (outcome ys empty ry)
    where
      go : Outcome empty xs → Outcome empty ys → leaves empty xs ≡ leaves empty ys
      go (inl u) (inl v) = u.same ∙ sym v.same
      go (inl u) (inr (w, l)) = absurd (u.none w (back w l.there l.writes) l.writes)
      go (inr (w, l)) (inl v) = absurd (v.none w (to w l.there l.writes) l.writes)
      go (inr (w, l)) (inr (z, n)) =
          let up = n.high w (to w l.there l.writes) l.writes in
          let down = l.high z (back z n.there n.writes) n.writes in
          let e : w ≡ z = omega arith in
          l.value ∙ ap (λ i. puts (nth done i).writes empty k) e ∙ sym n.value
