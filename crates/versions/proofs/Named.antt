-- Laws of a commit's writes, taken from the last to the first.
use Rattle.std.proofs.Common.{◌≡◌, ℕ, zero, suc, ◌+◌, ◌<◌, ◌≤◌, Bool, true, false, cond, eqb, ◌≢◌, List, [], ◌∷◌, length, get_or, drop, sym, refl, ap, ◌∙◌, inl, inr, arith, add-one, eq-eqb, ne_eqb}
use Rattle.std.proofs.lemmas.List.{drop_more, drop_all}
use Rattle.std.proofs.lemmas.Bool.{cond-true, cond-false, cases_eq, cases_Bool, both_ways, or_right}
use Rattle.model.specs.declared.Entry.{Entry}
use Rattle.model.specs.Transactions.{empty, put, puts, names}
use Rattle.model.specs.Versions.{Version, committed, keys_of}
use Rattle.versions.specs.Chain.{added}

-- in place of a write, past the last
abbrev pub none : Entry
none = record { key = 0; value = 0 }

module _ (k : ℕ) (e : Entry) (es : List Entry) where
  names-here : e.key ≡ k → names k (e ∷ es) ≡ true
  names-here h = rw (eq-eqb e.key k h)

  names-past : e.key ≢ k → names k (e ∷ es) ≡ names k es
  names-past h = rw (ne_eqb e.key k h)

-- behind the last write there is none
pub keys_end : (es : List Entry) (i : ℕ) → length es ≤ i → keys_of (drop i es) ≡ 0
unfolding keys_of
keys_end es i h = ap keys_of (drop_all i es h)

pub keys-few : (es : List Entry) → keys_of es ≤ length es
unfolding keys_of
keys-few [] = omega arith
keys-few (e ∷ es) =
    let h : keys_of es ≤ length es = keys-few es in
    elim (names e.key es) as (λ (b : Bool). cond b (keys_of es) (keys_of es + 1) ≤ length (e ∷ es)) [ true ↦ omega arith | false ↦ omega arith ]

-- writes that do not name a key leave it
pub puts_unnamed : (es : List Entry) (m : ℕ → ℕ) (k : ℕ) → names k es ≡ false → puts es m k ≡ m k
unfolding puts
puts_unnamed [] m k h = refl
puts_unnamed (e ∷ es) m k h =
    elim (cases_eq e.key k) [
      | inl same ↦ let z : ⊥ = both_ways (names k (e ∷ es)) h (names-here k e es same) in elim z [ ]
      | inr other ↦ puts_unnamed es (put e m) k (sym (names-past k e es other) ∙ h) ∙ rw (ne_eqb k e.key (λ x. other (sym x)))
    ]

put-here : (e : Entry) (m : ℕ → ℕ) (k : ℕ) → e.key ≡ k → put e m k ≡ e.value
put-here e m k same = rw (eq-eqb k e.key (sym same))

-- writes that name a key leave there the same, whatever was there
pub puts-named : (es : List Entry) (m n : ℕ → ℕ) (k : ℕ) → names k es ≡ true → puts es m k ≡ puts es n k
unfolding puts
puts-named [] m n k h = absurd (both_ways false refl h)
puts-named (e ∷ es) m n k h =
    elim (cases_Bool (names k es)) [
      | inl y ↦ puts-named es (put e m) (put e n) k y
      | inr out ↦
          elim (cases_eq e.key k) [
            | inl same ↦ puts_unnamed es (put e m) k out ∙ put-here e m k same ∙ sym (put-here e n k same) ∙ sym (puts_unnamed es (put e n) k out)
            | inr other ↦ let z : ⊥ = both_ways (names k es) out (sym (names-past k e es other) ∙ h) in elim z [ ]
          ]
    ]

-- where the writes behind a place do not name its key, the one there is what they leave
last_put : (es : List Entry) (i : ℕ) (m : ℕ → ℕ) (k : ℕ) → i < length es → (get_or es i none).key ≡ k → names k (drop (suc i) es) ≡ false
    → (names k es ≡ true) × (puts es m k ≡ (get_or es i none).value)
unfolding puts
last_put [] i m k h same out = absurd (omega arith)
last_put (e ∷ es) zero m k h same out = (names-here k e es same, puts_unnamed es (put e m) k out ∙ put-here e m k same)
last_put (e ∷ es) (suc i) m k h same out = let l = last_put es i (put e m) k (omega arith) same out in (or_right (eqb e.key k) (names k es) l.0, l.1)

-- the write at a place; b says whether one of those behind it is of the same key
module _ (es : List Entry) (i : ℕ) (low : i < length es) (b : Bool) (later : b ≡ names (get_or es i none).key (drop (i + 1) es)) where
  split : drop i es ≡ get_or es i none ∷ drop (i + 1) es
  split = drop_more es i none low

  pub keys_step : keys_of (drop i es) ≡ cond b (keys_of (drop (i + 1) es)) (keys_of (drop (i + 1) es) + 1)
  unfolding keys_of
  keys_step = ap keys_of split ∙ ap (λ (x : Bool). cond x (keys_of (drop (i + 1) es)) (keys_of (drop (i + 1) es) + 1)) (sym later)

  -- the keys that are named from the place on have their old versions, and the others what the writes leave
  pub commit-step : (n k : ℕ) (vs cur : List Version) → cur ≡ cond (names k (drop i es)) vs (committed n es k vs)
      → cond b cur (added (get_or es i none).key n (get_or es i none).value (λ j. cur) k) ≡ cond (names k (drop (i + 1) es)) vs (committed n es k vs)
  commit-step n k vs cur same =
      elim (cases_eq (get_or es i none).key k) [
        | inl e ↦ of-key b (ap (λ (x : ℕ). names x (drop (i + 1) es)) (sym e) ∙ sym later) e
            (same ∙ cond-true _ _ _ (ap (names k) split ∙ names-here k (get_or es i none) (drop (i + 1) es) e))
        | inr other ↦ other-key b (λ e. other (sym e)) (same ∙ ap (λ (x : Bool). cond x vs (committed n es k vs)) (ap (names k) split ∙ names-past k (get_or es i none) (drop (i + 1) es) other))
      ]
    where
      of-key : (x : Bool) → names k (drop (i + 1) es) ≡ x → (get_or es i none).key ≡ k → cur ≡ vs
          → cond x cur (added (get_or es i none).key n (get_or es i none).value (λ j. cur) k) ≡ cond (names k (drop (i + 1) es)) vs (committed n es k vs)
      of-key true h e c = c ∙ sym (cond-true _ _ _ h)
      of-key false h e c =
          let l = last_put es i empty k low e (ap (λ (m : ℕ). names k (drop m es)) (sym (add-one i)) ∙ h) in
          rw (h, l.0, l.1, eq-eqb k (get_or es i none).key (sym e), c) refl

      other-key : (x : Bool) → k ≢ (get_or es i none).key → cur ≡ cond (names k (drop (i + 1) es)) vs (committed n es k vs)
          → cond x cur (added (get_or es i none).key n (get_or es i none).value (λ j. cur) k) ≡ cond (names k (drop (i + 1) es)) vs (committed n es k vs)
      other-key true ne c = c
      other-key false ne c = cond-false _ _ _ (ne_eqb k (get_or es i none).key ne) ∙ c
