-- A version more at the next free place, and no versions at all: what is listed then, and that the words stay sound.
use Rattle.std.proofs.Common.{◌≡◌, ℕ, zero, suc, ◌+◌, ◌<◌, ◌≤◌, ◌≢◌, List, [], ◌∷◌, length, get_or, set, replicate, MutBor, sym, refl, ap, ◌∙◌, subst, inl, inr, add-one, arith, length-set, get_or-set_other, get_or-set_same, eq-eqb, ne_eqb}
use lib.ListN.{get_or-eq_default}
use Rattle.std.proofs.lemmas.List.{get_or-replicate, length-replicate}
use Rattle.std.proofs.lemmas.Bool.{cases_lt, cases_eq}
use Rattle.versions.specs.declared.words.Words.{Words}
use Rattle.versions.specs.Words.{lent_by}
use Rattle.versions.specs.Chain.{Links, links, version_at, walk, chain, listed, total, Fits, Falls, Tops, Sound, added}
use Rattle.versions.proofs.Walks.{walk_none, chain-none, chain-at}
use Rattle.versions.proofs.Sums.{sum_one, total-none, total-same}

-- what stands at the places in use stays
stays : (l : List ℕ) (x c p : ℕ) → p ≤ c → get_or (set l (c + 1) x) p 0 ≡ get_or l p 0
stays l x c p h = get_or-set_other l (c + 1) p x 0 (λ e. omega arith)

-- words that have the same at the places in use
module _ (w v : Links) (c : ℕ) (falls : Falls w c) (next : (p : ℕ) → p ≤ c → get_or v.next p 0 ≡ get_or w.next p 0) (number : (p : ℕ) → p ≤ c → get_or v.number p 0 ≡ get_or w.number p 0) (value : (p : ℕ) → p ≤ c → get_or v.value p 0 ≡ get_or w.value p 0) where
  frame : (f p : ℕ) → p ≤ c → walk v f p ≡ walk w f p
  unfolding walk
  frame f zero h = walk_none v f ∙ sym (walk_none w f)
  frame zero (suc q) h = refl
  frame (suc f) (suc q) h =
      let low : get_or w.next (suc q) 0 < suc q = falls (suc q) (omega arith) h in
      rw (next (suc q) h, number (suc q) h, value (suc q) h)
      (ap (λ vs. version_at w (suc q) ∷ vs) (frame f (get_or w.next (suc q) 0) (omega arith)))

  chain-old : (p : ℕ) → p ≤ c → chain v p ≡ chain w p
  unfolding chain
  chain-old p h = frame p p h

-- a word at the first free place may be any
module _ (w : Links) (c room x : ℕ) (sound : Sound w c room) where
  alike : (v : Links) → ((p : ℕ) → p ≤ c → get_or v.next p 0 ≡ get_or w.next p 0) → ((p : ℕ) → p ≤ c → get_or v.number p 0 ≡ get_or w.number p 0)
      → ((p : ℕ) → p ≤ c → get_or v.value p 0 ≡ get_or w.value p 0) → v.heads ≡ w.heads → Fits v room → Sound v c room
  unfolding listed
  alike v next number value heads fits = (
    fits,
    sound.1,
    (λ p pos low. rw (next p low) (sound.2 p pos low)),
    (λ k. rw heads (sound.3 k)),
    total-same (listed v) (listed w)
        (λ k lt. ap (λ (l : List ℕ). chain v (get_or l k 0)) heads ∙ chain-old w v c sound.2 next number value (get_or w.heads k 0) (sound.3 k))
        ∙ sound.4,
  )

  pub sound-next : Sound (links w.heads (set w.next (c + 1) x) w.number w.value) c room
  sound-next =
      alike (links w.heads (set w.next (c + 1) x) w.number w.value) (stays w.next x c) (λ p h. refl) (λ p h. refl) refl
      (sound.0.0, sound.0.1, simp length-set sound.0.2, sound.0.3, sound.0.4)

  pub sound-number : Sound (links w.heads w.next (set w.number (c + 1) x) w.value) c room
  sound-number =
      alike (links w.heads w.next (set w.number (c + 1) x) w.value) (λ p h. refl) (stays w.number x c) (λ p h. refl) refl
      (sound.0.0, sound.0.1, sound.0.2, simp length-set sound.0.3, sound.0.4)

  pub sound-value : Sound (links w.heads w.next w.number (set w.value (c + 1) x)) c room
  sound-value =
      alike (links w.heads w.next w.number (set w.value (c + 1) x)) (λ p h. refl) (λ p h. refl) (stays w.value x c) refl
      (sound.0.0, sound.0.1, sound.0.2, sound.0.3, simp length-set sound.0.4)

-- the words with a version more
abbrev pub with_version : Links → ℕ → ℕ → ℕ → ℕ → Links
with_version w c key number value =
    links (set w.heads key (c + 1)) (set w.next (c + 1) (get_or w.heads key 0)) (set w.number (c + 1) number) (set w.value (c + 1) value)

module _ (w : Links) (c room key number value : ℕ) (sound : Sound w c room) (in-keys : key < 4096) (more : c < room) where
  wide : key < length w.heads
  wide = omega (arith, sound.0.1 (omega arith))

  old : (p : ℕ) → p ≤ c → chain (with_version w c key number value) p ≡ chain w p
  old =
      chain-old w (with_version w c key number value) c sound.2 (stays w.next (get_or w.heads key 0) c) (stays w.number number c) (stays w.value value c)

  falls : Falls (with_version w c key number value) (c + 1)
  falls p pos h =
      elim (cases_lt c p) [
        | inl lt ↦
            let e : p ≡ c + 1 = omega arith in
            let long : c + 1 < length w.next = omega (arith, sound.0.2) in
            let at : get_or (set w.next (c + 1) (get_or w.heads key 0)) (c + 1) 0 ≡ get_or w.heads key 0 = get_or-set_same w.next (c + 1) (get_or w.heads key 0) 0 long in
            let top : get_or w.heads key 0 ≤ c = sound.3 key in
            subst (λ (x : ℕ). get_or (set w.next (c + 1) (get_or w.heads key 0)) x 0 < x) (sym e) (omega arith)
        | inr ge ↦ let low : p ≤ c = omega arith in rw (stays w.next (get_or w.heads key 0) c p low) (sound.2 p pos low)
      ]

  tops : Tops (with_version w c key number value) (c + 1)
  tops k =
      elim (cases_eq k key) [
        | inl e ↦
            let at : get_or (set w.heads key (c + 1)) key 0 ≡ c + 1 = get_or-set_same w.heads key (c + 1) 0 wide in
            subst (λ (x : ℕ). get_or (set w.heads key (c + 1)) x 0 ≤ c + 1) (sym e) (omega arith)
        | inr ne ↦ let top : get_or w.heads k 0 ≤ c = sound.3 k in rw (get_or-set_other w.heads key k (c + 1) 0 ne) (omega arith)
      ]

  chain-new : chain (with_version w c key number value) (c + 1) ≡ record { number = number; value = value } ∷ listed w key
  unfolding listed
  chain-new =
      let a : c + 1 < length w.next = omega (arith, sound.0.2) in
      let b : c + 1 < length w.number = omega (arith, sound.0.3) in
      let d : c + 1 < length w.value = omega (arith, sound.0.4) in
      rw (
        chain-at (with_version w c key number value) (c + 1) falls (c + 1) (omega arith) (omega arith),
        get_or-set_same w.next (c + 1) (get_or w.heads key 0) 0 a,
        get_or-set_same w.number (c + 1) number 0 b,
        get_or-set_same w.value (c + 1) value 0 d,
        old (get_or w.heads key 0) (sound.3 key),
      )

  listed_same : listed (with_version w c key number value) key ≡ record { number = number; value = value } ∷ listed w key
  unfolding listed
  listed_same = rw (get_or-set_same w.heads key (c + 1) 0 wide) chain-new

  listed-other : (k : ℕ) → k ≢ key → listed (with_version w c key number value) k ≡ listed w k
  unfolding listed
  listed-other k ne = rw (get_or-set_other w.heads key k (c + 1) 0 ne) (old (get_or w.heads k 0) (sound.3 k))

  pub listed-added : (k : ℕ) → listed (with_version w c key number value) k ≡ added key number value (listed w) k
  listed-added k =
      elim (cases_eq k key) [
        | inl e ↦ rw (eq-eqb k key e) (subst (λ (x : ℕ). listed (with_version w c key number value) x ≡ record { number = number; value = value } ∷ listed w x) (sym e) listed_same)
        | inr ne ↦ rw (ne_eqb k key ne) (listed-other k ne)
      ]

  total-added : total (listed (with_version w c key number value)) ≡ total (listed w) + 1
  unfolding total
  total-added =
      sum_one 4096 key (λ k. length (listed w k)) (λ k. length (listed (with_version w c key number value) k)) in-keys
      (ap length listed_same ∙ sym (add-one (length (listed w key))))
      (λ k h ne. ap length (listed-other k ne))

  pub sound_added : Sound (with_version w c key number value) (c + 1) room
  sound_added = (
    (sound.0.0, (λ h. simp length-set (sound.0.1 h)), simp length-set sound.0.2, simp length-set sound.0.3, simp length-set sound.0.4),
    omega arith,
    falls,
    tops,
    total-added ∙ ap (λ n. n + 1) sound.4,
  )

zeros : (n k : ℕ) → get_or (replicate {A = ℕ} n 0) k 0 ≡ 0
zeros n k =
    elim (cases_lt k n) [
      | inl lt ↦ get_or-replicate n k 0 0 lt
      | inr ge ↦ get_or-eq_default (replicate {A = ℕ} n 0) 0 (omega (arith, length-replicate {A = ℕ} n 0))
    ]

-- every key has place 0
module _ (w : Links) (n : ℕ) (cleared : w.heads ≡ replicate n 0) where
  pub listed_cleared : (k : ℕ) → listed w k ≡ []
  unfolding listed
  listed_cleared k = chain-none w (get_or w.heads k 0) (ap (λ (l : List ℕ). get_or l k 0) cleared ∙ zeros n k)

  pub sound_cleared : (room : ℕ) → Fits w room → Sound w 0 room
  sound_cleared room fits = (
    fits,
    omega arith,
    (λ p pos low. omega arith),
    (λ k. let z = ap (λ (l : List ℕ). get_or l k 0) cleared ∙ zeros n k in omega (arith, z)),
    total-none (listed w) listed_cleared,
  )

-- words of which only the heads are cleared have places for as many
pub fits_cleared : (w v : Words) (room : ℕ) → v.heads.now ≡ replicate (length w.heads.now) 0 → (v.next ≡ w.next) × (v.number ≡ w.number) × (v.value ≡ w.value)
    → Fits (lent_by w) room → Fits (lent_by v) room
fits_cleared w v room heads rest fits =
    let long = λ (m : MutBor (List ℕ)). length m.now in (
      fits.0,
      (λ h. ap length heads ∙ length-replicate {A = ℕ} (length w.heads.now) 0 ∙ fits.1 h),
      omega (arith, ap long rest.0, fits.2),
      omega (arith, ap long rest.1, fits.3),
      omega (arith, ap long rest.2, fits.4),
    )
