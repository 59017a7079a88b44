-- Lines gathered from chunks.
use Rattle.std.proofs.Common.{◌≡◌, ℕ, suc, ◌+◌, ◌<◌, ◌≤◌, Bool, true, false, cond, not, eqb, Some, None, List, [], ◌∷◌, ◌++◌, length, take, drop, sym, refl, ap, ◌∙◌, append_assoc, append-nil, arith, length-drop, ltb, ltb-true, le-ltb}
use Rattle.std.proofs.lemmas.Bool.{eqb-true}
use Rattle.std.specs.List.{position}
use Rattle.model.specs.declared.Request.{Request}
use Rattle.model.specs.declared.Request.TheVariants.{Unknown}
use Rattle.lines.specs.Requests.{parsed, missing}
use Rattle.lines.specs.Held.{line_end, scan, request_of, requests, pending, first_line, Ends, CutAnywhere}

-- what comes of an input whose first line ends, and of one where none does
module _ {A : Type 0} (L : List ℕ → A → A) (R : List ℕ → A) where
  pub scan-ended : (t s : List ℕ) → line_end s < length s → scan L R t s ≡ L (t ++ take (line_end s) s) (scan L R [] (drop (line_end s + 1) s))
  unfolding scan
  scan-ended t [] h = absurd (omega arith)
  scan-ended t (b ∷ s) h = by (eqb b 10) h (scan-ended (t ++ b ∷ []) s)
    where
      n : ℕ
      n = line_end s

      by : (q : Bool) → cond (not q) (1 + n) 0 < suc (length s) →
          (n < length s → scan L R (t ++ b ∷ []) s ≡ L ((t ++ b ∷ []) ++ take n s) (scan L R [] (drop (n + 1) s))) →
          cond q (L t (scan L R [] s)) (scan L R (t ++ b ∷ []) s)
          ≡ L (t ++ take (cond (not q) (1 + n) 0) (b ∷ s)) (scan L R [] (drop (cond (not q) (1 + n) 0 + 1) (b ∷ s)))
      by true l f = ap (λ (x : List ℕ). L x (scan L R [] s)) (sym (append-nil t))
      by false l f =
          let more : 1 + n + 1 ≡ suc (n + 1) = omega arith in
          let one : 1 + n ≡ suc n = omega arith in
          rw (more, one) (f (omega (arith, l)) ∙ ap (λ (x : List ℕ). L x (scan L R [] (drop (n + 1) s))) (append_assoc t (b ∷ []) (take n s)))

  pub scan_open : (t s : List ℕ) → length s ≤ line_end s → scan L R t s ≡ R (t ++ s)
  unfolding scan
  scan_open t [] h = ap R (sym (append-nil t))
  scan_open t (b ∷ s) h = by (eqb b 10) h (scan_open (t ++ b ∷ []) s)
    where
      by : (q : Bool) → suc (length s) ≤ cond (not q) (1 + line_end s) 0 → (length s ≤ line_end s → scan L R (t ++ b ∷ []) s ≡ R ((t ++ b ∷ []) ++ s)) →
          cond q (L t (scan L R [] s)) (scan L R (t ++ b ∷ []) s) ≡ R (t ++ b ∷ s)
      by true l f = absurd (omega (arith, l))
      by false l f = f (omega (arith, l)) ∙ ap R (append_assoc t (b ∷ []) s)

pub cut_anywhere : CutAnywhere
unfolding scan
cut_anywhere t [] b = (refl, refl)
cut_anywhere t (x ∷ a) b = by (eqb x 10) (cut_anywhere [] a b) (cut_anywhere (t ++ x ∷ []) a b)
  where
    all : Bool → List ℕ → List Request
    all q s = cond q (request_of t ∷ requests [] s) (requests (t ++ x ∷ []) s)

    left : Bool → List ℕ → List ℕ
    left q s = cond q (pending [] s) (pending (t ++ x ∷ []) s)

    by : (q : Bool) → (requests [] (a ++ b) ≡ requests [] a ++ requests (pending [] a) b) × (pending [] (a ++ b) ≡ pending (pending [] a) b) →
        (requests (t ++ x ∷ []) (a ++ b) ≡ requests (t ++ x ∷ []) a ++ requests (pending (t ++ x ∷ []) a) b)
        × (pending (t ++ x ∷ []) (a ++ b) ≡ pending (pending (t ++ x ∷ []) a) b) →
        (all q (a ++ b) ≡ all q a ++ requests (left q a) b) × (left q (a ++ b) ≡ pending (left q a) b)
    by true f g = (ap (λ (y : List Request). request_of t ∷ y) f.0, f.1)
    by false f g = g

-- a line that stands whole in the input, where nothing is held of it
pub whole_line : (t s : List ℕ) → missing t ≡ true → length s ≤ 1024 → parsed s ≡ request_of (t ++ s)
whole_line [] s e h = sym (ap (λ (b : Bool). cond b Unknown (parsed s)) (le-ltb 1024 (length s) h))
whole_line (b ∷ t) s e h = let z = eqb-true (length (b ∷ t)) 0 e in absurd (omega arith)

pub feed_found : (s : List ℕ) (i : ℕ) → position (λ b. eqb b 10) s ≡ Some i → (line_end s < length s) × (i ≡ line_end s)
feed_found s i = by (ltb (line_end s) (length s)) refl
  where
    by : (q : Bool) → ltb (line_end s) (length s) ≡ q → cond q (Some (line_end s)) None ≡ Some i → (line_end s < length s) × (i ≡ line_end s)
    by true e f = (ltb-true (line_end s) (length s) e, cc)
    by false e f = let z : ◌≡◌ {A = ℕ} 0 1 = cc in absurd (omega arith)

-- a line has ended: what stands behind it is left
module _ (u s rest : List ℕ) (e : Ends s rest) where
  pub line_taken : (old new goal : List Request) (q : Request) → q ≡ request_of (u ++ first_line s) → new ≡ old ++ q ∷ [] → old ++ requests u s ≡ goal → new ++ requests [] rest ≡ goal
  line_taken old new goal q r p g =
      ap (λ (x : List Request). x ++ requests [] rest) p ∙ append_assoc old (q ∷ []) (requests [] rest)
      ∙ ap (λ (x : Request). old ++ (x ∷ requests [] rest)) r
      ∙ ap (λ (x : List ℕ). old ++ (request_of (u ++ first_line s) ∷ requests [] x)) e.1
      ∙ ap (λ (x : List Request). old ++ x) (sym (scan-ended (λ v qs. request_of v ∷ qs) (λ v. []) u s e.0)) ∙ g

  pub line_left : pending [] rest ≡ pending u s
  line_left = ap (pending []) e.1 ∙ sym (scan-ended (λ v w. w) (λ v. v) u s e.0)

pub rest_less : (s rest : List ℕ) → Ends s rest → length rest < length s
rest_less s rest e = let l = ap length e.1 in let k = length-drop (line_end s + 1) s in let h = e.0 in omega arith

-- no line has ended: all requests are out
pub all_taken : (u s : List ℕ) (out goal : List Request) → length s ≤ line_end s → out ++ requests u s ≡ goal → out ≡ goal
all_taken u s out goal h g =
    sym (append-nil out) ∙ ap (λ (x : List Request). out ++ x) (sym (scan_open (λ v qs. request_of v ∷ qs) (λ v. []) u s h)) ∙ g
