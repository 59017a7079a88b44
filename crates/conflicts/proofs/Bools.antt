-- Laws of tests.
use Rattle.std.proofs.Common.{◌≡◌, ℕ, Bool, true, false, not, ◌&&◌, ◌||◌, Some, None, Option, refl, ap, ◌∙◌}
use Rattle.std.proofs.Math.Bool.{and-true, and-false}
use Rattle.conflicts.specs.Marks.{since}

-- one commit passes another: both are Serial (s, z), each is unseen by the other (x, y), they are two (e) and meet (r)
abbrev pub six : Bool → Bool → Bool → Bool → Bool → Bool → Bool
six s z x y e r = (s && z) && ((x && y) && (not e && r))

pub six-second : (s z x y e r : Bool) → s ≡ true → z ≡ true → x ≡ true → e ≡ false → six s z x y e r ≡ (y && r)
six-second s z x y e r p q h k = ap (λ b. six b z x y e r) p ∙ ap (λ b. six true b x y e r) q ∙ ap (λ b. six true true b y e r) h ∙ ap (λ b. six true true true y b r) k

pub six-first : (s z x y e r : Bool) → s ≡ true → z ≡ true → y ≡ true → e ≡ false → six s z x y e r ≡ (x && r)
six-first s z x y e r p q h k =
    ap (λ b. six b z x y e r) p ∙ ap (λ b. six true b x y e r) q ∙ ap (λ b. six true true x b e r) h ∙ ap (λ b. six true true x true b r) k ∙ ap (λ b. b && r) (and-true x)

pub six-not-serial : (s z x y e r : Bool) → s ≡ false → six s z x y e r ≡ false
six-not-serial s z x y e r p = ap (λ b. six b z x y e r) p

pub six-other-not-serial : (s z x y e r : Bool) → z ≡ false → six s z x y e r ≡ false
six-other-not-serial s z x y e r p = ap (λ b. six s b x y e r) p ∙ ap (λ b. b && ((x && y) && (not e && r))) (and-false s)

pub six-seen : (s z x y e r : Bool) → x ≡ false → six s z x y e r ≡ false
six-seen s z x y e r p = ap (λ b. six s z b y e r) p ∙ and-false (s && z)

pub six-other-seen : (s z x y e r : Bool) → y ≡ false → six s z x y e r ≡ false
six-other-seen s z x y e r p = ap (λ b. six s z x b e r) p ∙ ap (λ b. (s && z) && (b && (not e && r))) (and-false x) ∙ and-false (s && z)

pub six-same : (s z x y e r : Bool) → e ≡ true → six s z x y e r ≡ false
six-same s z x y e r p = ap (λ b. six s z x y b r) p ∙ ap (λ b. (s && z) && b) (and-false (x && y)) ∙ and-false (s && z)

-- who was no pivot is one now: o and i, it passed one and was passed; c and g, it passes the new one and is passed by it
pub turned : (o i c g : Bool) → (o && i) ≡ false → ((o || c) && (i || g)) ≡ ((g && (o || c)) || (c && i))
turned true true c g e = cc
turned true false true true e = refl
turned true false true false e = refl
turned true false false true e = refl
turned true false false false e = refl
turned false true true true e = refl
turned false true true false e = refl
turned false true false true e = refl
turned false true false false e = refl
turned false false true true e = refl
turned false false true false e = refl
turned false false false true e = refl
turned false false false false e = refl

pub since-not : (o : Option ℕ) (n : ℕ) → since o false n ≡ o
since-not (Some k) n = refl
since-not None n = refl
