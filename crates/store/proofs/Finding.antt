-- What a read finds, key by key, and when its versions are there.
use Rattle.std.proofs.Common.{◌≡◌, ℕ, suc, ◌+◌, ◌-◌, ◌<◌, ◌≤◌, Bool, true, false, cond, ◌||◌, eqb, ltb, leb, List, [], ◌∷◌, ◌++◌, Some, None, sym, refl, ap, ◌∙◌, append_assoc, append-nil, arith, ltb-false, eq-eqb}
use borrow.Author.Tests.{apart_eqb}
use Rattle.model.specs.declared.Call.TheVariants.{Read}
use Rattle.model.specs.declared.Entry.{Entry}
use Rattle.model.specs.Transactions.{State, found_from, found, is_latest, moment}
use Rattle.history.specs.Engine.{Life, Engine, count, slot_at, refusal_of}
use Rattle.history.specs.Sound.{Sound}
use Rattle.history.proofs.Refusing.{goes_through}

found_none : (m : State) (a b : ℕ) → b ≤ a → found m a b ≡ []
unfolding found_from
found_none m a b h = let z : b - a ≡ 0 = omega arith in ap (found_from m a) z

found-more : (m : State) (a b : ℕ) → a < b → found m a b ≡ cond (eqb (m a) 0) (found m (a + 1) b) (record { key = a; value = m a } ∷ found m (a + 1) b)
unfolding found_from
found-more m a b h =
    let z : b - a ≡ suc (b - (a + 1)) = omega arith in
    let y : suc a ≡ a + 1 = omega arith in
    ap (found_from m a) z
    ∙ ap (λ (k : ℕ). cond (eqb (m a) 0) (found_from m k (b - (a + 1))) (record { key = a; value = m a } ∷ found_from m k (b - (a + 1)))) y

-- something is there
pub one_found : (m : State) (old new goal : List Entry) (a b x : ℕ) → a < b → x ≡ m a → 0 < x → new ≡ old ++ record { key = a; value = x } ∷ [] → old ++ found m a b ≡ goal → new ++ found m (a + 1) b ≡ goal
one_found m old new goal a b x h e s p g =
    ap (λ (y : List Entry). y ++ found m (a + 1) b) p ∙ append_assoc old (record { key = a; value = x } ∷ []) (found m (a + 1) b)
    ∙ ap (λ (y : ℕ). old ++ (record { key = a; value = y } ∷ found m (a + 1) b)) e
    ∙ ap (λ (q : Bool). old ++ cond q (found m (a + 1) b) (record { key = a; value = m a } ∷ found m (a + 1) b)) (sym (apart_eqb (m a) 0 (λ z. omega arith)))
    ∙ ap (λ (y : List Entry). old ++ y) (sym (found-more m a b h)) ∙ g

-- nothing is there
pub none_found : (m : State) (old new goal : List Entry) (a b x : ℕ) → a < b → x ≡ m a → x ≤ 0 → new ≡ old → old ++ found m a b ≡ goal → new ++ found m (a + 1) b ≡ goal
none_found m old new goal a b x h e s p g =
    ap (λ (y : List Entry). y ++ found m (a + 1) b) p
    ∙ ap (λ (q : Bool). old ++ cond q (found m (a + 1) b) (record { key = a; value = m a } ∷ found m (a + 1) b)) (sym (eq-eqb (m a) 0 (omega arith)))
    ∙ ap (λ (y : List Entry). old ++ y) (sym (found-more m a b h)) ∙ g

pub all_found : (m : State) (old goal : List Entry) (a b : ℕ) → b ≤ a → old ++ found m a b ≡ goal → old ≡ goal
all_found m old goal a b h g = sym (append-nil old) ∙ ap (λ (y : List Entry). old ++ y) (sym (found_none m a b h)) ∙ g

-- no version that a read needs is gone
floor-by : (e : Engine) → Sound e → (i : ℕ) (l : Life) → slot_at i e ≡ Some l → (q : Bool) → is_latest l.txn.level ≡ q → e.floor ≤ cond q (count e) l.txn.begin
floor-by e snd i l here true p = snd.floor
floor-by e snd i l here false p = snd.above i l here p

pub floor-at : (e : Engine) → Sound e → (i : ℕ) (l : Life) → slot_at i e ≡ Some l → e.floor ≤ moment l.txn (count e)
floor-at e snd i l here = floor-by e snd i l here (is_latest l.txn.level) refl

last-false : (a b c : Bool) → (a || (b || c)) ≡ false → c ≡ false
last-false true b c p = cc
last-false false true c p = cc
last-false false false c p = p

pub end_within : (e : Engine) (i a b : ℕ) → refusal_of (Read i a b) e ≡ None → b ≤ 4096
end_within e i a b p = ltb-false 4096 b (last-false (leb 16 i) (leb b a) (ltb 4096 b) (goes_through (Read i a b) e p).0)
