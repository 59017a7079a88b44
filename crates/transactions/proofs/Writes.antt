-- What writes leave at a key.
use Rattle.std.proofs.Common.{◌≡◌, ℕ, cond, eqb, List, [], ◌∷◌, Some, None, Option, sym, refl, ap, ◌∙◌, reverse, arith}
use Rattle.std.specs.List.{find}
use Rattle.std.proofs.lemmas.Bool.Decides.{nat_tests}
use Rattle.std.proofs.lemmas.List.Folds.{find-append}
use Rattle.std.specs.Option.{option_or}
use Rattle.std.proofs.lemmas.List.{reverse-append}
use Rattle.model.specs.declared.Entry.{Entry}
use Rattle.model.specs.Transactions.{put, puts}
use Rattle.transactions.specs.Noted.{Leaves, or_else, value_in, last_of}

-- the last write decides, and the one before it where that is of another key
last-step : (k : ℕ) (e : Entry) (es : List Entry) → find (λ (x : Entry). eqb x.key k) (reverse (e ∷ es)) ≡ option_or (find (λ (x : Entry). eqb x.key k) (reverse es)) (find (λ (x : Entry). eqb x.key k) (e ∷ []))
last-step k e es = ap (find (λ (x : Entry). eqb x.key k)) (reverse-append (e ∷ []) es) ∙ find-append _ (reverse es) (e ∷ [])

either : (a : Option Entry) (k : ℕ) (e : Entry) (x : ℕ) → or_else (value_in (option_or a (find (λ (y : Entry). eqb y.key k) (e ∷ [])))) x ≡ or_else (value_in a) (cond (eqb k e.key) e.value x)
either (Some y) k e x = refl
either None k e x = grind (arith, nat_tests)

pub leaves-last : (k : ℕ) (es : List Entry) → Leaves k es (last_of k es)
unfolding puts
leaves-last k [] m = refl
leaves-last k (e ∷ es) m =
    let a = leaves-last k es (put e m) in
    let b = either (find (λ (x : Entry). eqb x.key k) (reverse es)) k e (m k) in
    a ∙ sym b ∙ ap (λ o. or_else (value_in o) (m k)) (sym (last-step k e es))
