-- The text of an order, number by number.
use Rattle.std.proofs.Common.{◌≡◌, ℕ, ◌+◌, ◌<◌, ◌≤◌, List, [], ◌∷◌, ◌++◌, length, get_or, drop, codes, decimal, IfOk, Result, sym, ap, ◌∙◌, append_assoc, append-nil}
use Rattle.std.proofs.lemmas.List.{at_drop_more, at_drop_all}
use Rattle.std.proofs.lemmas.Result.{IfOk-weaker}
use Rattle.serial_runs.specs.Text.{numerals}

-- one number more is written
pub number_said : (old mid new goal separator ns : List ℕ) (i d : ℕ) → i < length ns → mid ≡ old ++ separator → new ≡ mid ++ decimal (get_or ns i d) → old ++ numerals separator (drop i ns) ≡ goal →
    new ++ numerals (codes " ") (drop (i + 1) ns) ≡ goal
unfolding numerals
number_said old mid new goal separator ns i d h p q g =
    let n : List ℕ = decimal (get_or ns i d) in
    let rest : List ℕ = numerals (codes " ") (drop (i + 1) ns) in
    ap (λ (x : List ℕ). x ++ rest) (q ∙ ap (λ (x : List ℕ). x ++ n) p)
    ∙ append_assoc (old ++ separator) n rest ∙ append_assoc old separator (n ++ rest)
    ∙ ap (λ (x : List ℕ). old ++ x) (sym (at_drop_more (numerals separator) ns i d h)) ∙ g

-- all numbers are written, and then the end of the line
pub numbers_said : {X Y : Type 0} (r : Result X Y) (old mid new all separator ns : List ℕ) (i : ℕ) → length ns ≤ i → mid ++ numerals separator (drop i ns) ≡ old ++ all →
    IfOk r (λ _. new ≡ mid ++ 10 ∷ []) → IfOk r (λ _. new ≡ old ++ (all ++ 10 ∷ []))
unfolding numerals
numbers_said r old mid new all separator ns i h g =
    IfOk-weaker r (λ _. new ≡ mid ++ 10 ∷ []) (λ _. new ≡ old ++ (all ++ 10 ∷ []))
    (λ _ e. e ∙ ap (λ (x : List ℕ). x ++ 10 ∷ []) (sym (append-nil mid) ∙ ap (λ (x : List ℕ). mid ++ x) (sym (at_drop_all (numerals separator) ns i h)) ∙ g) ∙ append_assoc old all (10 ∷ []))
