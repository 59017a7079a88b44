-- The text of a read, entry by entry.
use Rattle.std.proofs.Common.{◌≡◌, ℕ, ◌+◌, ◌<◌, ◌≤◌, List, [], ◌∷◌, ◌++◌, length, get_or, drop, codes, IfOk, Result, sym, ap, ◌∙◌, append_assoc, append-nil}
use Rattle.std.proofs.lemmas.List.{at_drop_more, at_drop_all}
use Rattle.std.proofs.lemmas.Result.{IfOk-weaker}
use Rattle.model.specs.declared.Entry.{Entry}
use Rattle.lines.specs.Said.{pair, pairs}

-- one entry more is written
pub pair_said : (old new goal q : List ℕ) (es : List Entry) (i : ℕ) (d : Entry) → i < length es → new ≡ old ++ pair q (get_or es i d) → old ++ pairs q (drop i es) ≡ goal →
    new ++ pairs (codes " ") (drop (i + 1) es) ≡ goal
unfolding pairs
pair_said old new goal q es i d h p g =
    ap (λ (x : List ℕ). x ++ pairs (codes " ") (drop (i + 1) es)) p ∙ append_assoc old (pair q (get_or es i d)) (pairs (codes " ") (drop (i + 1) es))
    ∙ ap (λ (x : List ℕ). old ++ x) (sym (at_drop_more (pairs q) es i d h)) ∙ g

-- all entries are written, and then the end of the line
pub pairs_said : {X Y : Type 0} (r : Result X Y) (old mid new all q : List ℕ) (es : List Entry) (i : ℕ) → length es ≤ i → mid ++ pairs q (drop i es) ≡ old ++ all →
    IfOk r (λ _. new ≡ mid ++ 10 ∷ []) → IfOk r (λ _. new ≡ old ++ (all ++ 10 ∷ []))
unfolding pairs
pairs_said r old mid new all q es i h g =
    IfOk-weaker r (λ _. new ≡ mid ++ 10 ∷ []) (λ _. new ≡ old ++ (all ++ 10 ∷ []))
    (λ _ e. e ∙ ap (λ (x : List ℕ). x ++ 10 ∷ []) (sym (append-nil mid) ∙ ap (λ (x : List ℕ). mid ++ x) (sym (at_drop_all (pairs q) es i h)) ∙ g) ∙ append_assoc old all (10 ∷ []))
