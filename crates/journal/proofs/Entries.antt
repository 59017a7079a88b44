-- Reading one write after another.
use Rattle.std.proofs.Common.{◌≡◌, ℕ, zero, suc, ◌+◌, ◌<◌, ◌≤◌, List, [], ◌∷◌, ◌++◌, length, get_or, take, drop, map, set, sym, refl, ap, ◌∙◌, arith}
use Rattle.std.proofs.lemmas.List.{append_assoc, drop_more, take_more, set_at, length-take-le, length-map, map_push}
use Rattle.model.specs.declared.Entry.{Entry}
use Rattle.std.specs.Simd.{first_chunks}
use Rattle.journal.specs.Parsing.{of2, of4, entry_of, entries_of}

pub length-read : (n : ℕ) (bs : List ℕ) → length (entries_of n bs) ≡ n
unfolding entries_of
length-read zero bs = refl
length-read (suc n) bs = ap suc (length-read n (drop 6 bs))

-- the first six bytes are what counts
front-read : (bs : List ℕ) → entry_of (take 6 bs) ≡ entry_of bs
unfolding entry_of of2 of4
front-read [] = refl
front-read (a ∷ []) = refl
front-read (a ∷ b ∷ []) = refl
front-read (a ∷ b ∷ c ∷ []) = refl
front-read (a ∷ b ∷ c ∷ d ∷ []) = refl
front-read (a ∷ b ∷ c ∷ d ∷ e ∷ []) = refl
front-read (a ∷ b ∷ c ∷ d ∷ e ∷ f ∷ bs) = refl

parts-same : (n : ℕ) (bs : List ℕ) → map entry_of (first_chunks 6 n bs) ≡ entries_of n bs
unfolding entries_of
parts-same zero bs = refl
parts-same (suc n) bs = cc (front-read bs, parts-same n (drop 6 bs))

first_of : {X : Type 0} (k n : ℕ) (xs : List X) → k ≤ n → take k (first_chunks 6 n xs) ≡ first_chunks 6 k xs
first_of zero n xs h = refl
first_of (suc k) zero xs h = absurd (omega arith)
first_of (suc k) (suc n) xs h = ap (λ l. take 6 xs ∷ l) (first_of k n (drop 6 xs) (omega arith))

-- the first k of the pieces of six bytes are the first k writes
pub parts-read : (k n : ℕ) (bs : List ℕ) → k ≤ n → map entry_of (take k (first_chunks 6 n bs)) ≡ entries_of k bs
parts-read k n bs h = ap (map entry_of) (first_of k n bs h) ∙ parts-same k bs

-- one piece more
pub laid-more : (ps : List (List ℕ)) (xs ys : List Entry) (i : ℕ) (d : List ℕ) → i < length ps → i < length xs → ys ≡ map entry_of (take i ps) ++ drop i xs →
    set ys i (entry_of (get_or ps i d)) ≡ map entry_of (take (i + 1) ps) ++ drop (i + 1) xs
laid-more ps xs ys i d h l eq =
    ap (λ l. set l i (entry_of (get_or ps i d))) (eq ∙ ap (λ l. map entry_of (take i ps) ++ l) (drop_more xs i (entry_of d) l))
    ∙ set_at (map entry_of (take i ps)) (get_or xs i (entry_of d)) (drop (i + 1) xs) (entry_of (get_or ps i d)) i (length-map (take i ps) entry_of ∙ length-take-le i ps (omega arith))
    ∙ sym (append_assoc (map entry_of (take i ps)) (entry_of (get_or ps i d) ∷ []) (drop (i + 1) xs))
    ∙ ap (λ l. l ++ drop (i + 1) xs) (sym (map_push entry_of (take i ps) (get_or ps i d)) ∙ ap (map entry_of) (sym (take_more ps i d h)))
