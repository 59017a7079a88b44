-- A file cut anywhere is read as the commits whose records end before the cut.
use Rattle.std.proofs.Common.{◌≡◌, ℕ, suc, ◌+◌, ◌-◌, ◌*◌, ◌^◌, ◌<◌, List, [], ◌∷◌, ◌++◌, length, take, sym, refl, ap, ◌∙◌, subst, ⊎_elim, arith}
use lib.Seq.{take-append-add, take-nil}
use Rattle.std.specs.List.{AllByRecursion}
use Rattle.std.proofs.lemmas.List.{length-append, take-append-le, take_all, drop_at}
use Rattle.std.proofs.lemmas.Bool.{cases_lt, le-leb, lt-leb, cond-true, cond-false}
use Rattle.model.specs.declared.Entry.{Entry}
use Rattle.journal.specs.Records.{record_of, FineCommit}
use Rattle.journal.specs.Files.{file_from, file_of, good, after, replayed, whole_in}
use Rattle.journal.specs.Laws.{FileBack, CutAnywhere}
use Rattle.journal.proofs.Places.{length-record}
use Rattle.journal.proofs.Reading.{nothing_short}
use Rattle.journal.proofs.Back.{record-back, record-short}
use Rattle.journal.proofs.Replaying.{replayed-short, replayed-whole}

-- the first k commits, read from the first p bytes
abbrev Reads : ℕ → ℕ → List (List Entry) → ℕ → Type 0
Reads n p ws k = replayed n (take p (file_from n ws)) ≡ good (take k ws) (length (file_from n (take k ws)))

cut-from : (ws : List (List Entry)) (n p : ℕ) → AllByRecursion FineCommit ws → n + length ws < 2 ^ 32 → Reads n p ws (whole_in p ws)
unfolding file_from whole_in
cut-from [] n p fine small = ap (replayed n) (take-nil p) ∙ replayed-short n [] (nothing_short n)
cut-from (es ∷ ws) n p fine small =
    let bs = record_of n es in
    let rest = file_from (suc n) ws in
    let size = length-record n es in
    ⊎_elim
    (λ less.
    subst (Reads n p (es ∷ ws)) (sym (cond-false _ _ _ (lt-leb (6 + 6 * length es) p (omega (arith, less, size)))))
    (ap (replayed n) (take-append-le p bs rest (omega (arith, less))) ∙ replayed-short n _ (record-short n es p less)))
    (λ long.
    let q = p - length bs in
    let same : q ≡ p - (6 + 6 * length es) = ap (λ m. p - m) size in
    let k = whole_in q ws in
    let e : length bs + q ≡ p = omega (arith, long) in
    let here : take p (bs ++ rest) ≡ bs ++ take q rest = ap (λ m. take m (bs ++ rest)) (sym e) ∙ take-append-add bs rest q in
    subst (Reads n p (es ∷ ws))
    (sym (cond-true _ _ _ (le-leb (6 + 6 * length es) p (omega (arith, long, size))) ∙ ap (λ m. suc (whole_in m ws)) (sym same)))
    (ap (replayed n) here
    ∙ replayed-whole n (bs ++ take q rest) es (length bs) (omega (arith, small)) (record-back n es (take q rest) (omega (arith, small)) fine.0)
    ∙ ap (λ l. after es (length bs) (replayed (suc n) l)) (drop_at bs (take q rest) (length bs) refl)
    ∙ ap (after es (length bs)) (cut-from ws (suc n) q fine.1 (omega (arith, small)))
    ∙ ap (good (es ∷ take k ws)) (sym (length-append bs (file_from (suc n) (take k ws))))))
    (cases_lt p (length bs))

pub cut_anywhere : CutAnywhere
cut_anywhere ws p fine = cut-from ws 0 p fine.1 (omega (arith, fine.0))

all_whole : (ws : List (List Entry)) (n : ℕ) → whole_in (length (file_from n ws)) ws ≡ length ws
unfolding file_from whole_in
all_whole [] n = refl
all_whole (es ∷ ws) n =
    let l = length-append (record_of n es) (file_from (suc n) ws) in
    let size = length-record n es in
    let left : length (record_of n es ++ file_from (suc n) ws) - (6 + 6 * length es) ≡ length (file_from (suc n) ws) = omega (arith, l, size) in
    cond-true _ _ _ (le-leb (6 + 6 * length es) _ (omega (arith, l, size))) ∙ ap (λ m. suc (whole_in m ws)) left ∙ ap suc (all_whole ws (suc n))

-- cut at its end it is whole
pub file-back : FileBack
file-back ws fine =
    let p = length (file_of ws) in
    let every : take (whole_in p ws) ws ≡ ws = ap (λ k. take k ws) (all_whole ws 0) ∙ take_all (length ws) ws (omega arith) in
    ap (replayed 0) (sym (take_all p (file_of ws) (omega arith))) ∙ cut_anywhere ws p fine ∙ ap (λ l. good l (length (file_of l))) every
