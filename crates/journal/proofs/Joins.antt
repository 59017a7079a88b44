-- A file goes on with the records of what comes after.
use Rattle.std.proofs.Common.{◌≡◌, ℕ, suc, ◌+◌, List, [], ◌∷◌, ◌++◌, length, sym, ap, ◌∙◌, add-zero, arith}
use Rattle.std.proofs.lemmas.List.{append-nil, append_assoc}
use Rattle.model.specs.declared.Entry.{Entry}
use Rattle.journal.specs.Records.{record_of}
use Rattle.journal.specs.Files.{file_from}
use Rattle.journal.specs.Laws.{FilesJoin}

pub files_join : FilesJoin
unfolding file_from
files_join n [] vs = ap (λ m. file_from m vs) (sym (add-zero n))
files_join n (es ∷ ws) vs =
    let e : suc n + length ws ≡ n + suc (length ws) = omega arith in
    ap (λ l. record_of n es ++ l) (files_join (suc n) ws vs)
    ∙ sym (append_assoc (record_of n es) (file_from (suc n) ws) (file_from (suc n + length ws) vs))
    ∙ ap (λ m. (record_of n es ++ file_from (suc n) ws) ++ file_from m vs) e

-- one commit more
pub file_push : (n : ℕ) (ws : List (List Entry)) (es : List Entry) → file_from n (ws ++ es ∷ []) ≡ file_from n ws ++ record_of (n + length ws) es
unfolding file_from
file_push n ws es = files_join n ws (es ∷ []) ∙ ap (λ l. file_from n ws ++ l) (append-nil (record_of (n + length ws) es))

-- what is held of one file is the next, where the record went behind it
pub went_on : (m : ℕ) (es : List Entry) (xs ys : List ℕ) → ys ≡ xs ++ record_of m es →
    (n : ℕ) (ws : List (List Entry)) → xs ≡ file_from n ws → m ≡ n + length ws → ys ≡ file_from n (ws ++ es ∷ [])
went_on m es xs ys e n ws h k = e ∙ ap (λ l. l ++ record_of m es) h ∙ ap (λ x. file_from n ws ++ record_of x es) k ∙ sym (file_push n ws es)
