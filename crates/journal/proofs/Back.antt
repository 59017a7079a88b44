-- What was written is read back; a record cut short is seen to be so.
use Rattle.std.proofs.Common.{◌≡◌, ℕ, ◌+◌, ◌*◌, ◌/◌, ◌%◌, ◌^◌, ◌<◌, ◌≤◌, false, ltb, List, [], ◌∷◌, ◌++◌, length, get_or, take, drop, sym, refl, ap, ◌∙◌, arith}
use native.Mathlib.Nat.{div-div-eq-div-mul}
use Rattle.std.specs.List.{flat_map, AllByRecursion}
use Rattle.std.proofs.lemmas.List.{length-append, get_or-take, length-take-le}
use Rattle.std.proofs.lemmas.Bool.{le-ltb, or_from}
use Rattle.std.proofs.lemmas.Bool.Decides.{nat_tests}
use Rattle.model.specs.declared.Entry.{Entry}
use Rattle.model.specs.Transactions.{outside}
use Rattle.journal.specs.Records.{be2, be4, entry_bytes, head_bytes, record_of, written, FineEntry, FineCommit}
use Rattle.journal.specs.Parsing.{of2, of4, entry_of, entries_of, counted, entries_in, whole, short, checked, parsed}
use Rattle.journal.specs.Laws.{RecordBack}
use Rattle.journal.proofs.Places.{length-record}

of2-be2 : (n : ℕ) (rest : List ℕ) → n < 2 ^ 16 → of2 (be2 n ++ rest) ≡ n
unfolding of2 be2
of2-be2 n rest h = omega arith

split : (n : ℕ) → n ≡ n / 256 * 256 + n % 256
split n = omega arith

sum4 : (n x y z d0 d1 d2 d3 : ℕ) → n ≡ x * 256 + d0 → x ≡ y * 256 + d1 → y ≡ z * 256 + d2 → z ≡ d3 → d3 * 16777216 + d2 * 65536 + d1 * 256 + d0 ≡ n
sum4 n x y z d0 d1 d2 d3 a b c d = omega arith

of4-be4 : (n : ℕ) (rest : List ℕ) → n < 2 ^ 32 → of4 (be4 n ++ rest) ≡ n
unfolding of4 be4
of4-be4 n rest h =
    sum4 n (n / 256) (n / 65536) (n / 16777216) (n % 256) (n / 256 % 256) (n / 65536 % 256) (n / 16777216 % 256)
    (split n)
    (split (n / 256) ∙ ap (λ m. m * 256 + n / 256 % 256) (div-div-eq-div-mul n 256 256))
    (split (n / 65536) ∙ ap (λ m. m * 256 + n / 65536 % 256) (div-div-eq-div-mul n 65536 256))
    (omega arith)

entry-back : (e : Entry) (rest : List ℕ) → FineEntry e → entry_of (entry_bytes e ++ rest) ≡ e
unfolding entry_of entry_bytes be2
entry-back e rest fine =
    let k : of2 (be2 e.key ++ (be4 e.value ++ rest)) ≡ e.key = of2-be2 e.key (be4 e.value ++ rest) (omega (arith, fine.0)) in
    let v = of4-be4 e.value rest fine.1 in
    ap (λ x. record { key = x; value = of4 (be4 e.value ++ rest) }) k ∙ ap (λ x. record { key = e.key; value = x }) v

entries-back : (es : List Entry) (rest : List ℕ) → AllByRecursion FineEntry es → entries_of (length es) (flat_map entry_bytes es ++ rest) ≡ es
unfolding entries_of entry_bytes be2 be4
entries-back [] rest fine = refl
entries-back (e ∷ es) rest fine =
    ap (λ x. x ∷ entries_of (length es) (flat_map entry_bytes es ++ rest)) (entry-back e (flat_map entry_bytes es ++ rest) fine.0)
    ∙ ap (λ l. e ∷ l) (entries-back es rest fine.1)

pub none_stray : (es : List Entry) → AllByRecursion FineEntry es → outside es ≡ false
none_stray [] fine = refl
none_stray (e ∷ es) fine = or_from (ltb 4095 e.key) (outside es) (le-ltb 4095 e.key fine.0.0) (none_stray es fine.1)

-- bytes that begin with a record
parsed-whole : (n : ℕ) (es : List Entry) (bs : List ℕ) → get_or bs 0 0 ≡ 1 → counted bs ≡ length es → 6 + 6 * length es ≤ length bs → of4 (drop 1 bs) ≡ n → length es ≤ 64 →
    entries_of (length es) (drop 6 bs) ≡ es → outside es ≡ false → parsed n bs ≡ whole es (6 + 6 * length es)
unfolding parsed checked
parsed-whole n es bs kind count long number few reads keys =
    let r : entries_in bs ≡ es = ap (λ k. entries_of k (drop 6 bs)) count ∙ reads in
    let f : outside (entries_in bs) ≡ false = ap outside r ∙ keys in
    grind (arith, nat_tests)

-- bytes that end before the record that they begin with
parsed-short : (n count : ℕ) (bs : List ℕ) → (0 < length bs → get_or bs 0 0 ≡ 1) → (5 < length bs → counted bs ≡ count) → length bs < 6 + 6 * count → parsed n bs ≡ short
unfolding parsed
parsed-short n count bs kind counts less = grind (arith, nat_tests)

pub record-back : RecordBack
unfolding record_of head_bytes be4
record-back n es rest small fine =
    parsed-whole n es (record_of n es ++ rest) refl refl (omega (arith, length-append (record_of n es) rest, length-record n es))
    (of4-be4 n (length es ∷ (flat_map entry_bytes es ++ rest)) small) fine.0 (entries-back es rest fine.1) (none_stray es fine.1)
    ∙ ap (whole es) (sym (length-record n es))

-- the same where it stands in front of what was there
pub written_back : (n : ℕ) (es : List Entry) (xs ys : List ℕ) → n < 2 ^ 32 → FineCommit es → ys ≡ written 0 (record_of n es) xs → parsed n ys ≡ whole es (6 + 6 * length es)
unfolding written
written_back n es xs ys small fine e = ap (parsed n) e ∙ record-back n es _ small fine ∙ ap (whole es) (length-record n es)

pub record-short : (n : ℕ) (es : List Entry) (p : ℕ) → p < length (record_of n es) → parsed n (take p (record_of n es)) ≡ short
unfolding record_of head_bytes be4
record-short n es p h =
    let bs = record_of n es in
    let len = length-take-le p bs (omega arith) in
    parsed-short n (length es) (take p bs) (λ some. get_or-take p bs 0 0 (omega arith)) (λ six. get_or-take p bs 5 0 (omega arith)) (omega (arith, length-record n es))
