-- What is known of a record that was read.
use Rattle.std.proofs.Common.{◌≡◌, ℕ, ◌+◌, ◌*◌, ◌≤◌, false, eqb, ltb, leb, List, [], length, get_or, drop, Some, None, Ok, Err, Result, sym, refl, ap, subst, arith}
use Rattle.std.proofs.lemmas.Bool.{cond_both, ltb-false, leb-true, eqb-true}
use Rattle.model.specs.declared.Entry.{Entry}
use Rattle.journal.specs.declared.types.Fault.{Fault}
use Rattle.journal.specs.declared.types.Record.{Record}
use Rattle.journal.specs.declared.types.Flaw.{Flaw}
use Rattle.journal.specs.declared.types.Fault.TheVariants.{KeyOutOfBounds}
use Rattle.model.specs.Transactions.{outside}
use Rattle.journal.specs.Parsing.{of4, entries_of, counted, entries_in, Reading, whole, short, faulty, checked, parsed, outlined}
use Rattle.journal.specs.Files.{flawed}
use Rattle.journal.proofs.Entries.{length-read}

-- a whole record with number n lies within the bytes, and a commit can have its writes
pub record Within (n : ℕ) (bs : List ℕ) (es : List Entry) (k : ℕ) : Type 0 where
  pub kind : get_or bs 0 0 ≡ 1
  pub number : of4 (drop 1 bs) ≡ n
  pub count : counted bs ≡ length es
  pub size : k ≡ 6 + 6 * length es
  pub room : k ≤ length bs
  pub few : length es ≤ 64
  pub keys : outside es ≡ false
  pub reads : es ≡ entries_of (length es) (drop 6 bs)

abbrev IsWithin : ℕ → List ℕ → Reading → Type 0
IsWithin n bs (whole es k) = Within n bs es k
IsWithin n bs short = Unit {0}
IsWithin n bs (faulty why) = Unit {0}

checked-within : (n : ℕ) (bs : List ℕ) → get_or bs 0 0 ≡ 1 → 6 + 6 * counted bs ≤ length bs → IsWithin n bs (checked n bs)
unfolding checked
checked-within n bs kind long =
    cond_both (eqb (of4 (drop 1 bs)) n) _ _ (IsWithin n bs) (λ number.
    cond_both (leb (counted bs) 64) _ _ (IsWithin n bs) (λ few.
    cond_both (outside (entries_in bs)) (faulty KeyOutOfBounds) (whole (entries_in bs) (6 + 6 * counted bs)) (IsWithin n bs) (λ _. tt) (λ keys.
    let l : length (entries_in bs) ≡ counted bs = length-read (counted bs) (drop 6 bs) in
    record {
      kind = kind;
      number = eqb-true _ _ number;
      count = sym l;
      size = ap (λ m. 6 + 6 * m) (sym l);
      room = long;
      few = omega (arith, l, leb-true _ _ few);
      keys = keys;
      reads = ap (λ m. entries_of m (drop 6 bs)) (sym l);
    }))
    (λ _. tt))
    (λ _. tt)

parsed-within : (n : ℕ) (bs : List ℕ) → IsWithin n bs (parsed n bs)
unfolding parsed
parsed-within n bs =
    cond_both (eqb (length bs) 0) _ _ (IsWithin n bs) (λ _. tt) (λ _.
    cond_both (eqb (get_or bs 0 0) 1) _ _ (IsWithin n bs) (λ kind.
    cond_both (ltb (length bs) 6) _ _ (IsWithin n bs) (λ _. tt) (λ _.
    cond_both (ltb (length bs) (6 + 6 * counted bs)) _ _ (IsWithin n bs) (λ _. tt) (λ long.
    checked-within n bs (eqb-true _ _ kind) (ltb-false _ _ long))))
    (λ _. tt))

pub whole-within : (n : ℕ) (bs : List ℕ) (es : List Entry) (k : ℕ) → parsed n bs ≡ whole es k → Within n bs es k
whole-within n bs es k e = subst (IsWithin n bs) e (parsed-within n bs)

-- what the reader's answer says of the reading
pub outline_whole : (p : Reading) (r : Record) → Ok (Some r) ≡ outlined p → (es : List Entry) × (p ≡ whole es r.bytes) × (length es ≡ r.count)
outline_whole (whole es k) r e =
    let same : r ≡ record { bytes = k; count = length es } = cc in
    (es, ap (λ (x : Record). whole es x.bytes) (sym same), ap (λ (x : Record). x.count) (sym same))
outline_whole short r e = absurd cc
outline_whole (faulty why) r e = absurd cc

pub outline_bad : (p : Reading) (why : Fault) → Err why ≡ outlined p → p ≡ faulty why
outline_bad (whole es k) why e = absurd cc
outline_bad short why e = absurd cc
outline_bad (faulty is) why e = let same : is ≡ why = cc in ap faulty same

pub outline_short : (p : Reading) → Ok None ≡ outlined p → p ≡ short
outline_short (whole es k) e = absurd cc
outline_short short e = refl
outline_short (faulty why) e = absurd cc

-- the same of the record that begins at a byte
pub flawed_ok : {A : Type 0} (at : ℕ) (r : Result A Fault) (x : A) → Ok x ≡ flawed at r → Ok x ≡ r
flawed_ok at (Ok y) x e = cc
flawed_ok at (Err why) x e = absurd cc

pub flawed_err : {A : Type 0} (at : ℕ) (r : Result A Fault) (f : Flaw) → Err f ≡ flawed at r → (why : Fault) × (f ≡ record { at = at; why = why }) × (Err why ≡ r)
flawed_err at (Ok y) f e = absurd cc
flawed_err at (Err why) f e = (why, cc, refl)

-- nothing is a record cut short
pub nothing_short : (n : ℕ) → parsed n [] ≡ short
unfolding parsed
nothing_short n = refl
