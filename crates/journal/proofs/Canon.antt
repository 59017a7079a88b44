-- What is read is what stands there: a whole record's bytes are those of its number and writes.
use Rattle.std.proofs.Common.{◌≡◌, ℕ, zero, suc, ◌+◌, ◌*◌, ◌/◌, ◌%◌, ◌^◌, ◌<◌, ◌≤◌, false, ltb, List, [], ◌∷◌, ◌++◌, length, get_or, take, drop, sym, refl, ap, ◌∙◌, subst, arith, take-add, w8, Fits}
use Rattle.std.specs.List.{flat_map, AllByRecursion}
use Rattle.std.proofs.ByRecursion.{All-drop, All-from_get_or}
use Rattle.std.proofs.lemmas.List.{length-drop}
use Rattle.std.proofs.lemmas.Bool.{cond_both, ltb-true, ltb-false, or_parts}
use Rattle.model.specs.declared.Entry.{Entry}
use Rattle.journal.specs.declared.types.Fault.TheVariants.{WrongNumber}
use Rattle.model.specs.Transactions.{outside}
use Rattle.journal.specs.Records.{be2, be4, entry_bytes, head_bytes, record_of, FineEntry, FineCommit}
use Rattle.journal.specs.Parsing.{of2, of4, entry_of, entries_of, counted, Reading, whole, short, faulty, parsed, RecordIn}
use Rattle.journal.specs.Files.{file_from, Opened, good, bad, after, onward, turned, replayed, opened, Read, ReadIn}
use Rattle.journal.specs.Laws.{Canonical, ReadFine}
use Rattle.journal.proofs.Reading.{whole-within}

abbrev Small : List ℕ → Type 0
Small bs = AllByRecursion (λ b. b < 256) bs

small_drop : (n : ℕ) (bs : List ℕ) → Small bs → Small (drop n bs)
small_drop n bs s = All-drop (λ b. b < 256) n bs s

be2-of2 : (a b : ℕ) → a < 256 → b < 256 → be2 (a * 256 + b) ≡ a ∷ b ∷ []
unfolding be2
be2-of2 a b ha hb =
    let x : (a * 256 + b) / 256 % 256 ≡ a = omega arith in
    let y : (a * 256 + b) % 256 ≡ b = omega arith in
    cc (x, y)

be4-of4 : (a b c d : ℕ) → a < 256 → b < 256 → c < 256 → d < 256 → be4 (a * 16777216 + b * 65536 + c * 256 + d) ≡ a ∷ b ∷ c ∷ d ∷ []
unfolding be4
be4-of4 a b c d ha hb hc hd =
    let n = a * 16777216 + b * 65536 + c * 256 + d in
    let w : n / 16777216 % 256 ≡ a = omega arith in
    let x : n / 65536 % 256 ≡ b = omega arith in
    let y : n / 256 % 256 ≡ c = omega arith in
    let z : n % 256 ≡ d = omega arith in
    cc (w, x, y, z)

number_forth : (bs : List ℕ) → 4 ≤ length bs → Small bs → be4 (of4 bs) ≡ take 4 bs
unfolding of4
number_forth [] h s = absurd (omega arith)
number_forth (a ∷ []) h s = absurd (omega arith)
number_forth (a ∷ b ∷ []) h s = absurd (omega arith)
number_forth (a ∷ b ∷ c ∷ []) h s = absurd (omega arith)
number_forth (a ∷ b ∷ c ∷ d ∷ bs) h s = be4-of4 a b c d s.0 s.1.0 s.1.1.0 s.1.1.1.0

key_forth : (bs : List ℕ) → 2 ≤ length bs → Small bs → be2 (of2 bs) ≡ take 2 bs
unfolding of2
key_forth [] h s = absurd (omega arith)
key_forth (a ∷ []) h s = absurd (omega arith)
key_forth (a ∷ b ∷ bs) h s = be2-of2 a b s.0 s.1.0

entry_forth : (bs : List ℕ) → 6 ≤ length bs → Small bs → entry_bytes (entry_of bs) ≡ take 6 bs
unfolding entry_bytes entry_of
entry_forth bs h s =
    ap (λ l. l ++ be4 (of4 (drop 2 bs))) (key_forth bs (omega arith) s)
    ∙ ap (λ l. take 2 bs ++ l) (number_forth (drop 2 bs) (omega (arith, length-drop 2 bs)) (small_drop 2 bs s))
    ∙ sym (take-add 2 4 bs)

entries_forth : (n : ℕ) (bs : List ℕ) → 6 * n ≤ length bs → Small bs → flat_map entry_bytes (entries_of n bs) ≡ take (6 * n) bs
unfolding entries_of
entries_forth zero bs h s = refl
entries_forth (suc n) bs h s =
    let e : 6 + 6 * n ≡ 6 * suc n = omega arith in
    ap (λ l. l ++ flat_map entry_bytes (entries_of n (drop 6 bs))) (entry_forth bs (omega arith) s)
    ∙ ap (λ l. take 6 bs ++ l) (entries_forth n (drop 6 bs) (omega (arith, length-drop 6 bs)) (small_drop 6 bs s))
    ∙ sym (take-add 6 (6 * n) bs)
    ∙ ap (λ m. take m bs) e

-- the first six bytes
head_forth : (n : ℕ) (bs : List ℕ) → 6 ≤ length bs → Small bs → get_or bs 0 0 ≡ 1 → of4 (drop 1 bs) ≡ n → head_bytes n (counted bs) ≡ take 6 bs
unfolding head_bytes
head_forth n [] h s kind number = absurd (omega arith)
head_forth n (a ∷ []) h s kind number = absurd (omega arith)
head_forth n (a ∷ b ∷ []) h s kind number = absurd (omega arith)
head_forth n (a ∷ b ∷ c ∷ []) h s kind number = absurd (omega arith)
head_forth n (a ∷ b ∷ c ∷ d ∷ []) h s kind number = absurd (omega arith)
head_forth n (a ∷ b ∷ c ∷ d ∷ e ∷ []) h s kind number = absurd (omega arith)
head_forth n (a ∷ b ∷ c ∷ d ∷ e ∷ f ∷ bs) h s kind number =
    ap (λ m. 1 ∷ (be4 m ++ (f ∷ []))) (sym number)
    ∙ ap (λ l. 1 ∷ (l ++ (f ∷ []))) (number_forth (b ∷ c ∷ d ∷ e ∷ f ∷ bs) (omega arith) s.1)
    ∙ ap (λ x. x ∷ b ∷ c ∷ d ∷ e ∷ f ∷ []) (sym kind)

record_forth : (n : ℕ) (bs : List ℕ) (es : List Entry) (k : ℕ) → Small bs → parsed n bs ≡ whole es k → record_of n es ≡ take k bs
unfolding record_of
record_forth n bs es k s e =
    let w = whole-within n bs es k e in
    ap (λ m. head_bytes n m ++ flat_map entry_bytes es) (sym w.count)
    ∙ ap (λ l. l ++ flat_map entry_bytes es) (head_forth n bs (omega (arith, w.size, w.room)) s w.kind w.number)
    ∙ ap (λ l. take 6 bs ++ flat_map entry_bytes l) w.reads
    ∙ ap (λ l. take 6 bs ++ l) (entries_forth (length es) (drop 6 bs) (omega (arith, w.size, w.room, length-drop 6 bs)) (small_drop 6 bs s))
    ∙ sym (take-add 6 (6 * length es) bs)
    ∙ ap (λ m. take m bs) (sym w.size)

small_at : (bs : List ℕ) (i : ℕ) → Small bs → get_or bs i 0 < 256
small_at [] i s = omega arith
small_at (b ∷ bs) zero s = s.0
small_at (b ∷ bs) (suc i) s = small_at bs i s.1

number_small : (bs : List ℕ) → Small bs → of4 bs < 2 ^ 32
unfolding of4
number_small bs s = omega (arith, small_at bs 0 s, small_at bs 1 s, small_at bs 2 s, small_at bs 3 s)

values_small : (n : ℕ) (bs : List ℕ) → Small bs → AllByRecursion (λ (e : Entry). e.value < 2 ^ 32) (entries_of n bs)
unfolding entries_of entry_of
values_small zero bs s = tt
values_small (suc n) bs s = (number_small (drop 2 bs) (small_drop 2 bs s), values_small n (drop 6 bs) (small_drop 6 bs s))

all-fine : (es : List Entry) → outside es ≡ false → AllByRecursion (λ (e : Entry). e.value < 2 ^ 32) es → AllByRecursion FineEntry es
all-fine [] keys values = tt
all-fine (e ∷ es) keys values =
    let k = or_parts (ltb 4095 e.key) (outside es) keys in
    ((ltb-false 4095 e.key k.0, values.0), all-fine es k.1 values.1)

record-fine : (n : ℕ) (bs : List ℕ) (es : List Entry) (k : ℕ) → Small bs → parsed n bs ≡ whole es k → FineCommit es
record-fine n bs es k s e =
    let w = whole-within n bs es k e in
    (w.few, all-fine es w.keys (subst (AllByRecursion (λ (e : Entry). e.value < 2 ^ 32)) (sym w.reads) (values_small (length es) (drop 6 bs) (small_drop 6 bs s))))

record_as : (n : ℕ) (bs : List ℕ) (p : Reading) → Small bs → parsed n bs ≡ p → RecordIn n bs p
record_as n bs (whole es k) s e = (sym (record_forth n bs es k s e), record-fine n bs es k s e)
record_as n bs short s e = tt
record_as n bs (faulty why) s e = tt

-- bytes that fit their type
all_small : (bs : List ℕ) → ((i : ℕ) → Fits w8 (get_or bs i 0)) → Small bs
all_small bs h = All-from_get_or (λ b. b < 256) bs 0 (λ i l. omega (arith, h i))

pub record_in : (n : ℕ) (bs : List ℕ) → ((i : ℕ) → Fits w8 (get_or bs i 0)) → RecordIn n bs (parsed n bs)
record_in n bs h = record_as n bs (parsed n bs) (all_small bs h) refl

none_read : (n : ℕ) (bs : List ℕ) → n < 2 ^ 32 → Read n bs [] 0
unfolding file_from
none_read n bs small = record { inside = omega arith; bytes = refl; fine = tt; few = omega (arith, small) }

after_read : (n : ℕ) (bs : List ℕ) (es : List Entry) (k : ℕ) (r : Opened) → Small bs → parsed n bs ≡ whole es k → ReadIn (suc n) (drop k bs) r → ReadIn n bs (after es k r)
unfolding file_from
after_read n bs es k (good ws used) s e h =
    let w = whole-within n bs es k e in
    record {
      inside = omega (arith, w.room, h.inside, length-drop k bs);
      bytes = take-add k used bs ∙ ap (λ l. take k bs ++ l) h.bytes ∙ ap (λ l. l ++ file_from (suc n) ws) (sym (record_forth n bs es k s e));
      fine = (record-fine n bs es k s e, h.fine);
      few = omega (arith, h.few);
    }
after_read n bs es k (bad at why) s e h = tt

onward-read : (n : ℕ) (bs : List ℕ) (p : Reading) (go : ℕ → Opened) → n < 2 ^ 32 → Small bs → parsed n bs ≡ p →
    ((k : ℕ) → suc n < 2 ^ 32 → ReadIn (suc n) (drop k bs) (go k)) → ReadIn n bs (onward n p go)
onward-read n bs (whole es k) go small s e h =
    cond_both (ltb (suc n) (2 ^ 32)) (after es k (go k)) (bad 0 WrongNumber) (ReadIn n bs)
    (λ next. after_read n bs es k (go k) s e (h k (ltb-true (suc n) (2 ^ 32) next))) (λ _. tt)
onward-read n bs short go small s e h = none_read n bs small
onward-read n bs (faulty why) go small s e h = tt

turned-read : (t n : ℕ) (bs : List ℕ) → n < 2 ^ 32 → Small bs → ReadIn n bs (turned t n bs)
unfolding turned
turned-read zero n bs small s = none_read n bs small
turned-read (suc t) n bs small s = onward-read n bs (parsed n bs) _ small s refl (λ k next. turned-read t (suc n) (drop k bs) next (small_drop k bs s))

pub read_in : (n : ℕ) (bs : List ℕ) → n < 2 ^ 32 → ((i : ℕ) → Fits w8 (get_or bs i 0)) → ReadIn n bs (replayed n bs)
read_in n bs small h = turned-read (length bs) n bs small (all_small bs h)

read_as : (bs : List ℕ) (ws : List (List Entry)) (n : ℕ) → Small bs → opened bs ≡ good ws n → Read 0 bs ws n
read_as bs ws n s e = subst (ReadIn 0 bs) e (turned-read (length bs) 0 bs (omega arith) s)

pub canonical : Canonical
canonical bs ws n s e = (read_as bs ws n s e).bytes

pub read-fine : ReadFine
read-fine bs ws n s e = let r = read_as bs ws n s e in (omega (arith, r.few), r.fine)
