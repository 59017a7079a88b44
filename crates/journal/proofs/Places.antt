-- Bytes written at a place, one part after another.
use Rattle.std.proofs.Common.{◌≡◌, ℕ, ◌+◌, ◌*◌, ◌<◌, ◌≤◌, List, [], ◌∷◌, ◌++◌, length, get_or, take, drop, set, sym, refl, ap, ◌∙◌, add-zero, add_assoc, add-one, arith}
use borrow.Rule.Slice.PartMut.{put_mid}
use Rattle.std.specs.List.{flat_map}
use Rattle.std.proofs.lemmas.List.{append_assoc, take_at, drop_at, drop-drop, length-append, length-take-le, set_split, take-append-drop, take_more, flat_map_more}
use Rattle.model.specs.declared.Entry.{Entry}
use Rattle.journal.specs.Records.{written, be2, be4, entry_bytes, head_bytes, record_of}

module _ (at : ℕ) (bs xs : List ℕ) (room : at + length bs ≤ length xs) where
  front_length : length (take at xs ++ bs) ≡ at + length bs
  front_length = length-append (take at xs) bs ∙ ap (λ n. n + length bs) (length-take-le at xs (omega arith))

  written_is : written at bs xs ≡ (take at xs ++ bs) ++ drop (at + length bs) xs
  unfolding written
  written_is = sym (append_assoc (take at xs) bs (drop (at + length bs) xs))

  take-written : take (at + length bs) (written at bs xs) ≡ take at xs ++ bs
  take-written = ap (take (at + length bs)) written_is ∙ take_at (take at xs ++ bs) _ _ front_length

  drop-written : (m : ℕ) → drop (at + length bs + m) (written at bs xs) ≡ drop (at + length bs + m) xs
  drop-written m =
      sym (drop-drop m (at + length bs) (written at bs xs))
      ∙ ap (drop m) (ap (drop (at + length bs)) written_is ∙ drop_at (take at xs ++ bs) _ _ front_length)
      ∙ drop-drop m (at + length bs) xs

  written_on : (cs : List ℕ) → written (at + length bs) cs (written at bs xs) ≡ written at (bs ++ cs) xs
  unfolding written
  written_on cs =
      ap (λ l. l ++ (cs ++ drop (at + length bs + length cs) (written at bs xs))) take-written
      ∙ ap (λ l. (take at xs ++ bs) ++ (cs ++ l)) (drop-written (length cs))
      ∙ append_assoc (take at xs) bs _
      ∙ ap (λ l. take at xs ++ l) (sym (append_assoc bs cs _))
      ∙ ap (λ n. take at xs ++ ((bs ++ cs) ++ drop n xs)) (add_assoc at (length bs) (length cs) ∙ ap (λ n. at + n) (sym (length-append bs cs)))

-- nothing
pub none_written : (at : ℕ) (xs : List ℕ) → written at [] xs ≡ xs
unfolding written
none_written at xs = ap (λ n. take at xs ++ drop n xs) (add-zero at) ∙ take-append-drop at xs

-- a part of the list, after a write that fills it
pub part-written : (at n : ℕ) (xs ys bs : List ℕ) → n ≡ length bs → ys ≡ bs → put_mid at n xs ys ≡ written at bs xs
unfolding written
part-written at n xs ys bs e f =
    ap (λ l. take at xs ++ (l ++ drop n (drop at xs))) f
    ∙ ap (λ l. take at xs ++ (bs ++ l)) (drop-drop n at xs ∙ ap (λ k. drop (at + k) xs) e)

-- one byte
pub set-written : (at b : ℕ) (xs : List ℕ) → at < length xs → set xs at b ≡ written at (b ∷ []) xs
unfolding written
set-written at b xs h = set_split xs at b h ∙ ap (λ n. take at xs ++ b ∷ drop n xs) (sym (add-one at))

-- two parts in a row: what the second write leaves
pub then-written : (at n : ℕ) (bs cs xs ys zs : List ℕ) → at + length bs ≤ length xs → n ≡ at + length bs →
    ys ≡ written at bs xs → zs ≡ written n cs ys → zs ≡ written at (bs ++ cs) xs
then-written at n bs cs xs ys zs room e f g = g ∙ ap (λ m. written m cs ys) e ∙ ap (written (at + length bs) cs) f ∙ written_on at bs xs room cs

pub length-entries : (es : List Entry) → length (flat_map entry_bytes es) ≡ 6 * length es
unfolding entry_bytes be2 be4
length-entries [] = refl
length-entries (e ∷ es) = length-append (entry_bytes e) (flat_map entry_bytes es) ∙ omega (arith, length-entries es)

pub length-record : (n : ℕ) (es : List Entry) → length (record_of n es) ≡ 6 + 6 * length es
unfolding record_of head_bytes be4
length-record n es = length-append (head_bytes n (length es)) (flat_map entry_bytes es) ∙ omega (arith, length-entries es)

-- one write of the commit more
pub more-written : (at n i : ℕ) (es : List Entry) (d : Entry) (xs ys zs : List ℕ) → i < length es → at + 6 * length es ≤ length xs → n ≡ at + 6 * i →
    ys ≡ written at (flat_map entry_bytes (take i es)) xs → zs ≡ written n (entry_bytes (get_or es i d)) ys → zs ≡ written at (flat_map entry_bytes (take (i + 1) es)) xs
more-written at n i es d xs ys zs h room e f g =
    let len : length (flat_map entry_bytes (take i es)) ≡ 6 * i = length-entries (take i es) ∙ ap (λ k. 6 * k) (length-take-le i es (omega arith)) in
    then-written at n _ _ xs ys zs (omega arith) (omega arith) f g
    ∙ ap (λ l. written at l xs) (flat_map_more entry_bytes [] (take i es) (get_or es i d) ∙ ap (flat_map entry_bytes) (sym (take_more es i d h)))
