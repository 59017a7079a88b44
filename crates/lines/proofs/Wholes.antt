-- Where nothing is wrong with a line, its words ask for the call.
use Rattle.std.proofs.Common.{◌≡◌, ℕ, zero, suc, ◌+◌, ◌^◌, ◌<◌, ◌≤◌, min, Bool, true, false, cond, not, ◌&&◌, ◌||◌, List, [], ◌∷◌, ◌++◌, length, get_or, is_some, Some, None, codes, Option, sym, refl, ap, ◌∙◌, subst, arith, ltb-true}
use borrow.Author.Tests.{both_ways}
use Rattle.std.proofs.lemmas.Slice.Eq.{bytes_eq-Decides}
use Rattle.std.proofs.lemmas.Bool.{and_parts, not-true, eqb-true, eqb-false}
use Rattle.std.specs.List.{AllByRecursion}
use Rattle.std.specs.Str.{bytes_eq, all_ascii_digits}
use Rattle.model.specs.declared.Level.TheVariants.{Latest, Snapshot, Serial}
use Rattle.model.specs.declared.Call.{Call}
use Rattle.model.specs.declared.Call.TheVariants.{Begin, Read, Write, Commit, Abort, Sweep, Sync, Stop, Show}
use Rattle.model.specs.declared.Request.{Request}
use Rattle.model.specs.declared.Request.TheVariants.{Whole, Unknown}
use Rattle.lines.specs.Words.{blank}
use Rattle.lines.specs.Numbers.{numeral, narrowed, fitting}
use Rattle.lines.specs.Requests.{missing, level_of, judged, part, plain, slot_only, begin_of, read_of, write_of}
use Rattle.lines.specs.Laws.{ended, words_from, line_words, names, value_of, Says, SaysLevel, Asks, OnlyWhole}
use Rattle.lines.proofs.Splits.{asked_of, parsed-by}
use Rattle.lines.proofs.Digits.{numbers}
use Rattle.lines.proofs.Trips.{pick, each}

-- no word is empty
abbrev Some-word : List ℕ → Type 0
Some-word w = 0 < length w

all_join : (xs ys : List (List ℕ)) → AllByRecursion Some-word xs → AllByRecursion Some-word ys → AllByRecursion Some-word (xs ++ ys)
all_join [] ys f g = g
all_join (x ∷ xs) ys f g = (f.0, all_join xs ys f.1 g)

ended_some : (w : List ℕ) → AllByRecursion Some-word (ended w)
ended_some [] = tt
ended_some (b ∷ w) = (omega arith, tt)

words_some : (w s : List ℕ) → AllByRecursion Some-word (words_from w s)
unfolding words_from
words_some w [] = ended_some w
words_some w (b ∷ s) = by (blank b) (words_some [] s) (words_some (w ++ b ∷ []) s)
  where
    by : (q : Bool) → AllByRecursion Some-word (words_from [] s) → AllByRecursion Some-word (words_from (w ++ b ∷ []) s) → AllByRecursion Some-word (cond q (ended w ++ words_from [] s) (words_from (w ++ b ∷ []) s))
    by true f g = all_join (ended w) (words_from [] s) (ended_some w) f
    by false f g = g

-- where the word at k is missing there are at most k, and where it is not there are more
absent : (k : ℕ) (ws : List (List ℕ)) → AllByRecursion Some-word ws → missing (get_or ws k []) ≡ true → length ws ≤ k
absent k [] f h = omega arith
absent zero (w ∷ ws) f h = let e = eqb-true (length w) 0 h in let l = f.0 in absurd (omega arith)
absent (suc k) (w ∷ ws) f h = let l = absent k ws f.1 h in omega arith

present : (k : ℕ) (ws : List (List ℕ)) → 0 < length (get_or ws k []) → k < length ws
present k [] h = absurd (omega arith)
present zero (w ∷ ws) h = omega arith
present (suc k) (w ∷ ws) h = let l = present k ws h in omega arith

says-by : (q : Bool) (w : List ℕ) (other : ℕ) → all_ascii_digits w ≡ q → is_some (numeral w) ≡ true → Says (narrowed (numeral w) other) w
says-by true [] other e h = absurd (both_ways false refl (ap is_some (sym numbers.2) ∙ h))
says-by true (b ∷ w) other e h =
    let v : ℕ = value_of (b ∷ w) in
    (omega arith, e, ap (λ (o : Option ℕ). narrowed o other) (numbers.0 (b ∷ w) (omega arith) e) ∙ capped v)
  where
    capped : (v : ℕ) → min (min v 4294967296) 4294967295 ≡ min v 4294967295
    capped v = omega arith
says-by false w other e h = absurd (both_ways false refl (ap is_some (sym (numbers.1 w e)) ∙ h))

says : (w : List ℕ) (other : ℕ) → is_some (numeral w) ≡ true → Says (narrowed (numeral w) other) w
says w other h = says-by (all_ascii_digits w) w other refl h

fits_some : (o : Option ℕ) → fitting o ≡ true → is_some o ≡ true
fits_some None h = h
fits_some (Some n) h = refl

fits_small : (w : List ℕ) → fitting (numeral w) ≡ true → value_of w < 2 ^ 32
fits_small w h =
    let s = says w 0 (fits_some (numeral w) h) in
    let l = ltb-true (min (value_of w) 4294967296) 4294967296 (ap fitting (sym (numbers.0 w s.0 s.1)) ∙ h) in
    omega arith

says-level : (w : List ℕ) → missing w ≡ false → SaysLevel (level_of w) w
says-level w h = by (missing w) (bytes_eq w (codes "latest")) (bytes_eq w (codes "snapshot")) (bytes_eq w (codes "serial")) h refl refl refl
  where
    other : (n : List ℕ) → bytes_eq w n ≡ false → w ≡ n → ⊥
    other n e f = both_ways (bytes_eq w n) e ((bytes_eq-Decides w n).1 f)

    by : (m p q r : Bool) → m ≡ false → bytes_eq w (codes "latest") ≡ p → bytes_eq w (codes "snapshot") ≡ q → bytes_eq w (codes "serial") ≡ r →
        SaysLevel (cond (m || p) (Some Latest) (cond q (Some Snapshot) (cond r (Some Serial) None))) w
    by true p q r z e f g = absurd (both_ways true z refl)
    by false true q r z e f g = (bytes_eq-Decides w (codes "latest")).0 e
    by false false true r z e f g = (bytes_eq-Decides w (codes "snapshot")).0 f
    by false false false true z e f g = (bytes_eq-Decides w (codes "serial")).0 g
    by false false false false z e f g = (other (codes "latest") e, other (codes "snapshot") f, other (codes "serial") g)

-- what holds of each request under its own name holds of the one that is picked
abbrev Fit : List ℕ → (Request → Type 0) → List (List ℕ) → List Request → Type 0
Fit w P [] rs = Unit {0}
Fit w P (n ∷ ns) [] = Unit {0}
Fit w P (n ∷ ns) (r ∷ rs) = (w ≡ n → P r) × Fit w P ns rs

pick-fit : (w : List ℕ) (P : Request → Type 0) (ns : List (List ℕ)) (rs : List Request) → P Unknown → Fit w P ns rs → P (pick w ns rs)
pick-fit w P [] rs u f = u
pick-fit w P (n ∷ ns) [] u f = u
pick-fit w P (n ∷ ns) (r ∷ rs) u f = by (bytes_eq w n) refl (pick-fit w P ns rs u f.1)
  where
    by : (q : Bool) → bytes_eq w n ≡ q → P (pick w ns rs) → P (cond q r (pick w ns rs))
    by true e g = f.0 ((bytes_eq-Decides w n).0 e)
    by false e g = g

judged-whole : (d c : Call) (p q : Bool) → judged d p q ≡ Whole c → (d ≡ c) × (p ≡ true) × (q ≡ true)
judged-whole d c true true e = (cc, refl, refl)
judged-whole d c true false e = let z : ◌≡◌ {A = ℕ} 0 1 = cc in absurd (omega arith)
judged-whole d c false q e = let z : ◌≡◌ {A = ℕ} 0 1 = cc in absurd (omega arith)

module _ (ws : List (List ℕ)) (some : AllByRecursion Some-word ws) where
  -- the request, if whole, is for a call that the words ask for
  abbrev Right : Request → Type 0
  Right r = (c : Call) → r ≡ Whole c → Asks c ws

  abbrev at : ℕ → List ℕ
  at k = get_or ws k []

  exactly : (k : ℕ) → 0 < length (at k) → missing (at (suc k)) ≡ true → length ws ≡ suc k
  exactly k p h = let l = present k ws p in let m = absent (suc k) ws some h in omega arith

  begin-right : at 0 ≡ codes "begin" → Right (begin_of (at 1) (at 2) (at 3))
  begin-right n c e =
      let j = judged-whole (Begin (part (at 1)) (level_of (at 2))) c (is_some (numeral (at 1))) (not (missing (at 2)) && missing (at 3)) e in
      let k = and_parts (not (missing (at 2))) (missing (at 3)) j.2 in
      let m = not-true (missing (at 2)) k.0 in
      subst (λ (x : Call). Asks x ws) j.0 (exactly 2 (here m) k.1, n, says (at 1) 0 j.1, says-level (at 2) m)
    where
      here : missing (at 2) ≡ false → 0 < length (at 2)
      here m = let z = eqb-false (length (at 2)) 0 m in omega arith

  read_right : at 0 ≡ codes "read" → Right (read_of (at 1) (at 2) (at 3) (at 4))
  read_right n c e =
      let j = judged-whole (Read (part (at 1)) (part (at 2)) (narrowed (numeral (at 3)) (part (at 2) + 1))) c (is_some (numeral (at 1))) (is_some (numeral (at 2)) && (is_some (numeral (at 3)) && missing (at 4))) e in
      let k = and_parts (is_some (numeral (at 2))) (is_some (numeral (at 3)) && missing (at 4)) j.2 in
      let l = and_parts (is_some (numeral (at 3))) (missing (at 4)) k.1 in
      let t = says (at 3) (part (at 2) + 1) l.0 in
      subst (λ (x : Call). Asks x ws) j.0 (exactly 3 t.0 l.1, n, says (at 1) 0 j.1, says (at 2) 0 k.0, t)

  write-right : at 0 ≡ codes "write" → Right (write_of (at 1) (at 2) (at 3) (at 4))
  write-right n c e =
      let j = judged-whole (Write (part (at 1)) (part (at 2)) (part (at 3))) c (is_some (numeral (at 1))) (is_some (numeral (at 2)) && (fitting (numeral (at 3)) && missing (at 4))) e in
      let k = and_parts (is_some (numeral (at 2))) (fitting (numeral (at 3)) && missing (at 4)) j.2 in
      let l = and_parts (fitting (numeral (at 3))) (missing (at 4)) k.1 in
      let t = says (at 3) 0 (fits_some (numeral (at 3)) l.0) in
      subst (λ (x : Call). Asks x ws) j.0 (exactly 3 t.0 l.1, n, says (at 1) 0 j.1, says (at 2) 0 k.0, t, fits_small (at 3) l.0)

  slot-right : (call : ℕ → Call) (name : List ℕ) → ((s : ℕ) → (length ws ≡ 2) × (at 0 ≡ name) × Says s (at 1) → Asks (call s) ws) → at 0 ≡ name → Right (slot_only call (at 1) (at 2))
  slot-right call name f n c e =
      let j = judged-whole (call (part (at 1))) c (is_some (numeral (at 1))) (missing (at 2)) e in
      let t = says (at 1) 0 j.1 in
      subst (λ (x : Call). Asks x ws) j.0 (f (part (at 1)) (exactly 1 t.0 j.2, n, t))

  plain-right : (d : Call) (name : List ℕ) → 0 < length name → ((length ws ≡ 1) × (at 0 ≡ name) → Asks d ws) → at 0 ≡ name → Right (plain d (at 1))
  plain-right d name l f n c e =
      let j = judged-whole d c true (missing (at 1)) e in
      subst (λ (x : Call). Asks x ws) j.0 (f (exactly 0 (subst (λ (x : List ℕ). 0 < length x) (sym n) l) j.2, n))

  right : Right (asked_of ws)
  unfolding asked_of
  right = pick-fit (at 0) Right names (each (at 1) (at 2) (at 3) (at 4)) (λ c e. let z : ◌≡◌ {A = ℕ} 0 1 = cc in absurd (omega arith)) (
    begin-right,
    (
      read_right,
      (
        write-right,
        (
          slot-right Commit (codes "commit") (λ s x. x),
          (
            slot-right Abort (codes "abort") (λ s x. x),
            (
              plain-right Sweep (codes "sweep") (omega arith) (λ x. x),
              (
                plain-right Sync (codes "sync") (omega arith) (λ x. x),
                (
                  plain-right Stop (codes "stop") (omega arith) (λ x. x),
                  (plain-right Show (codes "show") (omega arith) (λ x. x), tt),
                ),
              ),
            ),
          ),
        ),
      ),
    ),
  )

pub only-whole : OnlyWhole
only-whole s c e = right (line_words s) (words_some [] _) c (sym (parsed-by s) ∙ e)
