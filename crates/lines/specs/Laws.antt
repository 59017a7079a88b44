-- What the reading of lines and the writing of answers come to, in words of their own.
use Rattle.std.specs.Prelude.{◌≡◌, ℕ, ◌+◌, ◌-◌, ◌*◌, ◌^◌, ◌<◌, min, true, false, cond, List, [], ◌∷◌, ◌++◌, length, Some, None, Ok, Err, vec_items, codes, decimal, Option, Result, ◌≢◌, nat_eq, slice_index_or}
use Rattle.std.specs.List.{AllByRecursion}
use Rattle.std.specs.Str.{all_ascii_digits}
use Rattle.model.specs.Lists.{any}
use Rattle.model.specs.declared.Level.{Level}
use Rattle.model.specs.declared.Level.TheVariants.{Latest, Snapshot, Serial}
use Rattle.model.specs.declared.Call.{Call}
use Rattle.model.specs.declared.Call.TheVariants.{Begin, Read, Write, Commit, Abort, Sweep, Sync, Stop, Show}
use Rattle.model.specs.declared.Entry.{Entry}
use Rattle.model.specs.declared.Answer.{Answer}
use Rattle.model.specs.declared.Answer.TheVariants.{Done, Found, Committed, Shown}
use Rattle.model.specs.declared.Refusal.{Refusal}
use Rattle.model.specs.declared.Request.TheVariants.{Whole, Unknown}
use Rattle.lines.specs.Words.{blank, unended}
use Rattle.lines.specs.Numbers.{numeral}
use Rattle.lines.specs.Requests.{parsed}
use Rattle.lines.specs.Said.{text_of}

-- the word, unless it is empty
abbrev pub ended : List ℕ → List (List ℕ)
ended [] = []
ended (b ∷ w) = (b ∷ w) ∷ []

-- the words of w and s, where w has no blank and its word may go on in s
unfoldable pub words_from : List ℕ → List ℕ → List (List ℕ)
words_from w [] = ended w
words_from w (b ∷ s) = cond (blank b) (ended w ++ words_from [] s) (words_from (w ++ b ∷ []) s)

-- all words of a line
abbrev pub words_of : List ℕ → List (List ℕ)
words_of s = words_from [] s

-- a line falls apart at each of its blanks, and what has no blank is one word, unless it is empty
abbrev pub Split : Type 0
Split =
    ((a : List ℕ) (b : ℕ) (c : List ℕ) → blank b ≡ true → words_of (a ++ b ∷ c) ≡ words_of a ++ words_of c)
    × ((w : List ℕ) → any blank w ≡ false → words_of w ≡ ended w)

-- one carriage return at the end is passed over, and nothing else
abbrev pub Return : Type 0
Return =
    (unended [] ≡ [])
    × ((s : List ℕ) → unended (s ++ 13 ∷ []) ≡ s)
    × ((s : List ℕ) (b : ℕ) → (b ≢ 13) → unended (s ++ b ∷ []) ≡ s ++ b ∷ [])

-- the words of a line without its carriage return
abbrev pub line_words : List ℕ → List (List ℕ)
line_words s = words_of (unended s)

-- what a line asks for depends on its words alone
abbrev pub SameWords : Type 0
SameWords = (s t : List ℕ) → line_words s ≡ line_words t → parsed s ≡ parsed t

-- the number that digits say, behind n
unfoldable pub value_from : ℕ → List ℕ → ℕ
value_from n [] = n
value_from n (b ∷ bs) = value_from (n * 10 + (b - 48)) bs

abbrev pub value_of : List ℕ → ℕ
value_of w = value_from 0 w

-- a word of digits is its number, and one above 4,294,967,295 only counts as more than that; any other word is none
abbrev pub Number : Type 0
Number =
    ((w : List ℕ) → 0 < length w → all_ascii_digits w ≡ true → numeral w ≡ Some (min (value_of w) 4294967296))
    × ((w : List ℕ) → all_ascii_digits w ≡ false → numeral w ≡ None)
    × (numeral [] ≡ None)

-- the first words of the calls
abbrev pub names : List (List ℕ)
names =
    codes "begin" ∷ codes "read" ∷ codes "write" ∷ codes "commit" ∷ codes "abort" ∷ codes "sweep" ∷ codes "sync" ∷ codes "stop" ∷ codes "show" ∷ []

abbrev pub NotNamed : List ℕ → Type 0
NotNamed w = AllByRecursion (λ (n : List ℕ). w ≢ n) names

-- a line without words is no call, and a line with words is none just where its first word names none
abbrev pub NoCall : Type 0
NoCall =
    ((s : List ℕ) → line_words s ≡ [] → parsed s ≡ Unknown)
    × ((s w : List ℕ) (ws : List (List ℕ)) → line_words s ≡ w ∷ ws → NotNamed w → parsed s ≡ Unknown)
    × ((s w : List ℕ) (ws : List (List ℕ)) → line_words s ≡ w ∷ ws → parsed s ≡ Unknown → NotNamed w)

abbrev pub level_name : Level → List ℕ
level_name Latest = codes "latest"
level_name Snapshot = codes "snapshot"
level_name Serial = codes "serial"

-- the words of a call
abbrev pub spelt : Call → List (List ℕ)
spelt (Begin s None) = []
spelt (Begin s (Some l)) = codes "begin" ∷ decimal s ∷ level_name l ∷ []
spelt (Read s a b) = codes "read" ∷ decimal s ∷ decimal a ∷ decimal b ∷ []
spelt (Write s k v) = codes "write" ∷ decimal s ∷ decimal k ∷ decimal v ∷ []
spelt (Commit s) = codes "commit" ∷ decimal s ∷ []
spelt (Abort s) = codes "abort" ∷ decimal s ∷ []
spelt Sweep = codes "sweep" ∷ []
spelt Sync = codes "sync" ∷ []
spelt Stop = codes "stop" ∷ []
spelt Show = codes "show" ∷ []

-- words with one space between them
unfoldable pub spaced : List (List ℕ) → List ℕ
spaced [] = []
spaced (w ∷ []) = w
spaced (w ∷ (v ∷ ws)) = w ++ 32 ∷ spaced (v ∷ ws)

-- the numbers are of 32 bits, and the level is a known one
abbrev pub Sayable : Call → Type 0
Sayable (Begin s None) = ⊥
Sayable (Begin s (Some l)) = s < 2 ^ 32
Sayable (Read s a b) = (s < 2 ^ 32) × (a < 2 ^ 32) × (b < 2 ^ 32)
Sayable (Write s k v) = (s < 2 ^ 32) × (k < 2 ^ 32) × (v < 2 ^ 32)
Sayable (Commit s) = s < 2 ^ 32
Sayable (Abort s) = s < 2 ^ 32
Sayable Sweep = Unit {0}
Sayable Sync = Unit {0}
Sayable Stop = Unit {0}
Sayable Show = Unit {0}

-- a line with the words of a call asks for it, and so does the call's own line
abbrev pub RoundTrip : Type 0
RoundTrip =
    ((c : Call) (s : List ℕ) → Sayable c → line_words s ≡ spelt c → parsed s ≡ Whole c)
    × ((c : Call) → Sayable c → parsed (spaced (spelt c)) ≡ Whole c)

-- a word of digits says a number, and the highest of 32 bits where it is above that
abbrev pub Says : ℕ → List ℕ → Type 0
Says n w = (0 < length w) × (all_ascii_digits w ≡ true) × (n ≡ min (value_of w) 4294967295)

abbrev pub SaysLevel : Option Level → List ℕ → Type 0
SaysLevel (Some l) w = w ≡ level_name l
SaysLevel None w = (w ≢ codes "latest") × (w ≢ codes "snapshot") × (w ≢ codes "serial")

-- the words ask for the call: so many, and each in its place
abbrev pub Asks : Call → List (List ℕ) → Type 0
Asks (Begin s l) ws = (length ws ≡ 3) × (slice_index_or ws 0 [] ≡ codes "begin") × Says s (slice_index_or ws 1 []) × SaysLevel l (slice_index_or ws 2 [])
Asks (Read s a b) ws = (length ws ≡ 4) × (slice_index_or ws 0 [] ≡ codes "read") × Says s (slice_index_or ws 1 []) × Says a (slice_index_or ws 2 []) × Says b (slice_index_or ws 3 [])
Asks (Write s k v) ws =
    (length ws ≡ 4) × (slice_index_or ws 0 [] ≡ codes "write") × Says s (slice_index_or ws 1 []) × Says k (slice_index_or ws 2 []) × Says v (slice_index_or ws 3 []) × (value_of (slice_index_or ws 3 []) < 2 ^ 32)
Asks (Commit s) ws = (length ws ≡ 2) × (slice_index_or ws 0 [] ≡ codes "commit") × Says s (slice_index_or ws 1 [])
Asks (Abort s) ws = (length ws ≡ 2) × (slice_index_or ws 0 [] ≡ codes "abort") × Says s (slice_index_or ws 1 [])
Asks Sweep ws = (length ws ≡ 1) × (slice_index_or ws 0 [] ≡ codes "sweep")
Asks Sync ws = (length ws ≡ 1) × (slice_index_or ws 0 [] ≡ codes "sync")
Asks Stop ws = (length ws ≡ 1) × (slice_index_or ws 0 [] ≡ codes "stop")
Asks Show ws = (length ws ≡ 1) × (slice_index_or ws 0 [] ≡ codes "show")

-- nothing is wrong with a line only where its words ask for the call
abbrev pub OnlyWhole : Type 0
OnlyWhole = (s : List ℕ) (c : Call) → parsed s ≡ Whole c → Asks c (line_words s)

-- a line feed stands at the end, and nowhere else
abbrev pub Line : List ℕ → Type 0
Line t = (s : List ℕ) × (t ≡ s ++ 10 ∷ []) × (any (λ (b : ℕ). nat_eq b 10) s ≡ false)

abbrev pub InLine : Result Answer Refusal → Type 0
InLine (Ok Done) = text_of (Ok Done) ≡ []
InLine (Ok (Found v)) = AllByRecursion (λ (e : Entry). (e.key < 2 ^ 32) × (e.value < 2 ^ 32)) (vec_items v) → Line (text_of (Ok (Found v)))
InLine (Ok (Committed n)) = n < 2 ^ 32 → Line (text_of (Ok (Committed n)))
InLine (Ok (Shown s)) = s.commits < 2 ^ 32 → s.versions < 2 ^ 32 → s.busy < 2 ^ 32 → Line (text_of (Ok (Shown s)))
InLine (Err y) = Line (text_of (Err y))

-- an answer is nothing or one line, where its numbers are of 32 bits
abbrev pub OneLine : Type 0
OneLine = (r : Result Answer Refusal) → InLine r
