-- The text of an answer, as bytes. A line ends at a line feed (10).
use Rattle.std.specs.Prelude.{ℕ, List, [], ◌∷◌, ◌++◌, Ok, Err, vec_items, codes, decimal, Result}
use Rattle.model.specs.declared.Entry.{Entry}
use Rattle.model.specs.declared.Counts.{Counts}
use Rattle.model.specs.declared.Answer.{Answer}
use Rattle.model.specs.declared.Answer.TheVariants.{Done, Found, Committed, Shown}
use Rattle.model.specs.declared.Refusal.{Refusal}
use Rattle.model.specs.Refusals.{number_of}

-- the pair, behind what parts it from the one before
abbrev pub pair : List ℕ → Entry → List ℕ
pair separator e = separator ++ (decimal e.key ++ (codes "=" ++ decimal e.value))

-- the pairs, a space apart, the first behind the separator
unfoldable pub pairs : List ℕ → List Entry → List ℕ
pairs separator [] = []
pairs separator (e ∷ es) = pair separator e ++ pairs (codes " ") es

abbrev pub counts_text : Counts → List ℕ
counts_text s = decimal s.commits ++ (codes " " ++ (decimal s.versions ++ (codes " " ++ (decimal s.busy ++ 10 ∷ []))))

abbrev pub refusal_text : Refusal → List ℕ
refusal_text y = codes "no " ++ (decimal (number_of y) ++ 10 ∷ [])

abbrev pub text_of : Result Answer Refusal → List ℕ
text_of (Ok Done) = []
text_of (Ok (Found v)) = pairs [] (vec_items v) ++ 10 ∷ []
text_of (Ok (Committed n)) = decimal n ++ 10 ∷ []
text_of (Ok (Shown s)) = counts_text s
text_of (Err y) = refusal_text y

-- memory can fail only where something is written
abbrev pub Refusable : {X Y : Type 0} → Result Answer Refusal → Result X Y → Type 0
Refusable (Ok Done) (Ok x) = Unit {0}
Refusable (Ok Done) (Err y) = ⊥
Refusable (Ok (Found v)) r = Unit {0}
Refusable (Ok (Committed n)) r = Unit {0}
Refusable (Ok (Shown s)) r = Unit {0}
Refusable (Err y) r = Unit {0}
