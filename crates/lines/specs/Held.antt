-- Lines, gathered from chunks of the input. A line ends at a line feed (10).
use Rattle.std.specs.Prelude.{◌≡◌, ℕ, ◌+◌, ◌<◌, ◌≤◌, cond, List, [], ◌∷◌, ◌++◌, length, take, drop, Some, None, Ok, Err, Option, Result, ◌==◌, nat_lt}
use Rattle.std.specs.List.{position_or_len}
use Rattle.model.specs.declared.Request.{Request}
use Rattle.model.specs.declared.Request.TheVariants.{Unknown}
use Rattle.arrayvec.specs.ArrayVec.{ArrayVec}
use Rattle.lines.specs.declared.buffer.LineBuffer.{LineBuffer}
use Rattle.lines.specs.Requests.{parsed, missing}

-- the bytes of the line t are held, or only that there are more than 1,024 of them
abbrev pub Held : Option (ArrayVec ℕ) → List ℕ → Type 0
Held (Some v) t = (v.items ≡ t) × (length t ≤ 1024)
Held None t = 1024 < length t

abbrev pub Holds : LineBuffer → List ℕ → Type 0
Holds b t = Held b.line t

-- what a line asks for; one of more than 1,024 bytes is no call
abbrev pub request_of : List ℕ → Request
request_of t = cond (nat_lt 1024 (length t)) Unknown (parsed t)

-- what is made of the input line by line, where the line before it is t so far: each line that ends adds to what comes
-- of the input behind it, and the line that does not end is handed to last
unfoldable pub scan : {A : Type 0} → (List ℕ → A → A) → (List ℕ → A) → List ℕ → List ℕ → A
scan line last t [] = last t
scan line last t (b ∷ s) = cond (b == 10) (line t (scan line last [] s)) (scan line last (t ++ b ∷ []) s)

-- the requests of the lines that end in the input s, where the line before it is t so far
abbrev pub requests : List ℕ → List ℕ → List Request
requests t s = scan (λ u qs. request_of u ∷ qs) (λ u. []) t s

-- the line that has not ended after the input s
abbrev pub pending : List ℕ → List ℕ → List ℕ
pending t s = scan (λ u v. v) (λ u. u) t s

-- the request of the line that has not ended when the input ends
abbrev pub last_of : List ℕ → Option Request
last_of t = cond (missing t) None (Some (request_of t))

-- how many bytes stand before the first line feed
abbrev pub line_end : List ℕ → ℕ
line_end s = position_or_len (λ b. b == 10) s

-- the first line that ends in the input s
abbrev pub first_line : List ℕ → List ℕ
first_line s = take (line_end s) s

-- a line ends in the input s, and rest stands behind its line feed
abbrev pub Ends : List ℕ → List ℕ → Type 0
Ends s rest = (line_end s < length s) × (rest ≡ drop (line_end s + 1) s)

-- the requests of the chunk s were put behind others, and the buffer has what is left of it; where memory fails, those
-- that were put are a first part of them
abbrev pub Took : {X Y : Type 0} → List ℕ → List ℕ → List Request → List Request → LineBuffer → Result X Y → Type 0
Took t s others all b (Ok x) = (all ≡ others ++ requests t s) × Holds b (pending t s)
Took t s others all b (Err y) = (rest : List Request) × (all ++ rest ≡ others ++ requests t s)

-- however an input is cut in two, the requests are the same
abbrev pub CutAnywhere : Type 0
CutAnywhere =
    (t a b : List ℕ) → (requests t (a ++ b) ≡ requests t a ++ requests (pending t a) b) × (pending t (a ++ b) ≡ pending (pending t a) b)
