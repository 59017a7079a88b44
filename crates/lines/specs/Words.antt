-- The words of a line. They stand apart by spaces (32) or tabs (9).
use Rattle.std.specs.Prelude.{ℕ, zero, suc, Bool, not, ◌||◌, List, take, drop, ◌==◌}
use Rattle.std.specs.List.{position_or_len}
use Rattle.std.specs.Str.Lines.{strip_carriage_return}

abbrev pub blank : ℕ → Bool
blank b = b == 32 || b == 9

-- without the blanks in front
abbrev pub trimmed : List ℕ → List ℕ
trimmed s = drop (position_or_len (λ b. not (blank b)) s) s

-- the first word, empty where there is none
unfoldable pub word : List ℕ → List ℕ
word s = take (position_or_len blank (trimmed s)) (trimmed s)

-- what stands behind the first word
unfoldable pub behind : List ℕ → List ℕ
behind s = drop (position_or_len blank (trimmed s)) (trimmed s)

-- the word with n others before it
abbrev pub field : ℕ → List ℕ → List ℕ
field zero s = word s
field (suc n) s = field n (behind s)

-- without the carriage return (13) at the end
abbrev pub unended : List ℕ → List ℕ
unended s = strip_carriage_return s
