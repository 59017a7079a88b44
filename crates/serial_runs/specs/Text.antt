-- The text of an order, as bytes.
use Rattle.std.specs.Prelude.{ℕ, List, [], ◌∷◌, ◌++◌, codes, decimal}

-- the numbers, a space apart, the first behind the separator
unfoldable pub numerals : List ℕ → List ℕ → List ℕ
numerals separator [] = []
numerals separator (n ∷ ns) = separator ++ (decimal n ++ numerals (codes " ") ns)

-- the numbers, a space apart, and a line feed
abbrev pub line_text : List ℕ → List ℕ
line_text ns = numerals [] ns ++ 10 ∷ []
