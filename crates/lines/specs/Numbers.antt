-- Numbers in decimal digits. A number above 4,294,967,295 is only known to be that: it counts as 4,294,967,296.
use Rattle.std.specs.Prelude.{ℕ, ◌+◌, ◌-◌, ◌*◌, min, Bool, false, cond, not, ◌||◌, List, length, Some, None, Option, ◌==◌, nat_lt}
use Rattle.std.specs.List.{fold, list_all}
use Rattle.std.specs.Option.{unwrap_or}
use Rattle.std.specs.Char.{is_ascii_digit}

-- the number with the digit b behind it
abbrev pub with_digit : ℕ → ℕ → ℕ
with_digit n b = min (n * 10 + (b - 48)) 4294967296

-- the number that a word says, if it has a digit and nothing else
abbrev pub numeral : List ℕ → Option ℕ
numeral s = cond (length s == 0 || not (list_all is_ascii_digit s)) None (Some (fold with_digit 0 s))

-- the number, at most 4,294,967,295, or another where there is none
abbrev pub narrowed : Option ℕ → ℕ → ℕ
narrowed n other = min (unwrap_or n other) 4294967295

-- there is a number, and it is at most 4,294,967,295
abbrev pub fitting : Option ℕ → Bool
fitting None = false
fitting (Some n) = nat_lt n 4294967296
