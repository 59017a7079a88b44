-- The lengths of lent words.
use Rattle.std.specs.Prelude.{ℕ, Bool, cond, ◌&&◌, List, length, ◌==◌}
use Rattle.versions.specs.declared.words.Words.{Words}

-- one word for each key, and one for each place and kind
abbrev pub sized : Words → Bool
sized w = length w.heads.now == 4096 && (length w.next.now == 32769 && (length w.number.now == 32769 && length w.value.now == 32769))

-- how many versions there is room for: all, or none where a length is another
abbrev pub room_in : Words → Words → List ℕ → ℕ
room_in w v stack = cond (sized w && (sized v && length stack == 32768)) 32768 0
