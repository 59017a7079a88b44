-- What a line asks for.
use Rattle.std.specs.Prelude.{ℕ, ◌+◌, Bool, true, cond, not, ◌&&◌, ◌||◌, List, length, is_some, Some, None, codes, Option, ◌==◌}
use Rattle.std.specs.Str.{bytes_eq}
use Rattle.model.specs.declared.Level.{Level}
use Rattle.model.specs.declared.Level.TheVariants.{Latest, Snapshot, Serial}
use Rattle.model.specs.declared.Call.{Call}
use Rattle.model.specs.declared.Call.TheVariants.{Begin, Read, Write, Commit, Abort, Sweep, Sync, Stop, Show}
use Rattle.model.specs.declared.Request.{Request}
use Rattle.model.specs.declared.Request.TheVariants.{Whole, Faulty, Slotless, Unknown}
use Rattle.lines.specs.Words.{field, unended}
use Rattle.lines.specs.Numbers.{numeral, narrowed, fitting}

-- the word is missing
abbrev pub missing : List ℕ → Bool
missing w = length w == 0

-- a missing level counts as one that there is
abbrev pub level_of : List ℕ → Option Level
level_of w =
    cond (missing w || bytes_eq w (codes "latest")) (Some Latest)
    (cond (bytes_eq w (codes "snapshot")) (Some Snapshot)
    (cond (bytes_eq w (codes "serial")) (Some Serial) None))

-- by whether the slot can be read, and the rest of the line
abbrev pub judged : Call → Bool → Bool → Request
judged c slot whole = cond slot (cond whole (Whole c) (Faulty c)) (Slotless c)

-- a part that can't be read counts as 0
abbrev pub part : List ℕ → ℕ
part w = narrowed (numeral w) 0

abbrev pub plain : Call → List ℕ → Request
plain c a = judged c true (missing a)

abbrev pub slot_only : (ℕ → Call) → List ℕ → List ℕ → Request
slot_only call a b = judged (call (part a)) (is_some (numeral a)) (missing b)

abbrev pub begin_of : List ℕ → List ℕ → List ℕ → Request
begin_of a b c = judged (Begin (part a) (level_of b)) (is_some (numeral a)) (not (missing b) && missing c)

-- an end that can't be read counts as one above the start
abbrev pub read_of : List ℕ → List ℕ → List ℕ → List ℕ → Request
read_of a b c d =
    judged (Read (part a) (part b) (narrowed (numeral c) (part b + 1))) (is_some (numeral a))
    (is_some (numeral b) && (is_some (numeral c) && missing d))

abbrev pub write_of : List ℕ → List ℕ → List ℕ → List ℕ → Request
write_of a b c d =
    judged (Write (part a) (part b) (part c)) (is_some (numeral a))
    (is_some (numeral b) && (fitting (numeral c) && missing d))

-- by the first word of the line, and the four behind it
abbrev pub asked : List ℕ → List ℕ → List ℕ → List ℕ → List ℕ → Request
asked w a b c d =
    cond (bytes_eq w (codes "begin")) (begin_of a b c)
    (cond (bytes_eq w (codes "read")) (read_of a b c d)
    (cond (bytes_eq w (codes "write")) (write_of a b c d)
    (cond (bytes_eq w (codes "commit")) (slot_only Commit a b)
    (cond (bytes_eq w (codes "abort")) (slot_only Abort a b)
    (cond (bytes_eq w (codes "sweep")) (plain Sweep a)
    (cond (bytes_eq w (codes "sync")) (plain Sync a)
    (cond (bytes_eq w (codes "stop")) (plain Stop a)
    (cond (bytes_eq w (codes "show")) (plain Show a) Unknown))))))))

abbrev pub parsed : List ℕ → Request
parsed line = asked (field 0 (unended line)) (field 1 (unended line)) (field 2 (unended line)) (field 3 (unended line)) (field 4 (unended line))
