-- What a worked case says: what happens, what is answered, and what is true then.
use Rattle.std.specs.Prelude.{◌≡◌, ℕ, ◌≤◌, List, [], ◌∷◌, ◌++◌, take}
use Rattle.std.specs.List.{AllByRecursion}
use Rattle.model.specs.Versions.{Version}
use Rattle.history.specs.Engine.{Engine, fresh, txns, count, held_at, Reply, reply_to, bytes_in, Event, Called, Stopped, step, led}
use Rattle.order.specs.Order.{line}

-- what each call is answered, along the events from e on
unfoldable pub answers_from : Engine → List Event → List Reply
answers_from e [] = []
answers_from e (Called c ∷ xs) = reply_to c e ∷ answers_from (step (Called c) e) xs
answers_from e (Stopped p ∷ xs) = answers_from (step (Stopped p) e) xs

abbrev pub answers_of : List Event → List Reply
answers_of h = answers_from fresh h

-- what can be said of a run: the line of its commits; the versions of a key that are held after its first so many events;
-- how many commits a stop at its end may leave, from the fewest to the most
pub data Fact : Type 0 where
  line_is : List ℕ → Fact
  held_after : (events key : ℕ) → List Version → Fact
  StopLeaves : (fewest most : ℕ) → Fact

-- what the disk has at least when the machine stops
abbrev pub synced_bytes : Engine → ℕ
synced_bytes e = bytes_in (take e.synced (txns e))

-- how many commits are left after a stop with the first p bytes of the file
abbrev pub left_at : List Event → ℕ → ℕ
left_at h p = count (led (h ++ (Stopped p ∷ [])))

-- a stop leaves no fewer and no more, and any number between
abbrev pub Leaves : List Event → ℕ → ℕ → Type 0
Leaves h a b =
    ((p : ℕ) → synced_bytes (led h) ≤ p → (a ≤ left_at h p) × (left_at h p ≤ b))
    × ((n : ℕ) → a ≤ n → n ≤ b → (p : ℕ) × (synced_bytes (led h) ≤ p) × (left_at h p ≡ n))

abbrev pub Holds : List Event → Fact → Type 0
Holds h (line_is ns) = line (txns (led h)) ≡ ns
Holds h (held_after n k vs) = held_at (led (take n h)) k ≡ vs
Holds h (StopLeaves a b) = Leaves h a b

pub record Row : Type 0 where
  pub events : List Event
  pub answers : List Reply
  pub facts : List Fact

-- each call is answered as the row says, and what it says is true
abbrev pub ComesOut : Row → Type 0
ComesOut r = (answers_of r.events ≡ r.answers) × AllByRecursion (Holds r.events) r.facts
