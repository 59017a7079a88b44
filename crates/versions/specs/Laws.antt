-- What versions promise over whole histories.
use Rattle.std.specs.Prelude.{◌≡◌, ℕ, suc, ◌≤◌, Bool, ◌&&◌, List, [], ◌∷◌, take}
use Rattle.model.specs.declared.Entry.{Entry}
use Rattle.model.specs.Lists.{any}
use Rattle.model.specs.Transactions.{Txn, empty, after, names}
use Rattle.model.specs.Commits.{Commit, commits, unseen, wrote_since}
use Rattle.model.specs.Versions.{Version, committed, versions, shown, swept, newer}

-- a commit that somebody who began with b did not see wrote the key
abbrev pub written_since : ℕ → ℕ → List Txn → Bool
written_since b k done = any (λ (d : Commit). unseen b d && names k d.txn.writes) (commits done)

-- one of the writes is of a key whose latest version, of these, somebody who began with b did not see
abbrev pub some_newer : ℕ → (ℕ → List Version) → List Entry → Bool
some_newer b vs es = any (λ (e : Entry). newer b (vs e.key)) es

-- at every moment the versions show what the commits until then left
abbrev pub ShowAll : Type 0
ShowAll = (done : List Txn) (k at : ℕ) → shown at (versions k done) ≡ after empty (take at done) k

-- a sweep changes no answer at its floor or later
abbrev pub SweepHides : Type 0
SweepHides = (done : List Txn) (k floor at : ℕ) → floor ≤ at → shown at (swept floor (versions k done)) ≡ shown at (versions k done)

-- sweeping at one floor and then at a higher one is sweeping at the higher one
abbrev pub SweepTwice : Type 0
SweepTwice = (done : List Txn) (k f g : ℕ) → f ≤ g → swept g (swept f (versions k done)) ≡ swept g (versions k done)

-- the newest version of each key written decides whether there is a write conflict, swept or not
abbrev pub NewestDecides : Type 0
NewestDecides = (done : List Txn) (b floor : ℕ) (es : List Entry) → wrote_since b es done ≡ some_newer b (λ k. swept floor (versions k done)) es

-- what happens to the versions: a commit, or a sweep at a floor
pub data Event : Type 0 where
  Commits : Txn → Event
  Sweeps : (floor : ℕ) → Event

-- the versions of key k after the events, from n commits and these versions on
unfoldable pub led_to : ℕ → ℕ → List Version → List Event → List Version
led_to k n vs [] = vs
led_to k n vs (Commits t ∷ es) = led_to k (suc n) (committed n t.writes k vs) es
led_to k n vs (Sweeps f ∷ es) = led_to k n (swept f vs) es

unfoldable pub committed_by : List Event → List Txn
committed_by [] = []
committed_by (Commits t ∷ es) = t ∷ committed_by es
committed_by (Sweeps f ∷ es) = committed_by es

-- each floor is at least the one before it and at most the number of commits done then
unfoldable pub Rising : ℕ → ℕ → List Event → Type 0
Rising n f [] = Unit {0}
Rising n f (Commits t ∷ es) = Rising (suc n) f es
Rising n f (Sweeps g ∷ es) = (f ≤ g) × (g ≤ n) × Rising n g es

unfoldable pub last_floor : ℕ → List Event → ℕ
last_floor f [] = f
last_floor f (Commits t ∷ es) = last_floor f es
last_floor f (Sweeps g ∷ es) = last_floor g es

-- sweeping along the way leaves what one sweep at the end would
abbrev pub SweepAlong : Type 0
SweepAlong = (es : List Event) (k : ℕ) → Rising 0 0 es → led_to k 0 [] es ≡ swept (last_floor 0 es) (versions k (committed_by es))
