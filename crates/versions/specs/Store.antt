-- What a store of versions holds, and what a commit does to it.
use Rattle.std.specs.Prelude.{◌≡◌, ℕ, ◌+◌, Bool, cond, List, Some, None, Ok, Err, Option, Result, nat_le}
use Rattle.model.specs.declared.Entry.{Entry}
use Rattle.model.specs.declared.Refusal.{Refusal}
use Rattle.model.specs.declared.Refusal.TheVariants.{OutOfBounds, NoRoom}
use Rattle.model.specs.Versions.{Version, committed, keys_of}
use Rattle.versions.specs.declared.store.Versions.{Versions}
use Rattle.versions.specs.Chain.{total}
use Rattle.versions.specs.Lent.{view}
use Rattle.model.specs.Transactions.{outside}

-- the versions of a key, the latest first
abbrev pub held : Versions → ℕ → List Version
held v k = view v.chains k

-- how many versions there are in all: the sum over the keys
abbrev pub size : Versions → ℕ
size v = total (held v)

-- how many there is room for in all
abbrev pub spaces : Versions → ℕ
spaces v = v.chains.room

-- there is room for the versions that the writes make
abbrev pub room_for : Versions → List Entry → Bool
room_for v es = nat_le (size v + keys_of es) (spaces v)

-- why a commit of the writes is refused, if it is
abbrev pub refusal : Versions → List Entry → Option Refusal
refusal v es = cond (outside es) (Some OutOfBounds) (cond (room_for v es) None (Some NoRoom))

abbrev pub Same : Versions → Versions → Type 0
Same v w = ((k : ℕ) → held w k ≡ held v k) × (size w ≡ size v) × (spaces w ≡ spaces v)

-- commit number n of the writes took v to w, or was refused
abbrev pub Committed : {A : Type 0} → ℕ → List Entry → Versions → Versions → Result A Refusal → Type 0
Committed n es v w (Ok u) =
    (refusal v es ≡ None) × ((k : ℕ) → held w k ≡ committed n es k (held v k)) × (size w ≡ size v + keys_of es) × (spaces w ≡ spaces v)
Committed n es v w (Err y) = (refusal v es ≡ Some y) × Same v w
