-- A file that is read in pieces.
use Rattle.std.specs.Prelude.{◌≡◌, ℕ, ◌+◌, ◌-◌, ◌^◌, min, List, [], ◌++◌, drop, Some, None, Ok, Err, vec_items, Result}
use Rattle.journal.specs.declared.types.Survey.{Survey}
use Rattle.journal.specs.declared.types.Flaw.{Flaw}
use Rattle.store.specs.declared.reader.Reader.{Reader}

-- nothing read yet
abbrev pub Blank : Reader → Type 0
Blank r = (vec_items r.left ≡ []) × (r.at ≡ 0) × (r.flaw ≡ None)

-- a place in the file
abbrev pub place : ℕ → ℕ → ℕ
place at n = min (at + n) (2 ^ 64 - 1)

-- more bytes behind those that are left; or all as it was
abbrev pub Taken : {X Y : Type 0} → List ℕ → Reader → Reader → Result X Y → Type 0
Taken bs r q (Ok x) = (vec_items q.left ≡ vec_items r.left ++ bs) × (q.at ≡ r.at) × (q.flaw ≡ r.flaw)
Taken bs r q (Err y) = (vec_items q.left ≡ vec_items r.left) × (q.at ≡ r.at) × (q.flaw ≡ r.flaw)

-- so many bytes less are left
abbrev pub Passed : ℕ → Reader → Reader → Type 0
Passed n r q = (vec_items q.left ≡ drop n (vec_items r.left)) × (q.at ≡ place r.at n) × (q.flaw ≡ r.flaw)

abbrev pub Surveyed : Result Survey Flaw → Reader → Reader → Type 0
Surveyed (Ok x) r q = Passed x.bytes r q
Surveyed (Err f) r q = q.flaw ≡ Some (record { at = place r.at f.at; why = f.why })
