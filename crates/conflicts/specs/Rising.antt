-- The numbers of what is kept.
use Rattle.std.specs.Prelude.{ℕ, ◌<◌, ◌≤◌, List, length, take}
use Rattle.std.specs.List.{AllByRecursion, AllWithin}
use Rattle.std.specs.List.Sorted.{IsNonDecreasing}
use Rattle.conflicts.specs.declared.window.Committed.{Committed}

abbrev pub number_of : Committed → ℕ
number_of c = c.number

-- no number is above the next
abbrev pub Rise : List ℕ → Type 0
Rise ns = IsNonDecreasing ns

-- the first r have numbers below b
abbrev pub FrontBelow : ℕ → ℕ → List Committed → Type 0
FrontBelow b r cs = AllByRecursion (λ (c : Committed). c.number < b) (take r cs)

-- those behind the first r have numbers of at least b
abbrev pub RestFrom : ℕ → ℕ → List Committed → Type 0
RestFrom b r cs = AllWithin (λ (c : Committed). b ≤ c.number) cs r (length cs)
