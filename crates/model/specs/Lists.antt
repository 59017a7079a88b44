-- What is said of lists everywhere.
use Rattle.std.specs.Prelude.{Bool, List}
use Rattle.std.specs.List.{list_any, filter}

-- some element passes the test
abbrev pub any : {A : Type 0} → (A → Bool) → List A → Bool
any p xs = list_any p xs

-- those that pass the test, in their order
abbrev pub kept : {A : Type 0} → (A → Bool) → List A → List A
kept p xs = filter p xs
