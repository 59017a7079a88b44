-- What lent slices of words hold.
use Rattle.std.specs.Prelude.{ℕ, List}
use Rattle.model.specs.Versions.{Version}
use Rattle.versions.specs.declared.chains.Chains.{Chains}
use Rattle.versions.specs.Chain.{Links, listed}
use Rattle.versions.specs.Words.{lent_by}

abbrev pub inside : Chains → Links
inside s = lent_by s.words

-- the versions of a key, the latest first
abbrev pub view : Chains → ℕ → List Version
view s k = listed (inside s) k
