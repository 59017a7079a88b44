-- The stages of a store.
use Rattle.std.specs.Prelude.{Bool, true, false}
use Rattle.store.specs.declared.stage.Stage.{Stage}
use Rattle.store.specs.declared.stage.Stage.TheVariants.{Ready, Loading, Unreadable}

abbrev pub is_ready : Stage → Bool
is_ready Ready = true
is_ready Loading = false
is_ready Unreadable = false

abbrev pub is_loading : Stage → Bool
is_loading Ready = false
is_loading Loading = true
is_loading Unreadable = false
