-- What a stage tells.
use Rattle.std.proofs.Common.{◌≡◌, Bool, true, false, cond, not, ◌&&◌, sym, refl, ap, ◌∙◌}
use borrow.Author.Tests.{both_ways}
use Rattle.store.specs.declared.stage.Stage.{Stage}
use Rattle.store.specs.declared.stage.Stage.TheVariants.{Ready, Loading, Unreadable}
use Rattle.store.specs.Stages.{is_ready, is_loading}

pub ready-not_loading : (s : Stage) → is_ready s ≡ true → is_loading s ≡ true → ⊥
ready-not_loading Ready p q = both_ways false refl q
ready-not_loading Loading p q = both_ways false refl p
ready-not_loading Unreadable p q = both_ways false refl q

pub is_loading_lem : (s : Stage) → is_loading s ≡ true → s ≡ Loading
is_loading_lem Ready p = absurd (both_ways false refl p)
is_loading_lem Loading p = refl
is_loading_lem Unreadable p = absurd (both_ways false refl p)

-- a stage where there is room
pub ready_is : (b : Bool) → is_ready (cond b Ready Unreadable) ≡ b
ready_is true = refl
ready_is false = refl

pub loading_is : (b : Bool) → is_loading (cond b Loading Unreadable) ≡ b
loading_is true = refl
loading_is false = refl

ready_never : (b : Bool) → is_loading (cond b Ready Unreadable) ≡ false
ready_never true = refl
ready_never false = refl

loading_never : (b : Bool) → is_ready (cond b Loading Unreadable) ≡ false
loading_never true = refl
loading_never false = refl

pub ready-room : (b : Bool) (s : Stage) → s ≡ cond b Ready Unreadable → is_ready s ≡ true → b ≡ true
ready-room b s p q = sym (ap is_ready p ∙ ready_is b) ∙ q

pub loading_room : (b : Bool) (s : Stage) → s ≡ cond b Loading Unreadable → is_loading s ≡ true → b ≡ true
loading_room b s p q = sym (ap is_loading p ∙ loading_is b) ∙ q

pub not-loading : (b : Bool) (s : Stage) → s ≡ cond b Ready Unreadable → is_loading s ≡ true → ⊥
not-loading b s p q = both_ways (is_loading s) (ap is_loading p ∙ ready_never b) q

pub not-ready : (b : Bool) (s : Stage) → s ≡ cond b Loading Unreadable → is_ready s ≡ true → ⊥
not-ready b s p q = both_ways (is_ready s) (ap is_ready p ∙ loading_never b) q

-- a piece is read where a file is being read and there is no flaw
pub reads_on : (a b : Bool) → a ≡ true → b ≡ false → (a && not b) ≡ false → ⊥
reads_on true true p q r = both_ways true q refl
reads_on true false p q r = both_ways true r refl
reads_on false b p q r = both_ways false refl p
