-- Calls that are not refused.
use Rattle.std.proofs.Common.{◌≡◌, Bool, true, false, Some, None, Option, refl}
use Rattle.model.specs.declared.Call.{Call}
use Rattle.model.specs.declared.Refusal.{Refusal}
use Rattle.model.specs.declared.Refusal.TheVariants.{OutOfBounds}
use Rattle.history.specs.Engine.{Engine, out_of_bounds, when, first_of, slot_refusal, refusal_of, unless_refused}

pub when-not : (b : Bool) (y : Refusal) → when b y ≡ None → b ≡ false
when-not true y h = cc
when-not false y h = refl

pub neither : (a b : Option Refusal) → first_of a b ≡ None → (a ≡ None) × (b ≡ None)
neither (Some y) b h = (h, cc)
neither None b h = (refl, h)

-- the call is within bounds, and the slot does not refuse it
pub goes_through : (c : Call) (e : Engine) → refusal_of c e ≡ None → (out_of_bounds c ≡ false) × (slot_refusal c e ≡ None)
goes_through c e h =
    let p = neither (when (out_of_bounds c) OutOfBounds) (slot_refusal c e) h in
    (when-not (out_of_bounds c) OutOfBounds p.0, p.1)

-- what holds before a call, and after it if it goes through, holds after it
pub refused_or_not : (P : Engine → Type 0) (o : Option Refusal) (e f : Engine) → P e → (o ≡ None → P f) → P (unless_refused o e f)
refused_or_not P (Some y) e f p q = p
refused_or_not P None e f p q = q refl
