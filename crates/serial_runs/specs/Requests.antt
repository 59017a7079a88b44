-- What is asked where there are only Serials and no file.
use Rattle.std.specs.Prelude.{◌≡◌, Bool, false, cond, not, Some, None, Option}
use Rattle.model.specs.declared.Call.{Call}
use Rattle.model.specs.declared.Call.TheVariants.{Begin, Read, Write, Commit, Abort, Sweep, Sync, Stop, Show}
use Rattle.model.specs.declared.Level.{Level}
use Rattle.model.specs.declared.Request.{Request}
use Rattle.model.specs.declared.Request.TheVariants.{Whole, Faulty, Slotless, Unknown}
use Rattle.model.specs.Transactions.{is_serial}
use Rattle.store.specs.Answers.{is_stop}

-- a level, and not Serial
abbrev pub other_level : Option Level → Bool
other_level None = false
other_level (Some l) = not (is_serial l)

abbrev pub begins_other : Call → Bool
begins_other (Begin s l) = other_level l
begins_other (Read s a b) = false
begins_other (Write s k v) = false
begins_other (Commit s) = false
begins_other (Abort s) = false
begins_other Sweep = false
begins_other Sync = false
begins_other Stop = false
begins_other Show = false

-- a stop is no call, whatever else is in its line; the line of a begin at another level has a fault
abbrev pub as_serial : Request → Request
as_serial (Whole c) = cond (is_stop c) Unknown (cond (begins_other c) (Faulty c) (Whole c))
as_serial (Faulty c) = cond (is_stop c) Unknown (Faulty c)
as_serial (Slotless c) = cond (is_stop c) Unknown (Slotless c)
as_serial Unknown = Unknown

-- a call that has its place among Serials
abbrev pub Fitting : Call → Type 0
Fitting c = (is_stop c ≡ false) × (begins_other c ≡ false)

-- what goes through was asked so, and is no stop and no begin at another level; every other call is taken as it is
pub record Through : Type 0 where
  pub asked : (q : Request) (c : Call) → as_serial q ≡ Whole c → (q ≡ Whole c) × Fitting c
  pub taken : (c : Call) → Fitting c → (as_serial (Whole c) ≡ Whole c) × (as_serial (Faulty c) ≡ Faulty c) × (as_serial (Slotless c) ≡ Slotless c)

abbrev pub OnlySerials : Type 0
OnlySerials = Through
