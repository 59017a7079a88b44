-- What a fault is called.
use Rattle.std.specs.Prelude.{ℕ, List, codes}
use Rattle.journal.specs.declared.types.Fault.{Fault}
use Rattle.journal.specs.declared.types.Fault.TheVariants.{UnknownKind, WrongNumber, TooManyWrites, KeyOutOfBounds}

abbrev pub words : Fault → List ℕ
words UnknownKind = codes "its first byte is not 1"
words WrongNumber = codes "its number is not the next"
words TooManyWrites = codes "it has more than 64 writes"
words KeyOutOfBounds = codes "it has a key above 4095"
