-- Words of the lengths that the versions want.
use Rattle.std.specs.Prelude.{◌≡◌, vec_len}
use Rattle.versions.specs.declared.room.Set.{Set}
use Rattle.versions.specs.declared.room.Room.{Room}

abbrev pub SetSized : Set → Type 0
SetSized s = (vec_len s.heads ≡ 4096) × (vec_len s.next ≡ 32769) × (vec_len s.number ≡ 32769) × (vec_len s.value ≡ 32769)

abbrev pub Sized : Room → Type 0
Sized r = SetSized r.first × SetSized r.second × (vec_len r.stack ≡ 32768)
