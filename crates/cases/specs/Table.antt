-- Eight worked cases.
use Rattle.std.specs.Prelude.{ℕ, List, [], ◌∷◌, ◌++◌, Some}
use Rattle.std.specs.List.{AllByRecursion}
use Rattle.model.specs.declared.Call.TheVariants as calls
use Rattle.model.specs.declared.Entry.{Entry}
use Rattle.model.specs.declared.Level.{Level}
use Rattle.model.specs.declared.Level.TheVariants.{Latest, Snapshot, Serial}
use Rattle.model.specs.declared.Refusal.TheVariants.{WriteConflict, Pivot}
use Rattle.model.specs.Versions.{Version}
use Rattle.history.specs.Engine.{done, found, committed, refused, Event, Called}
use Rattle.cases.specs.Rows.{Row, line_is, held_after, StopLeaves, ComesOut}

abbrev pub begin : ℕ → Level → Event
begin s l = Called (calls.Begin s (Some l))

abbrev pub read : ℕ → ℕ → ℕ → Event
read s a b = Called (calls.Read s a b)

abbrev pub write : ℕ → ℕ → ℕ → Event
write s k v = Called (calls.Write s k v)

abbrev pub commit : ℕ → Event
commit s = Called (calls.Commit s)

abbrev pub abort : ℕ → Event
abort s = Called (calls.Abort s)

abbrev pub sweep : Event
sweep = Called calls.Sweep

abbrev pub sync : Event
sync = Called calls.Sync

abbrev pub at : ℕ → ℕ → Entry
at k v = record { key = k; value = v }

abbrev pub version : ℕ → ℕ → Version
version n v = record { number = n; value = v }

-- A: two Serials read what both keys hold, and each takes one of the two away. Each passes the other, so the second to
-- commit is refused.
abbrev pub write_skew : Row
write_skew = record {
  events =
      begin 0 Serial ∷ write 0 1 1 ∷ write 0 2 1 ∷ commit 0 ∷ begin 0 Serial ∷ begin 1 Serial ∷ read 0 1 3 ∷ read 1 1 3
      ∷ write 0 1 0 ∷ commit 0 ∷ write 1 2 0 ∷ commit 1 ∷ [];
  answers =
      done ∷ done ∷ done ∷ committed 0 ∷ done ∷ done ∷ found (at 1 1 ∷ at 2 1 ∷ []) ∷ found (at 1 1 ∷ at 2 1 ∷ [])
      ∷ done ∷ committed 1 ∷ done ∷ refused Pivot ∷ [];
  facts = line_is (0 ∷ 1 ∷ []) ∷ [];
}

-- B: at Snapshot both commit, and nothing is left in either key
abbrev pub write_skew_let : Row
write_skew_let = record {
  events =
      begin 0 Snapshot ∷ write 0 1 1 ∷ write 0 2 1 ∷ commit 0 ∷ begin 0 Snapshot ∷ begin 1 Snapshot ∷ read 0 1 3 ∷ read 1 1 3
      ∷ write 0 1 0 ∷ commit 0 ∷ write 1 2 0 ∷ commit 1 ∷ begin 2 Latest ∷ read 2 1 3 ∷ [];
  answers =
      done ∷ done ∷ done ∷ committed 0 ∷ done ∷ done ∷ found (at 1 1 ∷ at 2 1 ∷ []) ∷ found (at 1 1 ∷ at 2 1 ∷ [])
      ∷ done ∷ committed 1 ∷ done ∷ committed 2 ∷ done ∷ found [] ∷ [];
  facts = [];
}

-- two under way together that write key 1, the one in slot 0 the second to write and the first to commit
abbrev pub both_writing : Level → List Event
both_writing l = begin 0 l ∷ begin 1 l ∷ write 1 1 6 ∷ write 0 1 5 ∷ commit 0 ∷ commit 1 ∷ []

-- C: at Snapshot and at Serial the first committer wins; at Latest both commit, and the value of the later commit stands
abbrev pub first_committer : Row
first_committer = record {
  events =
      both_writing Snapshot ++ (abort 1 ∷ []) ++ both_writing Serial ++ (abort 1 ∷ []) ++ both_writing Latest
      ++ (begin 2 Latest ∷ read 2 1 2 ∷ []);
  answers =
      done ∷ done ∷ done ∷ done ∷ committed 0 ∷ refused WriteConflict ∷ done
      ∷ done ∷ done ∷ done ∷ done ∷ committed 1 ∷ refused WriteConflict ∷ done
      ∷ done ∷ done ∷ done ∷ done ∷ committed 2 ∷ committed 3
      ∷ done ∷ found (at 1 6 ∷ []) ∷ [];
  facts = [];
}

-- D: a Latest and a Snapshot read key 1 twice, a commit that writes it between: the Latest has two different answers, the
-- Snapshot the same one
abbrev pub read_twice : Row
read_twice = record {
  events =
      begin 2 Latest ∷ write 2 1 5 ∷ commit 2 ∷ begin 0 Latest ∷ begin 1 Snapshot ∷ read 0 1 2 ∷ read 1 1 2
      ∷ begin 2 Latest ∷ write 2 1 6 ∷ commit 2 ∷ read 0 1 2 ∷ read 1 1 2 ∷ [];
  answers =
      done ∷ done ∷ committed 0 ∷ done ∷ done ∷ found (at 1 5 ∷ []) ∷ found (at 1 5 ∷ [])
      ∷ done ∷ done ∷ committed 1 ∷ found (at 1 6 ∷ []) ∷ found (at 1 5 ∷ []) ∷ [];
  facts = [];
}

-- E: slot 0 found nothing where slot 1, which commits first, wrote: it stands before it in the line
abbrev pub stands_before_first : Row
stands_before_first = record {
  events =
      begin 0 Serial ∷ begin 1 Serial ∷ read 0 10 20 ∷ write 1 15 1 ∷ commit 1 ∷ write 0 30 2 ∷ commit 0 ∷ [];
  answers = done ∷ done ∷ found [] ∷ done ∷ committed 0 ∷ done ∷ committed 1 ∷ [];
  facts = line_is (1 ∷ 0 ∷ []) ∷ [];
}

-- F: the same, and slot 2, under way with both, had read what slot 0 writes and committed: slot 0 is passed by it and
-- passes slot 1, so it is refused
abbrev pub reader_makes_pivot : Row
reader_makes_pivot = record {
  events =
      begin 0 Serial ∷ begin 1 Serial ∷ begin 2 Serial ∷ read 0 10 20 ∷ read 2 30 31 ∷ commit 2 ∷ write 1 15 1 ∷ commit 1
      ∷ write 0 30 2 ∷ commit 0 ∷ [];
  answers =
      done ∷ done ∷ done ∷ found [] ∷ found [] ∷ committed 0 ∷ done ∷ committed 1
      ∷ done ∷ refused Pivot ∷ [];
  facts = line_is (0 ∷ 1 ∷ []) ∷ [];
}

-- G: a sweep keeps what a Snapshot under way is shown, and takes it away once that has ended
abbrev pub swept_twice : Row
swept_twice = record {
  events =
      begin 0 Latest ∷ write 0 1 5 ∷ commit 0 ∷ begin 0 Latest ∷ write 0 1 6 ∷ commit 0 ∷ begin 1 Snapshot
      ∷ begin 0 Latest ∷ write 0 1 7 ∷ commit 0 ∷ sweep ∷ abort 1 ∷ sweep ∷ [];
  answers =
      done ∷ done ∷ committed 0 ∷ done ∷ done ∷ committed 1 ∷ done
      ∷ done ∷ done ∷ committed 2 ∷ done ∷ done ∷ done ∷ [];
  facts =
      held_after 10 1 (version 2 7 ∷ version 1 6 ∷ version 0 5 ∷ []) ∷ held_after 11 1 (version 2 7 ∷ version 1 6 ∷ [])
      ∷ held_after 13 1 (version 2 7 ∷ []) ∷ [];
}

-- H: of three commits the last is not synced: a stop leaves two or three
abbrev pub stop_after_sync : Row
stop_after_sync = record {
  events =
      begin 0 Serial ∷ write 0 1 5 ∷ commit 0 ∷ begin 0 Serial ∷ write 0 2 6 ∷ commit 0 ∷ sync
      ∷ begin 0 Serial ∷ write 0 3 7 ∷ commit 0 ∷ [];
  answers =
      done ∷ done ∷ committed 0 ∷ done ∷ done ∷ committed 1 ∷ done
      ∷ done ∷ done ∷ committed 2 ∷ [];
  facts = StopLeaves 2 3 ∷ [];
}

abbrev pub table : List Row
table =
    write_skew ∷ write_skew_let ∷ first_committer ∷ read_twice ∷ stands_before_first ∷ reader_makes_pivot ∷ swept_twice ∷ stop_after_sync ∷ []

-- every row of the table comes out
abbrev pub EveryRow : Type 0
EveryRow = AllByRecursion ComesOut table
