use Rattle.std.proofs.Common.{◌≡◌, take}
use Rattle.std.specs.List.{flat_map, AllByRecursion}
use Rattle.journal.specs.Records.{written, entry_bytes, FineEntry}
use Rattle.journal.proofs.writer.put_entries.Given as goal

abbrev pub invariant-loop-i : goal.invariant-loop-i
invariant-loop-i l = (l.out ≡ written l.at (flat_map entry_bytes (take l.i l.entries)) l.initial.out) × AllByRecursion FineEntry (take l.i l.entries)
