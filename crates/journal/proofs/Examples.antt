-- The cases compute.
use Rattle.std.proofs.Common.{refl}
use Rattle.journal.specs.Records.{be2, be4, entry_bytes, head_bytes, record_of}
use Rattle.journal.specs.Parsing.{of2, of4, entry_of, entries_of, checked, parsed}
use Rattle.journal.specs.Files.{turned}
use Rattle.journal.specs.Laws.{Cases}

pub cases : Cases
unfolding be2 be4 entry_bytes head_bytes record_of of2 of4 entry_of entries_of checked parsed turned
cases = record {
  empty = refl;
  one = refl;
  read = refl;
  none = refl;
  cut_head = refl;
  cut_write = refl;
  kind = refl;
  number = refl;
  writes = refl;
  key = refl;
  file = refl;
  bad-file = refl;
}
