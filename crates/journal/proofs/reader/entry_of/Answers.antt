use Rattle.std.proofs.Common.{rules}
use Rattle.std.proofs.lemmas.List.{places}
use Rattle.journal.specs.Parsing.{of2, of4, entry_of}
use Rattle.journal.proofs.reader.entry_of.Goals as goal

pub returns : goal.returns
unfolding of2 of4 entry_of
returns c = search (rules, places)
