use Rattle.journal.proofs.Back.{record-back}
use Rattle.journal.proofs.Cuts.{file-back, cut_anywhere}
use Rattle.journal.proofs.Joins.{files_join}
use Rattle.journal.proofs.Pieces.{in_pieces}
use Rattle.journal.proofs.Canon.{canonical, read-fine}
use Rattle.journal.proofs.Examples.{cases}
use Rattle.journal.proofs.laws.laws_stand.Goals as goal

pub returns : goal.returns
returns c = record { records = record-back; files = file-back; cuts = cut_anywhere; pieces = in_pieces; canonical = canonical; fine = read-fine; join = files_join; cases = cases }
