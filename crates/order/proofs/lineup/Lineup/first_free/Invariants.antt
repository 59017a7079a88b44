use Rattle.std.proofs.Common.{vec_items}
use Rattle.order.specs.Taking.{gone_of}
use Rattle.order.specs.Lineup.{commits_of, Compares}
use Rattle.order.proofs.Taking.{Passed}
use Rattle.order.proofs.lineup.Lineup.first_free.Given as goal

abbrev pub invariant-loop-i : goal.invariant-loop-i
invariant-loop-i l = Compares l.fn.self l.self × Passed (commits_of l.fn.self) (gone_of (vec_items l.fn.self.cursors)) l.i
