use Rattle.order.proofs.lineup.Lineup.+take.Given as goal

abbrev pub decreases-take : goal.decreases-take
decreases-take l = l.n
