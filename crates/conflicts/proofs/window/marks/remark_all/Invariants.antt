use Rattle.std.proofs.Common.{◌≡◌, ◌++◌, map, take, drop}
use Rattle.transactions.specs.Transactions.{model_of}
use Rattle.conflicts.specs.Marks.{mark_of, remarked}
use Rattle.conflicts.proofs.window.marks.remark_all.Given as goal

abbrev pub invariant-loop-c : goal.invariant-loop-c
invariant-loop-c l = map mark_of l.all ≡ map (remarked (model_of l.t) l.number) (take l.c-index (map mark_of l.initial.all)) ++ drop l.c-index (map mark_of l.initial.all)
