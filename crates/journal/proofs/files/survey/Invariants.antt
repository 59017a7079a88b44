use Rattle.std.proofs.Common.{◌-◌, ◌^◌, ◌<◌, length}
use Rattle.journal.proofs.Replaying.{Sofar}
use Rattle.journal.proofs.files.survey.Given as goal

abbrev pub invariant-loop-found : goal.invariant-loop-found
invariant-loop-found l = Sofar l.number l.bytes l.at l.next × (l.next < 2 ^ 32)

abbrev pub decreases-loop-found : goal.decreases-loop-found
decreases-loop-found l = length l.bytes - l.at
