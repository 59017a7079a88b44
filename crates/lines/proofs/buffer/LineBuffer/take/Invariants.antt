use Rattle.std.proofs.Common.{◌≡◌, ℕ, List, ◌++◌, length, vec_items}
use Rattle.lines.specs.Held.{Holds, requests, pending}
use Rattle.lines.proofs.buffer.LineBuffer.take.Given as goal

abbrev pub invariant-loop-request : goal.invariant-loop-request
invariant-loop-request l = (t : List ℕ) → Holds l.initial.self t →
    (u : List ℕ) × Holds l.self u
    × (vec_items l.out ++ requests u l.chunk ≡ vec_items l.initial.out ++ requests t l.initial.chunk)
    × (pending u l.chunk ≡ pending t l.initial.chunk)

abbrev pub decreases-loop-request : goal.decreases-loop-request
decreases-loop-request l = length l.chunk
