use Rattle.std.proofs.Common.{◌≡◌, ◌≤◌, ◌++◌, take, vec_items}
use Rattle.model.specs.Transactions.{puts, after, empty, found}
use Rattle.transactions.specs.Transactions.{model_of}
use Rattle.history.specs.Engine.{Engine, txns}
use Rattle.store.specs.Calls.{Is}
use Rattle.store.proofs.state.Tables.found.Given as goal

abbrev pub invariant-loop-key : goal.invariant-loop-key
invariant-loop-key l =
    (e : Engine) → Is e l.self → e.floor ≤ l.at → l.to ≤ 4096 →
    vec_items l.entries ++ found (puts (model_of l.t).writes (after empty (take l.at (txns e)))) l.key l.to
    ≡ found (puts (model_of l.t).writes (after empty (take l.at (txns e)))) l.from l.to
