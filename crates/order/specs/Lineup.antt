-- What the steps of a line in the making do.
use Rattle.std.specs.Prelude.{◌≡◌, ℕ, Bool, List, [], map, length, vec_items}
use Rattle.std.specs.List.{range_with_len}
use Rattle.model.specs.Transactions.{Txn}
use Rattle.order.specs.declared.past.Past.{Past}
use Rattle.order.specs.declared.lineup.Lineup.{Lineup}
use Rattle.order.specs.Past.{past_of}
use Rattle.order.specs.Taking.{gone_of, left_of, Taken}

abbrev pub commits_of : Lineup → List Txn
commits_of u = map past_of u.pasts.now

abbrev pub left_in : Lineup → List ℕ
left_in u = left_of (gone_of (vec_items u.cursors))

-- all of the commits are left, and none is in the order
pub record Starts (ps : List Past) (u : Lineup) : Type 0 where
  pub pasts : u.pasts.now ≡ ps
  pub left : left_in u ≡ range_with_len 0 (length ps)
  pub order : vec_items u.order ≡ []

-- u became v as some were compared
pub record Compares (u v : Lineup) : Type 0 where
  pub pasts : v.pasts.now ≡ u.pasts.now
  pub gone : gone_of (vec_items v.cursors) ≡ gone_of (vec_items u.cursors)
  pub order : v.order ≡ u.order

-- u became v as n were taken, or as many as were free in turn
pub record Took (n : ℕ) (u v : Lineup) (r : Bool) : Type 0 where
  pub pasts : v.pasts.now ≡ u.pasts.now
  pub taken : Taken (commits_of u) n (left_in u) (vec_items u.order) (left_in v) (vec_items v.order) r
