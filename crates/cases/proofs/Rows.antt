-- Every row of the table comes out.
use Rattle.std.proofs.Common.{refl}
use Rattle.model.specs.Transactions.{puts, after, found_from}
use Rattle.model.specs.Commits.{numbered}
use Rattle.model.specs.Versions.{versions_from, swept, keys_of}
use Rattle.versions.specs.Chain.{total, sum_to}
use Rattle.history.specs.Engine.{floor_in, bytes_in, whole_in, run}
use Rattle.order.specs.Order.{lined}
use Rattle.cases.specs.Rows.{answers_from, ComesOut}
use Rattle.cases.specs.Table.{write_skew, write_skew_let, first_committer, read_twice, stands_before_first, reader_makes_pivot, swept_twice, stop_after_sync, EveryRow}
use Rattle.cases.proofs.Stops.{stop_leaves}

-- by computation, but for what a stop may leave
pub every_row : EveryRow
unfolding puts after found_from numbered versions_from swept keys_of total sum_to floor_in bytes_in whole_in run lined answers_from
every_row =
    let a : ComesOut write_skew = (refl, (refl, tt)) in
    let b : ComesOut write_skew_let = (refl, tt) in
    let c : ComesOut first_committer = (refl, tt) in
    let d : ComesOut read_twice = (refl, tt) in
    let e : ComesOut stands_before_first = (refl, (refl, tt)) in
    let f : ComesOut reader_makes_pivot = (refl, (refl, tt)) in
    let g : ComesOut swept_twice = (refl, (refl, (refl, (refl, tt)))) in
    let h : ComesOut stop_after_sync = (refl, (stop_leaves stop_after_sync.events, tt)) in
    (a, (b, (c, (d, (e, (f, (g, (h, tt))))))))
