use Rattle.std.proofs.Common.{◌≡◌, true, vec_items, refl, ◌∙◌, arith}
use Rattle.std.proofs.lemmas.List.{length-map}
use Rattle.std.proofs.Common.{is_none}
use Rattle.order.specs.Taking.{gone_of, is_free}
use Rattle.order.specs.Lineup.{commits_of}
use Rattle.order.proofs.Taking.{free_same, free_at, free_none, passed_front}
use Rattle.order.proofs.lineup.Lineup.first_free.Goals as goal

pub loop-i-init : goal.loop-i-init
loop-i-init c =
    let u = c.args.self.now in
    (record { pasts = refl; gone = refl; order = refl }, passed_front (vec_items u.cursors) u.first u.front (commits_of u))

pub returns-then-is_free-clause-told : goal.returns-then-is_free-clause-told
returns-then-is_free-clause-told c =
    let u = c.args.self.now in
    let v = c.loop-i.self in
    let s = c.loop-i.invariant.0 in
    let l = c.loop-i-test.true in
    let e : true ≡ is_free (commits_of u) (gone_of (vec_items u.cursors)) c.loop-i.i = c.if-is_free.ensures.told ∙ free_same u v c.loop-i.i s in
    free_at (commits_of u) (gone_of (vec_items u.cursors)) c.loop-i.i (omega (arith, u.compared.0, length-map (vec_items u.cursors) is_none)) e c.loop-i.invariant.1

pub returns-clause-told : goal.returns-clause-told
returns-clause-told c =
    let u = c.args.self.now in
    let l = c.loop-i-test.false in
    free_none (commits_of u) (gone_of (vec_items u.cursors)) c.loop-i.i (omega (arith, u.compared.0, length-map (vec_items u.cursors) is_none)) c.loop-i.invariant.1
