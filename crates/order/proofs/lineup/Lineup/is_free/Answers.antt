use Rattle.std.proofs.Common.{◌≡◌, ℕ, ◌+◌, ◌<◌, false, max, Some, None, unwrap_or, is_none, get_or, set, length, vec_items, refl, sym, ap, subst, ◌∙◌, arith, rules}
use Rattle.std.proofs.lemmas.List.{get_or_default}
use Rattle.order.specs.Taking.{gone_of, left_of, holds_up, Compared, Front}
use Rattle.order.specs.Lineup.{commits_of}
use Rattle.order.proofs.Taking.{gone-still, free_told, next_below, next_here, next_most, compared_more, none_front, front_more, front_on}
use Rattle.order.proofs.lineup.Lineup.is_free.Goals as goal
use Rattle.order.proofs.lineup.Lineup.is_free.Goals.{In-Some, After-unwrap_or}

cursor : (c : In-Some) → get_or (vec_items c.args.self.now.cursors) c.args.i None ≡ Some c.in-Some.from
cursor c =
    let cs = vec_items c.args.self.now.cursors in
    let a = get_or_default cs c.args.i None c.index.result.now (omega (arith, c.requires.within, c.args.self.now.compared.0)) in
    let b = c.index.ensures in
    let d = c.in-Some.is in
    cc

pub overflow_cast-unwrap_or : goal.overflow_cast-unwrap_or
overflow_cast-unwrap_or c =
    let u = c.args.self.now in
    let holds = holds_up (commits_of u) (gone_of (vec_items u.cursors)) c.args.i in
    omega (arith, u.few, next_most holds c.max-from.result (length u.pasts.now) c.next_before-next.result c.next_before-next.ensures, c.unwrap_or.ensures)

-- nobody numbered below the place that is looked from holds it up
from_there : (c : After-unwrap_or) → (b : ℕ) → get_or (vec_items c.args.self.now.cursors) c.args.i None ≡ Some b → c.max-from.result ≡ max c.args.self.now.first b →
    (j : ℕ) → j < unwrap_or c.next_before-next.result (length c.args.self.now.pasts.now) → holds_up (commits_of c.args.self.now) (gone_of (vec_items c.args.self.now.cursors)) c.args.i j ≡ false
from_there c b e m =
    let u = c.args.self.now in
    let cs = vec_items u.cursors in
    let i = c.args.i in
    next_below (holds_up (commits_of u) (gone_of cs) i) c.max-from.result (length u.pasts.now) c.next_before-next.result c.next_before-next.ensures (none_front cs u.first u.front (commits_of u) i b c.max-from.result m (u.compared.1 i b c.requires.within e))

pub invariant_of-self : goal.invariant_of-self
invariant_of-self c =
    let u = c.args.self.now in
    let cs = vec_items u.cursors in
    let i = c.args.i in
    let a = get_or_default cs i None c.index.result.now (omega (arith, c.requires.within, u.compared.0)) in
    let b = c.index.ensures in
    let d = c.in_default.is in
    let taken : get_or cs i None ≡ None = cc in
    let at = c.if-i-self.true in
    record { few = u.few; compared = u.compared; front = subst (λ k. Front (k + 1) cs) (sym at) (front_more cs u.first u.front (subst (λ k. get_or cs k None ≡ None) at taken)); room = u.room }

pub invariant_of-self-2 : goal.invariant_of-self-2
invariant_of-self-2 c =
    let u = c.args.self.now in
    let cs = vec_items u.cursors in
    let i = c.args.i in
    let from = c.in-Some.from in
    let n = length u.pasts.now in
    let next = c.next_before-next.result in
    let e = cursor (goal.at.invariant_of-self-2 c).In-Some in
    let below = from_there (goal.at.invariant_of-self-2 c).After-unwrap_or from e c.max-from.ensures in
    record {
      few = u.few;
      compared = subst (λ k. Compared u.pasts.now (set cs i (Some k))) (sym c.unwrap_or.ensures) (compared_more u.pasts.now cs i (unwrap_or next n) from e c.requires.within u.compared below);
      front = front_on cs u.first u.front i from (Some c.unwrap_or.result) e;
      room = omega (arith, u.room, ap (λ g. length (left_of g)) (gone-still cs i c.unwrap_or.result from e));
    }

pub returns-clause-same : goal.returns-clause-same
returns-clause-same c = record { pasts = refl; gone = gone-still (vec_items c.args.self.now.cursors) c.args.i c.unwrap_or.result c.in-Some.from (cursor (goal.at.returns-clause-same c).In-Some); order = refl }

pub returns-clause-told : goal.returns-clause-told
returns-clause-told c =
    let u = c.args.self.now in
    let cs = vec_items u.cursors in
    let i = c.args.i in
    let from = c.in-Some.from in
    let n = length u.pasts.now in
    let next = c.next_before-next.result in
    let holds = holds_up (commits_of u) (gone_of cs) i in
    let e = cursor (goal.at.returns-clause-told c).In-Some in
    let none : c.is_none.result ≡ is_none next = search rules in
    none ∙ free_told cs i c.unwrap_or.result from e (commits_of u) n next u.compared.0 (from_there (goal.at.returns-clause-told c).After-unwrap_or from e c.max-from.ensures) (next_here holds c.max-from.result n next c.next_before-next.ensures)
