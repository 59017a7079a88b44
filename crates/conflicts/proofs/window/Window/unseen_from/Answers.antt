use Rattle.std.proofs.Common.{◌≡◌, ◌-◌, ltb, List, length, reverse, unwrap_or, vec_items, ap, ◌∙◌, arith}
use Rattle.std.specs.List.{position}
use Rattle.conflicts.specs.declared.window.Committed.{Committed}
use Rattle.conflicts.proofs.Seen.{rises_by, parted_back}
use Rattle.conflicts.proofs.window.Window.unseen_from.Goals as goal

pub returns-then-self : goal.returns-then-self
returns-then-self c =
    let w = c.args.self.now in
    let cs = vec_items w.all in
    let b = c.args.begin in
    let found = c.last_below.ensures ∙ ap (λ (l : List Committed). position (λ x. ltb x.number b) (reverse l)) c.deref.ensures.value in
    let left = c.unwrap_or.ensures ∙ ap (λ o. unwrap_or o c.len-then-self.result) found in
    let whole = ap length c.deref.ensures.value in
    let all : c.len.result ≡ length cs = omega (arith, whole, c.deref.ensures.len, c.len.ensures) in
    let too : c.len-then-self.result ≡ length cs = omega (arith, whole, c.deref.ensures.len, c.len-then-self.ensures) in
    let behind = left ∙ ap (unwrap_or (position (λ (x : Committed). ltb x.number b) (reverse cs))) too in
    let parted = parted_back b cs (rises_by cs (w.rises c.if-self.true)) (c.len.result - c.unwrap_or.result) (ap (λ n. n - c.unwrap_or.result) all ∙ ap (λ k. length cs - k) behind) in
    record { within = parted.0; seen = parted.1; unseen = λ _. parted.2 }
