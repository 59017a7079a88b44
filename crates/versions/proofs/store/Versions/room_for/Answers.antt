use Rattle.std.proofs.Common.{◌≡◌, ℕ, ◌+◌, ◌-◌, ◌≤◌, Bool, true, leb, List, length, sym, ap, ◌∙◌, arith, le-leb}
use Rattle.std.proofs.lemmas.Bool.Decides.{nat_tests}
use Rattle.model.specs.Versions.{swept, versions, keys_of}
use Rattle.model.specs.declared.Entry.{Entry}
use Rattle.versions.specs.declared.store.Versions.{Versions}
use Rattle.versions.specs.History.{RoomBy}
use Rattle.versions.specs.Store.{held, size, spaces, room_for}
use Rattle.versions.proofs.Sums.{total-same}
use Rattle.versions.proofs.Named.{keys-few}
use Rattle.versions.proofs.store.Versions.room_for.Goals as goal

fits : (n goal count all room : ℕ) → n ≡ goal → all ≡ count → count ≤ room → leb n (room - count) ≡ leb (all + goal) room
fits n goal count all room p q l = grind (arith, nat_tests)

module _ (v : Versions) (es : List Entry) (r : Bool) (value : r ≡ room_for v es) where
  told : ((size v + length es ≤ spaces v) → r ≡ true) × RoomBy v es r
  told = (
    λ few. value ∙ le-leb (size v + keys_of es) (spaces v) (omega (arith, few, keys-few es)),
    λ done floor h. value ∙ ap (λ n. leb (n + keys_of es) (spaces v)) (total-same (held v) (λ k. swept floor (versions k done)) h),
  )

pub returns : goal.returns
returns c =
    let v = c.args.self.now in
    let es = c.args.writes.now in
    let value : leb c.versions_of.result (c.args.self.now.chains.room - c.args.self.now.chains.count) ≡ leb (size c.args.self.now + keys_of c.args.writes.now) (spaces c.args.self.now)
    = fits c.versions_of.result (keys_of es) v.chains.count (size v) v.chains.room c.versions_of.ensures v.chains.good.4 v.chains.good.1 in
    let t = told v es _ value in
    record { value = value; enough = t.0; history = t.1 }

pub returns-then-writes-free : goal.returns-then-writes-free
returns-then-writes-free c =
    let v = c.args.self.now in
    let es = c.args.writes.now in
    let value : true ≡ room_for v es = sym (le-leb (size v + keys_of es) (spaces v) (omega (arith, keys-few es, v.chains.good.4, v.chains.good.1))) in
    let t = told v es true value in
    record { value = value; enough = t.0; history = t.1 }
