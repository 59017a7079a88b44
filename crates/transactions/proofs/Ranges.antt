-- A read that looks at a key.
use Rattle.std.proofs.Common.{◌≡◌, ℕ, ◌-◌, ◌<◌, ◌≤◌, min, Bool, true, false, not, ◌&&◌, ltb, leb, List, length, take, sym, refl, ap, ◌∙◌, ⊎_elim, arith}
use Rattle.std.proofs.lemmas.List.{take_all}
use Rattle.std.proofs.lemmas.Bool.{le-leb, lt-ltb, cases_lt}
use Rattle.model.specs.declared.Entry.{Entry}
use Rattle.model.specs.Transactions.{names, looks_at}
use Rattle.transactions.specs.declared.noted.NotedRead.{NotedRead}
use Rattle.transactions.specs.Noted.{read_of}

and_third : (a b x : Bool) → a ≡ true → b ≡ true → x ≡ (a && b && x)
and_third true true x p q = refl
and_third true false x p q = cc
and_third false b x p q = cc

-- as many as there are, where more are asked for
take-few : {X : Type 0} (m n : ℕ) (xs : List X) → m ≡ min n (length xs) → take (m - 0) xs ≡ take n xs
take-few m n xs e =
    ⊎_elim
    (λ l. let z : m - 0 ≡ n = omega arith in ap (λ k. take k xs) z)
    (λ l. take_all (m - 0) xs (omega arith) ∙ sym (take_all n xs l))
    (cases_lt n (length xs))

pub looks-past : (k : ℕ) (r : NotedRead) (ws : List Entry) (m : ℕ) (b : Bool) → r.from ≤ k → k < r.to → m ≡ min r.own (length ws) → b ≡ names k (take (m - 0) ws) → not b ≡ looks_at k (read_of ws r)
looks-past k r ws m b f t e h =
    ap not (h ∙ ap (names k) (take-few m r.own ws e))
    ∙ and_third (leb r.from k) (ltb k r.to) (not (names k (take r.own ws))) (le-leb r.from k f) (lt-ltb k r.to t)
