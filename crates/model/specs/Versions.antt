-- The versions of one key, and what a sweep takes away.
use Rattle.std.specs.Prelude.{ℕ, suc, ◌+◌, Bool, false, cond, List, [], ◌∷◌, nat_le, nat_lt}
use Rattle.model.specs.declared.Entry.{Entry}
use Rattle.model.specs.Transactions.{Txn, empty, names, puts}

-- a value, and the number of the commit that left it
pub record Version : Type 0 where
  pub number : ℕ
  pub value : ℕ

-- the versions of key k, the latest first, after commit number n with these writes: where they name the key, one more
-- with the value that they leave
abbrev pub committed : ℕ → List Entry → ℕ → List Version → List Version
committed n es k vs = cond (names k es) (record { number = n; value = puts es empty k } ∷ vs) vs

unfoldable pub versions_from : ℕ → ℕ → List Version → List Txn → List Version
versions_from k n vs [] = vs
versions_from k n vs (t ∷ ts) = versions_from k (suc n) (committed n t.writes k vs) ts

-- all versions that the commits left at key k
abbrev pub versions : ℕ → List Txn → List Version
versions k done = versions_from k 0 [] done

-- what somebody is shown for whom the first c commits are done: the first version whose number is below c, or nothing
unfoldable pub shown : ℕ → List Version → ℕ
shown c [] = 0
shown c (v ∷ vs) = cond (nat_lt v.number c) v.value (shown c vs)

-- the versions that stay: all up to the first whose number is below the floor
unfoldable pub swept : ℕ → List Version → List Version
swept f [] = []
swept f (v ∷ vs) = cond (nat_lt v.number f) (v ∷ []) (v ∷ swept f vs)

-- the latest version was left by a commit that somebody who began with b did not see
abbrev pub newer : ℕ → List Version → Bool
newer b [] = false
newer b (v ∷ vs) = nat_le b v.number

-- how many versions the writes make: one for each key that they name
unfoldable pub keys_of : List Entry → ℕ
keys_of [] = 0
keys_of (e ∷ es) = cond (names e.key es) (keys_of es) (keys_of es + 1)
