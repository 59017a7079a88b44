-- Commits, and who may commit.
use Rattle.std.specs.Prelude.{ℕ, suc, Bool, cond, not, ◌&&◌, List, [], ◌∷◌, ◌++◌, Some, None, Option, ◌==◌, nat_le}
use Rattle.model.specs.declared.Entry.{Entry}
use Rattle.model.specs.declared.Refusal.{Refusal}
use Rattle.model.specs.declared.Refusal.TheVariants.{WriteConflict, Pivot}
use Rattle.model.specs.Lists.{any}
use Rattle.model.specs.Transactions.{Txn, reads_some, both_write, is_serial, is_latest}

-- a commit with its number, which is how many were done before it
pub record Commit : Type 0 where
  pub number : ℕ
  pub txn : Txn

unfoldable pub numbered : ℕ → List Txn → List Commit
numbered n [] = []
numbered n (t ∷ ts) = record { number = n; txn = t } ∷ numbered (suc n) ts

abbrev pub commits : List Txn → List Commit
commits done = numbered 0 done

-- somebody who began with b commits done did not see d
abbrev pub unseen : ℕ → Commit → Bool
unseen b d = nat_le b d.number

-- neither's number is below the other's begin
abbrev pub together : Commit → Commit → Bool
together a d = unseen a.txn.begin d && unseen d.txn.begin a

-- both are Serial and were under way together, and a range of a looks at a key that d writes: a has to stand before d
abbrev pub passes : Commit → Commit → Bool
passes a d = (is_serial a.txn.level && is_serial d.txn.level) &&
    (together a d && (not (a.number == d.number) && reads_some a.txn.reads d.txn.writes))

-- it passes one of the commits and is passed by one, which may be the same
abbrev pub is_pivot : List Commit → Commit → Bool
is_pivot ds a = any (passes a) ds && any (λ (d : Commit). passes d a) ds

abbrev pub has_pivot : List Txn → Bool
has_pivot done = any (is_pivot (commits done)) (commits done)

-- a commit that was not seen wrote one of the keys
abbrev pub wrote_since : ℕ → List Entry → List Txn → Bool
wrote_since b es done = any (λ (d : Commit). unseen b d && both_write es d.txn.writes) (commits done)

-- why the rules refuse the commit of t after these commits, if they do: a Latest may always commit, a Snapshot if no
-- commit that it did not see wrote a key that it writes, a Serial if besides there would be no pivot with it among the commits
abbrev pub verdict : Txn → List Txn → Option Refusal
verdict t done =
    cond (is_latest t.level) None
    (cond (wrote_since t.begin t.writes done) (Some WriteConflict)
    (cond (is_serial t.level && has_pivot (done ++ (t ∷ []))) (Some Pivot) None))
