-- Transactions that ended or stand, as events go on.
use Rattle.std.proofs.Common.{◌≡◌, ℕ, ◌≤◌, false, leb, ◌⊎◌, List, [], ◌∷◌, ◌++◌, map, length, take, sym, refl, ap, ◌∙◌, inl, inr, arith}
use mathlib.Core.List.Memᴰ
use mathlib.Core.List.{Memᴰ}
use Rattle.std.proofs.lemmas.List.{take-take, take-map, map_push, length_push}
use Rattle.std.proofs.lemmas.Bool.{cond_both, cond-false, or_from, leb-false}
use Rattle.model.specs.declared.Entry.{Entry}
use Rattle.model.specs.declared.Level.{Level}
use Rattle.model.specs.Transactions as rules
use Rattle.model.specs.Transactions.{Txn, empty, after, is_latest, began, moment, answer_in, answered, outside}
use Rattle.conflicts.proofs.Firsts.{any_push}
use Rattle.history.specs.Engine.{Life, Engine, txn_of, txns, count, reading, read_by, written_by}
use Rattle.history.specs.Sound.{Lived}
use Rattle.history.proofs.Lists.{map_same}

-- where the commits that it may have seen are the same
module _ (ds es : List Life) (n m : ℕ) (l : Life) (same : take n es ≡ take n ds) where
  same-txns : take n (map txn_of es) ≡ take n (map txn_of ds)
  same-txns = take-map txn_of n es ∙ ap (map txn_of) same ∙ sym (take-map txn_of n ds)

  same_answer : (r : rules.Read) → r.at ≤ n → answered (map txn_of ds) r ≡ answered (map txn_of es) r
  same_answer r h =
      let a : take r.at (map txn_of ds) ≡ take r.at (map txn_of es) =
      sym (take-take r.at n (map txn_of ds) h) ∙ ap (take r.at) (sym same-txns) ∙ take-take r.at n (map txn_of es) h in
      ap (λ (ts : List Txn). answer_in (after empty ts) r) a

  pub lived_on : n ≤ m → Lived (map txn_of ds) n l → Lived (map txn_of es) m l
  lived_on k v = record {
    begun = omega (arith, v.begun);
    seen = λ r i. omega (arith, v.seen r i);
    moment = v.moment;
    given = v.given ∙ map_same (answered (map txn_of ds)) (answered (map txn_of es)) l.txn.reads (λ r i. same_answer r (v.seen r i));
    reads = v.reads;
    writes = v.writes;
    keys = v.keys;
  }

none-outside : outside [] ≡ false
none-outside = refl

pub lived_new : (ts : List Txn) (n : ℕ) (l : Level) → Lived ts n (record { txn = began l n; given = [] })
lived_new ts n l = record {
  begun = omega arith;
  seen = λ r i. absurd (Memᴰ.not-nil i);
  moment = λ _ r i. absurd (Memᴰ.not-nil i);
  given = refl;
  reads = omega arith;
  writes = omega arith;
  keys = none-outside;
}

module _ (a b : ℕ) (e : Engine) (l : Life) (v : Lived (txns e) (count e) l) where
  -- what holds of the reads before and of this one holds of all
  with_this : (P : rules.Read → Type 0) → ((r : rules.Read) → Memᴰ r l.txn.reads → P r) → P (reading a b e l) →
      (r : rules.Read) → Memᴰ r (read_by a b e l).txn.reads → P r
  with_this P old new r i = go (Memᴰ.append_cases l.txn.reads i)
    where
      go : Memᴰ r l.txn.reads ⊎ Memᴰ r (reading a b e l ∷ []) → P r
      go (inl j) = old r j
      go (inr j) = rw (Memᴰ.eq_of_singleton j) new

  pub lived_read : leb 64 (length l.txn.reads) ≡ false → Lived (txns e) (count e) (read_by a b e l)
  lived_read h = record {
    begun = v.begun;
    seen = with_this (λ r. r.at ≤ count e) v.seen (cond_both (is_latest l.txn.level) (count e) l.txn.begin (λ k. k ≤ count e) (λ _. omega arith) (λ _. v.begun));
    moment = λ s. with_this (λ r. r.at ≡ l.txn.begin) (v.moment s) (cond-false (is_latest l.txn.level) (count e) l.txn.begin s);
    given = ap (λ gs. gs ++ (answered (txns e) (reading a b e l) ∷ [])) v.given ∙ sym (map_push (answered (txns e)) l.txn.reads (reading a b e l));
    reads = omega (arith, length_push l.txn.reads (reading a b e l), leb-false 64 (length l.txn.reads) h);
    writes = v.writes;
    keys = v.keys;
  }

module _ (x : Entry) (ts : List Txn) (n : ℕ) (l : Life) (v : Lived ts n l) where
  pub lived_write : leb 4096 x.key ≡ false → leb 64 (length l.txn.writes) ≡ false → Lived ts n (written_by x l)
  lived_write k h = record {
    begun = v.begun;
    seen = v.seen;
    moment = v.moment;
    given = v.given;
    reads = v.reads;
    writes = omega (arith, length_push l.txn.writes x, leb-false 64 (length l.txn.writes) h);
    keys = any_push (λ (y : Entry). leb 4096 y.key) l.txn.writes x ∙ or_from (outside l.txn.writes) (leb 4096 x.key) v.keys k;
  }
