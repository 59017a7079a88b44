-- What calls lead to where there are only Serials.
use Rattle.std.proofs.Common.{◌≡◌, ℕ, true, false, List, [], ◌∷◌, ◌++◌, Some, None, Option, sym, refl, ap, ◌∙◌, subst, arith}
use Rattle.std.proofs.lemmas.List.{map_push}
use Rattle.model.specs.declared.Call.{Call}
use Rattle.model.specs.declared.Call.TheVariants.{Begin, Read, Write, Commit, Abort, Sweep, Sync, Stop, Show}
use Rattle.model.specs.declared.Level.{Level}
use Rattle.model.specs.declared.Level.TheVariants.{Latest, Snapshot, Serial}
use Rattle.model.specs.declared.Refusal.{Refusal}
use Rattle.model.specs.declared.Entry.{Entry}
use Rattle.model.specs.Transactions.{began}
use Rattle.history.specs.Engine.{Life, Engine, txn_of, txns, count, slot_at, with_slot, refusal_of, read_by, written_by, on_begin, on_read, on_write, on_commit, performed, reply_to, Reply, committed, refused, unless_refused, or_refused, Event, Called, led}
use Rattle.history.proofs.Lists.{set_all, none-there, none_or_some, none_some}
use Rattle.history.proofs.Refusing.{refused_or_not}
use Rattle.history.proofs.Sounding.{led-more}
use Rattle.store.specs.Answers.{is_stop, fault_refusal}
use Rattle.serial_runs.specs.Requests.{other_level, begins_other}
use Rattle.serial_runs.specs.Standing.{commits, bad_line, OnlySerial}

pub false-true : {X : Type 0} → false ≡ true → X
false-true p = let z : ◌≡◌ {A = ℕ} 0 1 = cc in absurd (omega arith)

-- one level is left
only-serial : (l : Level) → other_level (Some l) ≡ false → l ≡ Serial
only-serial Latest p = false-true (sym p)
only-serial Snapshot p = false-true (sym p)
only-serial Serial p = refl

-- a transaction put into a slot that is at Serial, or none
put-serial : (e : Engine) → OnlySerial e → (i : ℕ) (o : Option Life) → ((l : Life) → o ≡ Some l → l.txn.level ≡ Serial) → OnlySerial (with_slot i o e)
put-serial e all i o new = set_all (λ (l : Life). l.txn.level ≡ Serial) e.slots i o all new

the_one : {x l : Life} → Some x ≡ Some l → x.txn.level ≡ Serial → l.txn.level ≡ Serial
the_one {x} {l} p h = let q : x ≡ l = cc in subst (λ (y : Life). y.txn.level ≡ Serial) q h

nobody-new : (l : Life) → None ≡ Some l → l.txn.level ≡ Serial
nobody-new l p = absurd (none_some p)

begin-serial : (s : ℕ) (o : Option Level) (e : Engine) → other_level o ≡ false → OnlySerial e → OnlySerial (on_begin s o e)
begin-serial s None e p all = all
begin-serial s (Some l) e p all = put-serial e all s (Some (record { txn = began l (count e); given = [] })) (λ x q. the_one q (only-serial l p))

read-serial : (s a b : ℕ) (e : Engine) (o : Option Life) → slot_at s e ≡ o → OnlySerial e → OnlySerial (on_read s a b e o)
read-serial s a b e None p all = all
read-serial s a b e (Some l) p all = put-serial e all s (Some (read_by a b e l)) (λ x q. the_one q (all s l p))

write-serial : (s : ℕ) (x : Entry) (e : Engine) (o : Option Life) → slot_at s e ≡ o → OnlySerial e → OnlySerial (on_write s x e o)
write-serial s x e None p all = all
write-serial s x e (Some l) p all = put-serial e all s (Some (written_by x l)) (λ y q. the_one q (all s l p))

commit-serial : (s : ℕ) (e : Engine) (o : Option Life) → OnlySerial e → OnlySerial (on_commit s e o)
commit-serial s e None all = all
commit-serial s e (Some l) all = put-serial e all s None nobody-new

performed-serial : (c : Call) (e : Engine) → begins_other c ≡ false → OnlySerial e → OnlySerial (performed c e)
performed-serial (Begin s l) e p all = begin-serial s l e p all
performed-serial (Read s a b) e p all = read-serial s a b e (slot_at s e) refl all
performed-serial (Write s k v) e p all = write-serial s (record { key = k; value = v }) e (slot_at s e) refl all
performed-serial (Commit s) e p all = commit-serial s e (slot_at s e) all
performed-serial (Abort s) e p all = put-serial e all s None nobody-new
performed-serial Sweep e p all = all
performed-serial Sync e p all = all
performed-serial Stop e p all = λ i l h. absurd (none_some (sym (none-there 16 i) ∙ h))
performed-serial Show e p all = all

-- after a call that has its place among Serials all under way is still at Serial
pub led-serial : (h : List Event) (c : Call) → begins_other c ≡ false → OnlySerial (led h) → OnlySerial (led (h ++ (Called c ∷ [])))
led-serial h c p all =
    subst OnlySerial (sym (led-more h (Called c))) (refused_or_not OnlySerial (refusal_of c (led h)) (led h) (performed c (led h)) all (λ _. performed-serial c (led h) p all))

-- no commit, and the commits stay
abbrev pub NoCommit : Call → Type 0
NoCommit c = (i : ℕ) → c ≡ Commit i → ⊥

performed-same : (c : Call) (e : Engine) → NoCommit c → is_stop c ≡ false → txns (performed c e) ≡ txns e
performed-same (Begin s l) e n p = none_or_some (λ o. txns (on_begin s o e) ≡ txns e) refl (λ _. refl) l
performed-same (Read s a b) e n p = none_or_some (λ o. txns (on_read s a b e o) ≡ txns e) refl (λ _. refl) (slot_at s e)
performed-same (Write s k v) e n p = none_or_some (λ o. txns (on_write s (record { key = k; value = v }) e o) ≡ txns e) refl (λ _. refl) (slot_at s e)
performed-same (Commit s) e n p = absurd (n s refl)
performed-same (Abort s) e n p = refl
performed-same Sweep e n p = refl
performed-same Sync e n p = refl
performed-same Stop e n p = false-true (sym p)
performed-same Show e n p = refl

pub led-same : (h : List Event) (c : Call) → NoCommit c → is_stop c ≡ false → txns (led (h ++ (Called c ∷ []))) ≡ txns (led h)
led-same h c n p =
    ap txns (led-more h (Called c))
    ∙ refused_or_not (λ (f : Engine). txns f ≡ txns (led h)) (refusal_of c (led h)) (led h) (performed c (led h)) refl (λ _. performed-same c (led h) n p)

-- a commit from an idle slot
pub led-idle : (h : List Event) (i : ℕ) → slot_at i (led h) ≡ None → txns (led (h ++ (Called (Commit i) ∷ []))) ≡ txns (led h)
led-idle h i p =
    ap txns (led-more h (Called (Commit i)))
    ∙ refused_or_not (λ (f : Engine). txns f ≡ txns (led h)) (refusal_of (Commit i) (led h)) (led h) (performed (Commit i) (led h)) refl
    (λ _. ap (λ (o : Option Life). txns (on_commit i (led h) o)) p)

-- by the answer to a commit one sees whether it went through
through_if : (o : Option Refusal) (n : ℕ) → commits (or_refused o (committed n)) ≡ true → o ≡ None
through_if (Some y) n p = false-true p
through_if None n p = refl

refused_if : (o : Option Refusal) (n : ℕ) (e f : Engine) → commits (or_refused o (committed n)) ≡ false → unless_refused o e f ≡ e
refused_if (Some y) n e f p = refl
refused_if None n e f p = false-true (sym p)

pub led-commit : (h : List Event) (i : ℕ) (l : Life) → slot_at i (led h) ≡ Some l → commits (reply_to (Commit i) (led h)) ≡ true →
    txns (led (h ++ (Called (Commit i) ∷ []))) ≡ txns (led h) ++ (l.txn ∷ [])
led-commit h i l p q =
    ap txns (led-more h (Called (Commit i)))
    ∙ ap (λ (o : Option Refusal). txns (unless_refused o (led h) (performed (Commit i) (led h)))) (through_if (refusal_of (Commit i) (led h)) (count (led h)) q)
    ∙ ap (λ (o : Option Life). txns (on_commit i (led h) o)) p
    ∙ map_push txn_of (led h).done l

pub led-refused : (h : List Event) (i : ℕ) → commits (reply_to (Commit i) (led h)) ≡ false → led (h ++ (Called (Commit i) ∷ [])) ≡ led h
led-refused h i q = led-more h (Called (Commit i)) ∙ refused_if (refusal_of (Commit i) (led h)) (count (led h)) (led h) (performed (Commit i) (led h)) q

-- where a commit with a fault in its line is refused for something else, the commit is
pub fault_first : (o : Option Refusal) (r : Reply) → bad_line (refused (fault_refusal o)) ≡ false → (refused (fault_refusal o) ≡ or_refused o r) × (commits (or_refused o r) ≡ false)
fault_first (Some y) r p = (refl, refl)
fault_first None r p = false-true (sym p)
