-- What is promised holds whatever has happened.
use Rattle.std.proofs.Common.{◌≡◌, ℕ, ◌<◌, ◌≤◌, leb, List, [], ◌∷◌, length, get_or, take, Some, sym, refl, ap, ◌∙◌, subst, inl, inr, arith}
use Rattle.std.proofs.lemmas.List.{take_all, take-append-le, take-take, length-map, get_or-map}
use Rattle.std.proofs.lemmas.Bool.{cond_both, cond-true, le-leb, leb-true}
use Rattle.model.specs.declared.Call.{Call}
use Rattle.model.specs.declared.Call.TheVariants.{Begin, Read, Write, Commit, Abort, Sweep, Sync, Stop, Show}
use Rattle.model.specs.declared.Level.TheVariants.{Latest}
use Rattle.model.specs.Transactions as rules
use Rattle.model.specs.Transactions.{Txn, empty, after, puts, began, is_latest, answer_in, answered, both_write}
use Rattle.conflicts.specs.Laws.{nth}
use Rattle.conflicts.proofs.Allowing.{first_wins}
use Rattle.history.specs.Engine.{Life, Engine, fresh, txn_of, txns, count, slot_at, refusal_of, reading, restarted, on_begin, on_read, on_write, on_commit, performed, found, read_reply, replied, or_refused, bytes_in, whole_in, Event, Called, Stopped, step, run, led}
use Rattle.history.specs.Sound.{Lived, nobody, Sound}
use Rattle.history.specs.Promise.{There, LatestNow, OneMoment, FirstWins, GivenStays, SyncedStays, StopKeeps, Promises}
use Rattle.history.proofs.Lists.{map_same, place_of, none_or_some}
use Rattle.history.proofs.Refusing.{refused_or_not}
use Rattle.history.proofs.Files.{whole-counts}
use Rattle.history.proofs.Sounding.{sweep-below, step_sound, run_append, led-more, always_sound}
use Rattle.history.proofs.Serials.{serial-line}

pub latest-now : (e : Engine) → LatestNow e
latest-now e s a b l h k r =
    let all : take (count e) (txns e) ≡ txns e = take_all (count e) (txns e) (omega (arith, length-map e.done txn_of)) in
    let now : take (reading a b e l).at (txns e) ≡ txns e = ap (λ n. take n (txns e)) (cond-true (is_latest l.txn.level) (count e) l.txn.begin k) ∙ all in
    ap (λ o. or_refused o (replied (Read s a b) e)) r
    ∙ ap (read_reply a b e) h
    ∙ ap (λ (ts : List Txn). found (rules.found (puts l.txn.writes (after empty ts)) a b)) now

-- whoever is there has lived so long
lived_there : (e : Engine) → Sound e → (l : Life) → There l e → (n : ℕ) × Lived (txns e) n l
lived_there e v l (inl m) = let p = place_of nobody m in (p.0, subst (Lived (txns e) p.0) p.2 (v.ended p.0 p.1))
lived_there e v l (inr m) = (count e, v.under m.0 l m.1)

pub one-moment : (e : Engine) → Sound e → OneMoment e
one-moment e v l t s =
    let u = (lived_there e v l t).1 in
    u.given
    ∙ map_same (answered (txns e)) (answer_in (after empty (take l.txn.begin (txns e)))) l.txn.reads
    (λ r i. ap (λ n. answer_in (after empty (take n (txns e))) r) (u.moment s r i))

pub first_committer_lem : (e : Engine) → Sound e → FirstWins e
first_committer_lem e v i j l m b s =
    let n : j < length (txns e) = omega (arith, length-map e.done txn_of) in
    let p : nth (txns e) i ≡ (get_or e.done i nobody).txn = get_or-map txn_of e.done i nobody (began Latest 0) (omega arith) in
    let q : nth (txns e) j ≡ (get_or e.done j nobody).txn = get_or-map txn_of e.done j nobody (began Latest 0) m in
    let c : (nth (txns e) j).begin ≤ i = omega (arith, ap (λ (t : Txn). t.begin) q) in
    let w = first_wins (txns e) v.allowed i j l n c (ap (λ (t : Txn). is_latest t.level) q ∙ s) in
    ap (λ (t : Txn). both_write t.writes (get_or e.done i nobody).txn.writes) (sym q)
    ∙ ap (λ (t : Txn). both_write (nth (txns e) j).writes t.writes) (sym p)
    ∙ w

pub given_stays : (e : Engine) → Sound e → GivenStays e
given_stays e v l t = (lived_there e v l t).1.given

-- what was synced in e is synced in f
abbrev Stays : Engine → Engine → Type 0
Stays e f = (e.synced ≤ f.synced) × (take e.synced f.done ≡ take e.synced e.done)

stays_same : (e : Engine) → Stays e e
stays_same e = (omega arith, refl)

stays_then : (e f g : Engine) → Stays e f → Stays f g → Stays e g
stays_then e f g p q = (
  omega arith,
  sym (take-take e.synced f.synced g.done p.0) ∙ ap (take e.synced) q.1 ∙ take-take e.synced f.synced f.done p.0 ∙ p.1,
)

stays-restarted : (k : ℕ) (e : Engine) → e.synced ≤ k → Stays e (restarted k e)
stays-restarted k e l = (l, take-take e.synced k e.done l)

stays-commit : (s : ℕ) (e : Engine) → Sound e → (l : Life) → Stays e (on_commit s e (Some l))
stays-commit s e v l = (omega arith, take-append-le e.synced e.done (l ∷ []) v.synced)

stays-performed : (c : Call) (e : Engine) → Sound e → Stays e (performed c e)
stays-performed (Begin s l) e v = none_or_some (λ o. Stays e (on_begin s o e)) (stays_same e) (λ _. stays_same e) l
stays-performed (Read s a b) e v = none_or_some (λ o. Stays e (on_read s a b e o)) (stays_same e) (λ _. stays_same e) (slot_at s e)
stays-performed (Write s k x) e v = none_or_some (λ o. Stays e (on_write s (record { key = k; value = x }) e o)) (stays_same e) (λ _. stays_same e) (slot_at s e)
stays-performed (Commit s) e v = none_or_some (λ o. Stays e (on_commit s e o)) (stays_same e) (stays-commit s e v) (slot_at s e)
stays-performed (Abort s) e v = stays_same e
stays-performed Sweep e v = stays_same e
stays-performed Sync e v = (v.synced, refl)
stays-performed Stop e v = stays-restarted (count e) e v.synced
stays-performed Show e v = stays_same e

-- all that was synced is whole in the file
pub synced-whole : (p : ℕ) (e : Engine) → Sound e → bytes_in (take e.synced (txns e)) ≤ p → e.synced ≤ whole_in p (txns e)
synced-whole p e v h = whole-counts e.synced p (txns e) (omega (arith, length-map e.done txn_of, v.synced)) h

stays_step : (x : Event) (e : Engine) → Sound e → Stays e (step x e)
stays_step (Called c) e v = refused_or_not (Stays e) (refusal_of c e) e (performed c e) (stays_same e) (λ _. stays-performed c e v)
stays_step (Stopped p) e v =
    cond_both (leb (bytes_in (take e.synced (txns e))) p) (restarted (whole_in p (txns e)) e) e (Stays e)
    (λ h. stays-restarted (whole_in p (txns e)) e (synced-whole p e v (leb-true (bytes_in (take e.synced (txns e))) p h)))
    (λ _. stays_same e)

stays-run : (h : List Event) (e : Engine) → Sound e → Stays e (run e h)
unfolding run
stays-run [] e v = stays_same e
stays-run (x ∷ h) e v = stays_then e (step x e) (run (step x e) h) (stays_step x e v) (stays-run h (step x e) (step_sound x e v))

pub synced-stays : (h : List Event) → SyncedStays h
synced-stays h more = subst (Stays (led h)) (sym (run_append fresh h more)) (stays-run more (led h) (always_sound h))

pub stop_keeps : (h : List Event) → StopKeeps h
stop_keeps h p l =
    let e = led h in
    let at : step (Stopped p) e ≡ restarted (whole_in p (txns e)) e =
    cond-true (leb (bytes_in (take e.synced (txns e))) p) (restarted (whole_in p (txns e)) e) e (le-leb (bytes_in (take e.synced (txns e))) p l) in
    (ap (λ (f : Engine). f.done) (led-more h (Stopped p) ∙ at), synced-whole p e (always_sound h) l)

pub promises : Promises
promises h =
    let e = led h in
    let v = always_sound h in
    record {
      latest = latest-now e;
      moment = one-moment e v;
      first = first_committer_lem e v;
      given = given_stays e v;
      serial = serial-line e v;
      sweeps = sweep-below e;
      synced = synced-stays h;
      stops = stop_keeps h;
    }
