-- Calls, whatever events led to the tables.
use Rattle.std.proofs.Common.{◌≡◌, true, false, List, [], ◌∷◌, ◌++◌, Some, None, Err, Option, Result, sym, refl, ap, ◌∙◌, subst, inl, ⊎_elim}
use borrow.Author.Tests.{both_ways}
use mathlib.Core.Logic.{∥∥₁_elim, ∥∥₁_prop}
use Rattle.model.specs.declared.Answer.{Answer}
use Rattle.model.specs.declared.Call.{Call}
use Rattle.model.specs.declared.Refusal.{Refusal}
use Rattle.model.specs.declared.Request.{Request}
use Rattle.journal.specs.declared.gather.Journal.{Journal}
use Rattle.history.specs.Engine.{Engine, txns, refusal_of, performed, replied, unless_refused, or_refused, reply_to, Reply, refused, Event, Called, led}
use Rattle.history.proofs.Sounding.{always_sound, led-more}
use Rattle.store.specs.declared.state.Tables.{Tables}
use Rattle.store.specs.Calls.{Is, Refuses, AnswersRecording, PerformsRecording, DoesRecording, Led}
use Rattle.store.specs.declared.store.Store.{Store}
use Rattle.store.proofs.Recording.{nothing_new}
use Rattle.store.specs.Answers.{ready_of, fault_refusal, unready_refusal, Faulted, AnswersReadyRecording, AnswersToRecording}

module _ (c : Call) (s : Tables) (h : List Event) (fit : Is (led h) s) (o : Option Refusal) (told : Refuses c s o) where
  known : o ≡ refusal_of c (led h)
  known = told (led h) (always_sound h) fit

  leads : unless_refused o (led h) (performed c (led h)) ≡ led (h ++ (Called c ∷ []))
  leads = ap (λ (y : Option Refusal). unless_refused y (led h) (performed c (led h))) known ∙ sym (led-more h (Called c))

  says : or_refused o (replied c (led h)) ≡ reply_to c (led h)
  says = ap (λ (y : Option Refusal). or_refused y (replied c (led h))) known

pub call_refused : (c : Call) (s : Tables) (j : Journal) (y : Refusal) → Refuses c s (Some y) → DoesRecording c s j s j (Err y)
call_refused c s j y told h fit =
    let stays : led h ≡ led (h ++ (Called c ∷ [])) = leads c s h fit (Some y) told in
    inl (subst (λ (e : Engine). Is e s) stays fit, says c s h fit (Some y) told, nothing_new (led h) (led (h ++ (Called c ∷ []))) j (ap txns (sym stays)))

pub call_done : (c : Call) (s t : Tables) (i j : Journal) (a : Result Answer Refusal) → Refuses c s None → PerformsRecording c s i t j a → DoesRecording c s i t j a
call_done c s t i j a told done h fit =
    subst (λ (e : Engine). AnswersRecording c (led h) e (reply_to c (led h)) i t j a) (leads c s h fit None told)
    (subst (λ (r : Reply). AnswersRecording c (led h) (performed c (led h)) r i t j a) (says c s h fit None told)
    (done (led h) (always_sound h) fit (sym (known c s h fit None told))))

pub fault_told : (c : Call) (s : Tables) (o : Option Refusal) → Refuses c s o → Faulted c s (Err (fault_refusal o))
fault_told c s o told h fit = ap (λ (y : Option Refusal). refused (fault_refusal y)) (known c s h fit o told)

-- where events led to the tables before a call, events led to them after it
led_on : (c : Call) (s t : Tables) (i j : Journal) (a : Result Answer Refusal) → DoesRecording c s i t j a → Led s → ∥ Led t ∥₁
led_on c s t i j a does (h, fit) = ⊎_elim (λ d. ∣ (h ++ (Called c ∷ []), d.0) ∣₁) (λ d. ∣ (h, d.2) ∣₁) (does h fit)

pub still_led : (c : Call) (s t : Tables) (i j : Journal) (a : Result Answer Refusal) → DoesRecording c s i t j a → ∥ Led s ∥₁ → ∥ Led t ∥₁
still_led c s t i j a does p = ∥∥₁_elim p ∥∥₁_prop (led_on c s t i j a does)

pub answers-none : (q : Request) (s t : Store) (j : Journal) (y : Refusal) → t.stage ≡ s.stage → t.tables.now ≡ s.tables.now → ready_of s ≡ false → y ≡ unready_refusal q → AnswersToRecording q s j t j (Err y)
answers-none q s t j y same kept off p = record {
  stage = same;
  engine = λ on. absurd (both_ways (ready_of s) off on);
  none = λ _. (kept, refl, ap refused p);
}

pub answers-engine : (q r : Request) (s t : Store) (i j : Journal) (a : Result Answer Refusal) → q ≡ r → t.stage ≡ s.stage → ready_of s ≡ true → AnswersReadyRecording r s.tables.now i t.tables.now j a → AnswersToRecording q s i t j a
answers-engine q r s t i j a p same on done = record {
  stage = same;
  engine = λ _. subst (λ (x : Request). AnswersReadyRecording x s.tables.now i t.tables.now j a) (sym p) done;
  none = λ off. absurd (both_ways (ready_of s) off on);
}
