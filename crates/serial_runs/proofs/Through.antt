-- What goes through where there are only Serials.
use Rattle.std.proofs.Common.{◌≡◌, ℕ, Bool, true, false, cond, refl, ◌∙◌, subst, arith}
use Rattle.std.proofs.lemmas.Bool.{cond-false}
use Rattle.model.specs.declared.Call.{Call}
use Rattle.model.specs.declared.Request.{Request}
use Rattle.model.specs.declared.Request.TheVariants.{Whole, Faulty, Slotless, Unknown}
use Rattle.store.specs.Answers.{is_stop}
use Rattle.serial_runs.specs.Requests.{begins_other, as_serial, Fitting, Through}

-- one that is whole comes of the last of the three
whole-last : (d c : Call) (s b : Bool) → cond s Unknown (cond b (Faulty d) (Whole d)) ≡ Whole c → (Whole d ≡ Whole c) × (s ≡ false) × (b ≡ false)
whole-last d c true b p = let z : ◌≡◌ {A = ℕ} 0 1 = cc in absurd (omega arith)
whole-last d c false true p = let z : ◌≡◌ {A = ℕ} 0 1 = cc in absurd (omega arith)
whole-last d c false false p = (p, refl, refl)

never_whole : (c : Call) (s : Bool) (r : Request) → (r ≡ Whole c → ⊥) → cond s Unknown r ≡ Whole c → ⊥
never_whole c true r n p = let z : ◌≡◌ {A = ℕ} 0 1 = cc in omega arith
never_whole c false r n p = n p

same_call : {d c : Call} → Whole d ≡ Whole c → d ≡ c
same_call p = cc

asked : (q : Request) (c : Call) → as_serial q ≡ Whole c → (q ≡ Whole c) × Fitting c
asked (Whole d) c p =
    let w = whole-last d c (is_stop d) (begins_other d) p in
    (w.0, subst Fitting (same_call w.0) (w.1, w.2))
asked (Faulty d) c p = absurd (never_whole c (is_stop d) (Faulty d) (λ e. let z : ◌≡◌ {A = ℕ} 0 1 = cc in omega arith) p)
asked (Slotless d) c p = absurd (never_whole c (is_stop d) (Slotless d) (λ e. let z : ◌≡◌ {A = ℕ} 0 1 = cc in omega arith) p)
asked Unknown c p = let z : ◌≡◌ {A = ℕ} 0 1 = cc in absurd (omega arith)

pub through : Through
through = record {
  asked = asked;
  taken = λ c f. (
    cond-false (is_stop c) Unknown (cond (begins_other c) (Faulty c) (Whole c)) f.0 ∙ cond-false (begins_other c) (Faulty c) (Whole c) f.1,
    cond-false (is_stop c) Unknown (Faulty c) f.0,
    cond-false (is_stop c) Unknown (Slotless c) f.0,
  );
}
