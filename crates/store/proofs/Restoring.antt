-- Tables that are filled commit by commit.
use Rattle.std.proofs.Common.{◌≡◌, ℕ, suc, ◌+◌, ◌^◌, ◌<◌, ◌≤◌, true, false, eqb, List, [], ◌∷◌, ◌++◌, map, length, Some, sym, refl, ap, ◌∙◌, subst, arith, eq-eqb}
use native.Mathlib.Nat.{ℕ_set}
use mathlib.Core.Logic.{∥∥₁_elim}
use lib.ListN.{length-map}
use Rattle.std.proofs.lemmas.List.{map_push, length_push}
use Rattle.std.proofs.ByRecursion.{All-push, All-weaker}
use Rattle.std.proofs.lemmas.Bool.{le-leb, lt-leb}
use Rattle.std.specs.List.{AllByRecursion}
use Rattle.model.specs.declared.Entry.{Entry}
use Rattle.model.specs.declared.Refusal.{Refusal}
use Rattle.model.specs.Transactions.{Txn}
use Rattle.model.specs.Versions.{Version, committed, versions_from, swept, keys_of}
use Rattle.transactions.specs.declared.slot.Slot.{Slot}
use Rattle.versions.specs.declared.store.Versions.{Versions}
use Rattle.versions.specs.Store.{spaces, size, room_for, refusal}
use Rattle.model.specs.Transactions.{outside}
use Rattle.versions.specs.History as versions
use Rattle.versions.proofs.Named.{keys-few}
use Rattle.conflicts.specs.declared.window.Window.{Window}
use Rattle.conflicts.proofs.Forgetting.{nothing_held}
use Rattle.journal.specs.Records.{FineEntry, FineCommit}
use Rattle.history.specs.Engine.{Engine, fresh, txn_of, txns, count, slot_at, led}
use Rattle.history.specs.Engine as engine
use Rattle.history.specs.Pasts.{writes_of, Writable}
use Rattle.history.proofs.Lists.{none-there, none_some}
use Rattle.history.proofs.Pasts.{every-past}
use Rattle.store.specs.declared.state.Tables.{Tables}
use Rattle.store.specs.Fits.{bare, Fits}
use Rattle.store.specs.Calls.{Led}
use Rattle.store.specs.Restored.{plain, Settled, Loaded, Filled, Settles}
use Rattle.store.proofs.Steps.{never_refused}

-- versions depend on the writes alone
versions-by : (k n : ℕ) (vs : List Version) (ts : List Txn) → versions_from k n vs (map plain (map writes_of ts)) ≡ versions_from k n vs ts
unfolding versions_from
versions-by k n vs [] = refl
versions-by k n vs (t ∷ ts) = versions-by k (suc n) (committed n t.writes k vs) ts

holds_by : (ts : List Txn) (f : ℕ) (v : Versions) → versions.Holds (map plain (map writes_of ts)) f v → versions.Holds ts f v
holds_by ts f v h k l = h k l ∙ ap (swept f) (versions-by k 0 [] ts)

-- the keys of writes that can be are within their bounds
pub fine-inside : (es : List Entry) → AllByRecursion FineEntry es → outside es ≡ false
fine-inside [] h = refl
fine-inside (e ∷ es) h = rw (lt-leb 4096 e.key (let k : e.key ≤ 4095 = h.0.0 in omega arith)) (fine-inside es h.1)

pub loaded_none : (v : Versions) (w : Window) (ss : List Slot) (n : ℕ) → Fits fresh v w ss n → Loaded [] v w ss n
loaded_none v w ss n fit =
    let low : fit.window.from ≤ 0 = fit.window.within in
    record {
      fine = (omega arith, tt);
      number = fit.number;
      floor = 0;
      low = omega arith;
      held = fit.held;
      room = fit.room;
      window = λ done floor h. fit.window.holds ∙ nothing_held [] fit.window.from (omega arith) ∙ sym (nothing_held done floor h);
      runs = fit.runs;
    }

module _ (ws : List (List Entry)) (v : Versions) (w : Window) (ss : List Slot) (n : ℕ) (so : Loaded ws v w ss n) where
  low-now : so.floor ≤ n
  low-now = omega (arith, so.low, so.number)

  pub loaded_swept : (v₁ : Versions) → versions.SweepBy n v v₁ → spaces v₁ ≡ spaces v → Loaded ws v₁ w ss n
  loaded_swept v₁ g r = record {
    fine = so.fine;
    number = so.number;
    floor = n;
    low = omega (arith, so.number);
    held = g (map plain ws) so.floor so.held low-now;
    room = r ∙ so.room;
    window = so.window;
    runs = so.runs;
  }

  -- a sweep leaves room for any commit
  pub room-swept : (v₁ : Versions) (es : List Entry) → versions.FewBy n v v₁ → spaces v₁ ≡ spaces v → length es ≤ 64 → room_for v₁ es ≡ true
  room-swept v₁ es g r h =
      let few : size v₁ ≤ 4096 = g (map plain ws) so.floor so.held low-now (omega (arith, so.number, length-map ws plain)) in
      let keys : keys_of es ≤ length es = keys-few es in
      le-leb (size v₁ + keys_of es) (spaces v₁) (omega (arith, r, so.room, few, keys, h))

  pub loaded_more : (v₁ : Versions) (es : List Entry) → FineCommit es → length ws + 1 < 2 ^ 32 →
      ((done : List Txn) (floor : ℕ) (t : Txn) → versions.Holds done floor v → t.writes ≡ es → n ≡ length done → floor ≤ n → versions.Holds (done ++ (t ∷ [])) floor v₁) →
      spaces v₁ ≡ spaces v → Loaded (ws ++ es ∷ []) v₁ w ss (n + 1)
  loaded_more v₁ es fine small g r =
      let long : length (ws ++ es ∷ []) ≡ length ws + 1 = length_push ws es in
      let k : n ≡ length (map plain ws) = so.number ∙ sym (length-map ws plain) in
      record {
        fine = (omega (arith, long, small), All-push FineCommit ws es so.fine.1 fine);
        number = omega (arith, long, so.number);
        floor = so.floor;
        low = omega (arith, long, so.low);
        held = subst (λ (ts : List Txn). versions.Holds ts so.floor v₁) (sym (map_push plain ws es)) (g (map plain ws) so.floor (plain es) so.held refl k low-now);
        room = r ∙ so.room;
        window = so.window;
        runs = so.runs;
      }

  -- swept, they are an engine that was opened with these commits
  pub loaded_is : (v₁ : Versions) → versions.SweepBy n v v₁ → spaces v₁ ≡ spaces v → (e : Engine) → Settled ws e → Fits e v₁ w ss n
  loaded_is v₁ g r e is =
      let long : length e.done ≡ length ws = sym (length-map e.done txn_of) ∙ sym (length-map (txns e) writes_of) ∙ ap length is.0 in
      let number : n ≡ count e = so.number ∙ sym long in
      let here : versions.Holds (map plain ws) n v₁ = g (map plain ws) so.floor so.held low-now in
      let held : versions.Holds (txns e) n v₁ = holds_by (txns e) n v₁ (subst (λ (us : List (List Entry)). versions.Holds (map plain us) n v₁) (sym is.0) here) in
      record {
        number = number;
        held = subst (λ (f : ℕ). versions.Holds (txns e) f v₁) (number ∙ sym is.1) held;
        room = r ∙ so.room;
        window = record {
          from = count e;
          holds = so.window (txns e) (count e) (omega (arith, length-map e.done txn_of));
          serials = λ i l h s. absurd (none_some (sym (ap (λ os. engine.slot_at i (record { done = e.done; synced = e.synced; floor = e.floor; slots = os })) is.2 ∙ none-there 16 i) ∙ h));
          within = omega arith;
        };
        runs = so.runs ∙ sym (ap (map bare) is.2);
      }

  -- a commit that comes next is never refused
  pub never_bad : (es : List Entry) (y : Refusal) → FineCommit es → room_for v es ≡ true → refusal v es ≡ Some y → ⊥
  never_bad es y fine room bad = never_refused v es (plain es) (record { txn = plain es; given = [] }) y refl refl (fine-inside es fine.1) room bad

-- some events led to tables that were filled and settled
pub settled_led : (s t : Tables) → Settles s t → Filled s → Led t
settled_led s t done (ws, so) =
    let past = every-past ws (All-weaker FineCommit Writable (λ es f. (f.0, fine-inside es f.1)) ws so.fine.1) so.fine.0 in
    let is = past.1 in
    (past.0, done ws so (led past.0) (is.0, is.1, is.3))

-- there is room for all versions
pub all_room : (s : Tables) → ∥ Filled s ∥₁ → eqb (spaces s.versions.now) 32768 ≡ true
all_room s p = eq-eqb (spaces s.versions.now) 32768 (∥∥₁_elim p (ℕ_set _ _) (λ so. so.1.room))
