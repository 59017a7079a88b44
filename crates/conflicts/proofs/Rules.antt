-- From the window's marks to the rules over all commits.
use Rattle.std.proofs.Common.{◌≡◌, ℕ, Bool, true, false, List, [], ◌∷◌, ◌++◌, length, sym, ap, ◌∙◌}
use Rattle.model.specs.Transactions.{Txn, is_serial}
use Rattle.model.specs.Commits.{commits}
use Rattle.conflicts.specs.declared.window.Window.{Window}
use Rattle.conflicts.specs.Marks.{marks_of, would_pivot, from_floor, taken_in}
use Rattle.conflicts.specs.Held.{held_of, Holds, Next, PivotTold, Forgot}
use Rattle.conflicts.proofs.Marked.{told, entered-serial, entered-other}
use Rattle.conflicts.proofs.Forgetting.{forgets, nothing_held}

pub pivot_by_marks : (w : Window) (t : Txn) (r : Bool) → r ≡ would_pivot t (marks_of w) → PivotTold w t r
pivot_by_marks w t r e done floor k s z =
    e ∙ ap (would_pivot t) k.holds ∙ sym (told done t floor k.timely k.begun s (k.late s) z)

module _ (w v : Window) (t : Txn) (n : ℕ) where
  pub entered-by_marks : is_serial t.level ≡ true → marks_of v ≡ taken_in t n (marks_of w) → (done : List Txn) (floor : ℕ) → n ≡ length done → Next done floor w t → Holds (done ++ (t ∷ [])) floor v
  entered-by_marks s e done floor m k =
      e ∙ ap (taken_in t n) k.holds ∙ ap (λ i. taken_in t i (held_of floor (commits done))) m ∙ sym (entered-serial done t floor k.timely k.begun s (k.late s))

  pub left-by_marks : is_serial t.level ≡ false → marks_of v ≡ marks_of w → (done : List Txn) (floor : ℕ) → n ≡ length done → Next done floor w t → Holds (done ++ (t ∷ [])) floor v
  left-by_marks s e done floor m k = e ∙ k.holds ∙ sym (entered-other done t floor k.timely s)

pub forgot_by_marks : (w v : Window) (floor : ℕ) → marks_of v ≡ from_floor floor (marks_of w) → Forgot w v floor
forgot_by_marks w v floor e done f l h =
    let a : Holds done floor v = e ∙ ap (from_floor floor) h ∙ forgets done f floor l in
    (a, λ m. a ∙ nothing_held done floor m)
