-- The marks of the commits from a floor on, with one commit more.
use Rattle.std.proofs.Common.{◌≡◌, ℕ, ◌≤◌, Bool, true, false, cond, ◌&&◌, ◌||◌, leb, List, [], ◌∷◌, ◌++◌, map, length, is_some, sym, refl, ap, ◌∙◌, ⊎_elim, arith}
use Rattle.std.specs.List.{AllByRecursion}
use Rattle.std.proofs.Math.Bool.{or-false}
use Rattle.std.proofs.lemmas.Bool.{le-leb, lt-leb, leb-false, ne_eqb, and_parts, and_cases, and_from}
use Rattle.std.proofs.lemmas.List.{append-nil, map_push}
use Rattle.std.proofs.lemmas.Simd.{map-map}
use Rattle.std.proofs.lemmas.List.Elements.{filter-append}
use Rattle.model.specs.Lists.{any, kept}
use Rattle.model.specs.Transactions.{Txn, is_serial}
use Rattle.model.specs.Commits.{Commit, commits, unseen, passes, is_pivot, has_pivot}
use Rattle.conflicts.specs.Marks.{lowest, since, mark_number, is_passed, is_passing, turns, would_pivot, remarked, new_mark, taken_in}
use Rattle.conflicts.specs.Held.{commit_number, mark_among, recent, held_of, Timely}
use Rattle.conflicts.proofs.Bools.{turned, since-not}
use Rattle.conflicts.proofs.Firsts.{any_push, lowest_push, some_lowest, none_passes, all_both, any_same, any-nobody, map-kept, lowest-kept, any-kept}
use Rattle.conflicts.proofs.Numbers.{commit, commits_push, Before, before-all}
use Rattle.conflicts.proofs.Passing.{serial, of_earlier, of_later, not-serial, other-not-serial, saw, was-seen, myself}

-- d passes a
abbrev passer : Commit → Commit → Bool
passer a d = passes d a

-- a test that d fails finds none more in it
lowest_as_was : (p : Commit → Bool) (ds : List Commit) (d : Commit) → p d ≡ false → lowest commit_number p (ds ++ (d ∷ [])) ≡ lowest commit_number p ds
lowest_as_was p ds d e = lowest_push commit_number p ds d ∙ ap (λ b. since (lowest commit_number p ds) b d.number) e ∙ since-not (lowest commit_number p ds) d.number

any_as_was : (p : Commit → Bool) (ds : List Commit) (d : Commit) → p d ≡ false → any p (ds ++ (d ∷ [])) ≡ any p ds
any_as_was p ds d e = any_push p ds d ∙ ap (λ b. any p ds || b) e ∙ or-false (any p ds)

-- t, a Serial, commits as number n
module _ (n : ℕ) (t : Txn) (b : t.begin ≤ n) (s : is_serial t.level ≡ true) (f : ℕ) (late : f ≤ t.begin) where
  abbrev d : Commit
  d = commit n t

  passing : (ds : List Commit) (a : Commit) → Before n a → serial a ≡ true → passes a d ≡ is_passing t (mark_among ds a)
  passing ds a h e = let l = h.0 in of_earlier a d e s (le-leb a.txn.begin n h.1) (ne_eqb a.number n (λ x. omega arith))

  passed : (ds : List Commit) (a : Commit) → Before n a → serial a ≡ true → passes d a ≡ is_passed t (mark_among ds a)
  passed ds a h e = let l = h.0 in of_later d a s e (le-leb a.txn.begin n h.1) (ne_eqb n a.number (λ x. omega arith))

  seen : (a : Commit) → leb f a.number ≡ false → unseen t.begin a ≡ false
  seen a e = let l = leb-false f a.number e in lt-leb t.begin a.number (omega arith)

  not-passing : (a : Commit) → recent f a ≡ false → passes a d ≡ false
  not-passing a e = ⊎_elim (not-serial a d) (λ z. was-seen a d (seen a z)) (and_cases (serial a) (leb f a.number) e)

  not-passed : (a : Commit) → recent f a ≡ false → passes d a ≡ false
  not-passed a e = ⊎_elim (other-not-serial d a) (λ z. saw d a (seen a z)) (and_cases (serial a) (leb f a.number) e)

  is_serial_lem : (a : Commit) → recent f a ≡ true → serial a ≡ true
  is_serial_lem a e = (and_parts (serial a) (leb f a.number) e).0

  module _ (ds : List Commit) (h : AllByRecursion (Before n) ds) where
    abbrev more : List Commit
    more = ds ++ (d ∷ [])

    out-now : lowest commit_number (passes d) more ≡ lowest mark_number (is_passed t) (held_of f ds)
    out-now = lowest_as_was (passes d) ds d (myself d)
        ∙ lowest-kept (recent f) (Before n) (mark_among ds) (passes d) (is_passed t) (λ a h e. passed ds a h (is_serial_lem a e)) (λ a h e. not-passed a e) commit_number mark_number (λ _. refl) ds h

    into-now : lowest commit_number (passer d) more ≡ lowest mark_number (is_passing t) (held_of f ds)
    into-now = lowest_as_was (passer d) ds d (myself d)
        ∙ lowest-kept (recent f) (Before n) (mark_among ds) (passer d) (is_passing t) (λ a h e. passing ds a h (is_serial_lem a e)) (λ a h e. not-passing a e) commit_number mark_number (λ _. refl) ds h

    remark_one : (a : Commit) → Before n a → recent f a ≡ true → mark_among more a ≡ remarked t n (mark_among ds a)
    remark_one a h e =
        let o : lowest commit_number (passes a) more ≡ since (lowest commit_number (passes a) ds) (is_passing t (mark_among ds a)) n =
        lowest_push commit_number (passes a) ds d ∙ ap (λ z. since (lowest commit_number (passes a) ds) z n) (passing ds a h (is_serial_lem a e)) in
        let i : lowest commit_number (passer a) more ≡ since (lowest commit_number (passer a) ds) (is_passed t (mark_among ds a)) n =
        lowest_push commit_number (passer a) ds d ∙ ap (λ z. since (lowest commit_number (passer a) ds) z n) (passed ds a h (is_serial_lem a e)) in
        cc

    pub held-serial : held_of f more ≡ taken_in t n (held_of f ds)
    held-serial =
        let r : recent f d ≡ true = and_from (is_serial t.level) (leb f n) s (le-leb f n (omega arith)) in
        let o = out-now in
        let i = into-now in
        let last : mark_among more d ≡ new_mark t n (held_of f ds) = cc in
        ap (map (mark_among more)) (filter-append (recent f) ds (d ∷ []) ∙ ap (λ z. kept (recent f) ds ++ cond z (d ∷ []) []) r)
        ∙ map_push (mark_among more) (kept (recent f) ds) d
        ∙ ap (λ l. l ++ (mark_among more d ∷ [])) (map-kept (recent f) (Before n) (mark_among more) (λ a. remarked t n (mark_among ds a)) remark_one ds h ∙ sym (map-map (remarked t n) (mark_among ds) (kept (recent f) ds)))
        ∙ ap (λ m. map (remarked t n) (held_of f ds) ++ (m ∷ [])) last

    abbrev Free : Commit → Type 0
    Free a = Before n a × (is_pivot ds a ≡ false)

    turns-into : (a : Commit) → Free a → recent f a ≡ true → is_pivot more a ≡ turns t (mark_among ds a)
    turns-into a h e =
        let o = any (passes a) ds in
        let i = any (passer a) ds in
        let c = is_passing t (mark_among ds a) in
        let g = is_passed t (mark_among ds a) in
        ap (λ z. z && any (passer a) more) (any_push (passes a) ds d ∙ ap (λ z. o || z) (passing ds a h.0 (is_serial_lem a e)))
        ∙ ap (λ z. (o || c) && z) (any_push (passer a) ds d ∙ ap (λ z. i || z) (passed ds a h.0 (is_serial_lem a e)))
        ∙ turned o i c g h.1
        ∙ ap (λ z. (g && (z || c)) || (c && i)) (sym (some_lowest commit_number (passes a) ds))
        ∙ ap (λ z. (g && (is_some (lowest commit_number (passes a) ds) || c)) || (c && z)) (sym (some_lowest commit_number (passer a) ds))

    stays : (a : Commit) → Free a → recent f a ≡ false → is_pivot more a ≡ false
    stays a h e =
        ap (λ z. z && any (passer a) more) (any_as_was (passes a) ds d (not-passing a e)) ∙ ap (λ z. any (passes a) ds && z) (any_as_was (passer a) ds d (not-passed a e)) ∙ h.1

    pub pivot_told : any (is_pivot ds) ds ≡ false → any (is_pivot more) more ≡ would_pivot t (held_of f ds)
    pivot_told z =
        any_push (is_pivot more) ds d
        ∙ ap (λ y. y || is_pivot more d) (any-kept (recent f) Free (mark_among ds) (is_pivot more) (turns t) turns-into stays ds (all_both (Before n) (λ a. is_pivot ds a ≡ false) ds h (none_passes (is_pivot ds) ds z)))
        ∙ ap (λ y. any (turns t) (held_of f ds) || (y && any (passer d) more)) (sym (some_lowest commit_number (passes d) more) ∙ ap is_some out-now)
        ∙ ap (λ y. any (turns t) (held_of f ds) || (is_some (lowest mark_number (is_passed t) (held_of f ds)) && y)) (sym (some_lowest commit_number (passer d) more) ∙ ap is_some into-now)

-- t of another level
module _ (n : ℕ) (t : Txn) (s : is_serial t.level ≡ false) (ds : List Commit) (h : AllByRecursion (Before n) ds) where
  abbrev d' : Commit
  d' = commit n t

  abbrev more' : List Commit
  more' = ds ++ (d' ∷ [])

  out_no : (a : Commit) → passes a d' ≡ false
  out_no a = other-not-serial a d' s

  into_no : (a : Commit) → passes d' a ≡ false
  into_no a = not-serial d' a s

  pub held-other : (f : ℕ) → held_of f more' ≡ held_of f ds
  held-other f =
      let r : recent f d' ≡ false = ap (λ z. z && leb f n) s in
      ap (map (mark_among more')) (filter-append (recent f) ds (d' ∷ []) ∙ ap (λ z. kept (recent f) ds ++ cond z (d' ∷ []) []) r ∙ append-nil (kept (recent f) ds))
      ∙ map-kept (recent f) (Before n) (mark_among more') (mark_among ds)
      (λ a h e.
      let o = lowest_as_was (passes a) ds d' (out_no a) in
      let i = lowest_as_was (passer a) ds d' (into_no a) in
      cc) ds h

  pub pivots_other : any (is_pivot more') more' ≡ any (is_pivot ds) ds
  pivots_other =
      let m : is_pivot more' d' ≡ false = ap (λ z. z && any (passer d') more') (any_as_was (passes d') ds d' (into_no d') ∙ nobody) in
      any_as_was (is_pivot more') ds d' m
      ∙ any_same (Before n) (is_pivot more') (is_pivot ds) (λ a h. ap (λ z. z && any (passer a) more') (any_as_was (passes a) ds d' (out_no a)) ∙ ap (λ z. any (passes a) ds && z) (any_as_was (passer a) ds d' (into_no a))) ds h
    where
      nobody : any (passes d') ds ≡ false
      nobody = any-nobody (passes d') into_no ds

-- over the list of all commits
pub told : (done : List Txn) (t : Txn) (f : ℕ) → Timely 0 done → t.begin ≤ length done → is_serial t.level ≡ true → f ≤ t.begin → has_pivot done ≡ false → has_pivot (done ++ (t ∷ [])) ≡ would_pivot t (held_of f (commits done))
told done t f h b s l z = ap (λ cs. any (is_pivot cs) cs) (commits_push done t) ∙ pivot_told (length done) t b s f l (commits done) (before-all done h) z

pub entered-serial : (done : List Txn) (t : Txn) (f : ℕ) → Timely 0 done → t.begin ≤ length done → is_serial t.level ≡ true → f ≤ t.begin → held_of f (commits (done ++ (t ∷ []))) ≡ taken_in t (length done) (held_of f (commits done))
entered-serial done t f h b s l = ap (held_of f) (commits_push done t) ∙ held-serial (length done) t b s f l (commits done) (before-all done h)

pub entered-other : (done : List Txn) (t : Txn) (f : ℕ) → Timely 0 done → is_serial t.level ≡ false → held_of f (commits (done ++ (t ∷ []))) ≡ held_of f (commits done)
entered-other done t f h s = ap (held_of f) (commits_push done t) ∙ held-other (length done) t s (commits done) (before-all done h) f

pub pivots_same : (done : List Txn) (t : Txn) → Timely 0 done → is_serial t.level ≡ false → has_pivot (done ++ (t ∷ [])) ≡ has_pivot done
pivots_same done t h s = ap (λ cs. any (is_pivot cs) cs) (commits_push done t) ∙ pivots_other (length done) t s (commits done) (before-all done h)
