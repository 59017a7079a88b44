-- A file of records, read from its start.
use Rattle.std.specs.Prelude.{◌≡◌, ℕ, zero, suc, ◌+◌, ◌-◌, ◌*◌, ◌^◌, ◌<◌, ◌≤◌, cond, List, [], ◌∷◌, ◌++◌, length, take, drop, Ok, Err, Result, nat_le, nat_lt}
use Rattle.std.specs.List.{AllByRecursion}
use Rattle.model.specs.declared.Entry.{Entry}
use Rattle.journal.specs.declared.types.Fault.{Fault}
use Rattle.journal.specs.declared.types.Fault.TheVariants.{WrongNumber}
use Rattle.journal.specs.declared.types.Flaw.{Flaw}
use Rattle.journal.specs.declared.types.Survey.{Survey}
use Rattle.journal.specs.Records.{record_of, FineCommit}
use Rattle.journal.specs.Parsing.{Reading, whole, short, faulty, parsed}

-- the records of these commits, the first with number n
unfoldable pub file_from : ℕ → List (List Entry) → List ℕ
file_from n [] = []
file_from n (es ∷ ws) = record_of n es ++ file_from (suc n) ws

abbrev pub file_of : List (List Entry) → List ℕ
file_of ws = file_from 0 ws

-- good: the writes of each commit, and how many bytes their records have; bad: the byte where the bad record begins, and why
pub data Opened : Type 0 where
  good : List (List Entry) → ℕ → Opened
  bad : ℕ → Fault → Opened

-- behind a record with these writes and so many bytes
abbrev pub after : List Entry → ℕ → Opened → Opened
after es k (good ws m) = good (es ∷ ws) (k + m)
after es k (bad at why) = bad (k + at) why

-- There are never more than 4,294,967,295 commits: the record of one more is bad, since no commit has its number.
abbrev pub onward : ℕ → Reading → (ℕ → Opened) → Opened
onward n (whole es k) go = cond (nat_lt (suc n) (2 ^ 32)) (after es k (go k)) (bad 0 WrongNumber)
onward n short go = good [] 0
onward n (faulty why) go = bad 0 why

-- record by record, in at most so many turns
unfoldable pub turned : ℕ → ℕ → List ℕ → Opened
turned zero n bs = good [] 0
turned (suc turns) n bs = onward n (parsed n bs) (λ k. turned turns (suc n) (drop k bs))

-- the records at the front when n are before them; as many turns as bytes are enough
abbrev pub replayed : ℕ → List ℕ → Opened
replayed n bs = turned (length bs) n bs

-- what a file means
abbrev pub opened : List ℕ → Opened
opened bs = replayed 0 bs

-- how many of the commits' records end within the first p bytes
unfoldable pub whole_in : ℕ → List (List Entry) → ℕ
whole_in p [] = 0
whole_in p (es ∷ ws) = cond (nat_le (6 + 6 * length es) p) (suc (whole_in (p - (6 + 6 * length es)) ws)) 0

-- these commits, with so many bytes, were read before
unfoldable pub behind : List (List Entry) → ℕ → Opened → Opened
behind ws m (good more k) = good (ws ++ more) (m + k)
behind ws m (bad at why) = bad (m + at) why

abbrev pub on_good : Opened → (List (List Entry) → ℕ → Opened) → Opened
on_good (good ws used) go = go ws used
on_good (bad at why) go = bad at why

-- what is answered of the record that begins at this byte
abbrev pub flawed : {A : Type 0} → ℕ → Result A Fault → Result A Flaw
flawed at (Ok x) = Ok x
flawed at (Err why) = Err (record { at = at; why = why })

-- what a survey from number n on answers
abbrev pub surveyed : ℕ → Opened → Result Survey Flaw
surveyed n (good ws used) = Ok (record { bytes = used; next = n + length ws })
surveyed n (bad at why) = Err (record { at = at; why = why })

-- the commits that were read from number n on: their records are the first bytes, and they can be
pub record Read (n : ℕ) (bs : List ℕ) (ws : List (List Entry)) (used : ℕ) : Type 0 where
  pub inside : used ≤ length bs
  pub bytes : take used bs ≡ file_from n ws
  pub fine : AllByRecursion FineCommit ws
  pub few : n + length ws < 2 ^ 32

abbrev pub ReadIn : ℕ → List ℕ → Opened → Type 0
ReadIn n bs (good ws used) = Read n bs ws used
ReadIn n bs (bad at why) = Unit {0}
