-- Whether one commit passes another, from its parts.
use Rattle.std.proofs.Common.{◌≡◌, Bool, true, false, ◌&&◌, eqb, refl}
use Rattle.std.proofs.lemmas.Bool.{eq-eqb}
use Rattle.model.specs.Transactions.{reads_some, is_serial}
use Rattle.model.specs.Commits.{Commit, unseen, passes}
use Rattle.conflicts.proofs.Bools.{six-second, six-first, six-not-serial, six-other-not-serial, six-seen, six-other-seen, six-same}

abbrev pub serial : Commit → Bool
serial a = is_serial a.txn.level

module _ (a d : Commit) where
  abbrev one : Bool
  one = eqb a.number d.number

  abbrev meets : Bool
  meets = reads_some a.txn.reads d.txn.writes

  pub of_earlier : serial a ≡ true → serial d ≡ true → unseen a.txn.begin d ≡ true → one ≡ false → passes a d ≡ (unseen d.txn.begin a && meets)
  of_earlier = six-second (serial a) (serial d) (unseen a.txn.begin d) (unseen d.txn.begin a) one meets

  pub of_later : serial a ≡ true → serial d ≡ true → unseen d.txn.begin a ≡ true → one ≡ false → passes a d ≡ (unseen a.txn.begin d && meets)
  of_later = six-first (serial a) (serial d) (unseen a.txn.begin d) (unseen d.txn.begin a) one meets

  pub not-serial : serial a ≡ false → passes a d ≡ false
  not-serial = six-not-serial (serial a) (serial d) (unseen a.txn.begin d) (unseen d.txn.begin a) one meets

  pub other-not-serial : serial d ≡ false → passes a d ≡ false
  other-not-serial = six-other-not-serial (serial a) (serial d) (unseen a.txn.begin d) (unseen d.txn.begin a) one meets

  pub saw : unseen a.txn.begin d ≡ false → passes a d ≡ false
  saw = six-seen (serial a) (serial d) (unseen a.txn.begin d) (unseen d.txn.begin a) one meets

  pub was-seen : unseen d.txn.begin a ≡ false → passes a d ≡ false
  was-seen = six-other-seen (serial a) (serial d) (unseen a.txn.begin d) (unseen d.txn.begin a) one meets

-- nobody passes itself
pub myself : (d : Commit) → passes d d ≡ false
myself d = six-same (serial d) (serial d) (unseen d.txn.begin d) (unseen d.txn.begin d) (eqb d.number d.number) (reads_some d.txn.reads d.txn.writes) (eq-eqb d.number d.number refl)
