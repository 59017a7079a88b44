use Rattle.std.proofs.Common.{◌≡◌, codes, refl, rules}
use Rattle.std.proofs.lemmas.Slice.Eq.{text_from_reads}
use Rattle.lines.proofs.requests.level.Goals as goal

pub returns-in-latest : goal.returns-in-latest
returns-in-latest c = let e : c.args.word.now ≡ codes "latest" = text_from_reads _ _ (search rules) (search rules) in rw e refl

pub returns-in-serial : goal.returns-in-serial
returns-in-serial c = let e : c.args.word.now ≡ codes "serial" = text_from_reads _ _ (search rules) (search rules) in rw e refl

pub returns-in-snapshot : goal.returns-in-snapshot
returns-in-snapshot c = let e : c.args.word.now ≡ codes "snapshot" = text_from_reads _ _ (search rules) (search rules) in rw e refl
