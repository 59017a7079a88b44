use Rattle.std.proofs.Common.{◌≡◌, codes, rules}
use Rattle.std.proofs.lemmas.Slice.Eq.{text_from_reads}
use Rattle.lines.proofs.words.Words.request.Goals as goal

pub returns-in-commit : goal.returns-in-commit
returns-in-commit c = let e : c.args.self.name.now ≡ codes "commit" = text_from_reads _ _ (search rules) (search rules) in rw e (search rules)
