use Rattle.std.proofs.Common.{sym, ◌∙◌, rules}
use borrow.Author.Tests.{tests}
use Rattle.std.proofs.lemmas.Iterator.{YieldsList-from_slice}
use Rattle.std.proofs.lemmas.Iterator.Search.{any_from_yields_List}
use Rattle.model.specs.Transactions.{looks_at}
use Rattle.transactions.specs.Noted.{read_of}
use Rattle.transactions.proofs.Anys.{any_map}
use Rattle.transactions.proofs.looks.looks_some.Goals as goal

pub returns : goal.returns
returns c =
    any_from_yields_List (λ r. looks_at c.args.key (read_of c.args.own.now r)) _ _ c.any.result c.any.ensures.ran (YieldsList-from_slice c.args.reads.now cc) (λ x b q k. search (rules, tests))
    ∙ sym (any_map (looks_at c.args.key) (read_of c.args.own.now) c.args.reads.now)
