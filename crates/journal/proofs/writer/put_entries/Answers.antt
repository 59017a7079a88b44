use Rattle.std.proofs.Common.{sym, refl, ap, ◌∙◌, subst}
use Rattle.std.specs.List.{flat_map, AllByRecursion}
use Rattle.std.proofs.ByRecursion.{All-more}
use Rattle.std.proofs.lemmas.List.{take_all}
use Rattle.journal.specs.Records.{written, entry_bytes, FineEntry}
use Rattle.journal.proofs.Places.{none_written, more-written}
use Rattle.journal.proofs.writer.put_entries.Goals as goal

pub loop-i-init : goal.loop-i-init
loop-i-init c = (sym (none_written c.args.at c.args.out.now), tt)

pub loop-i-preserved : goal.loop-i-preserved
loop-i-preserved c = (
  more-written c.args.at _ c.loop-i.i c.args.entries.now _ c.args.out.now c.loop-i.out _
      c.loop-i-test.true c.requires.room refl c.loop-i.invariant.0 c.put_entry.ensures.bytes,
  All-more FineEntry c.args.entries.now c.loop-i.i _ c.loop-i-test.true c.loop-i.invariant.1 c.put_entry.ensures.fine,
)

pub returns : goal.returns
returns c =
    let every = take_all _ c.args.entries.now c.loop-i-test.false in
    record {
      bytes = c.loop-i.invariant.0 ∙ ap (λ l. written c.args.at (flat_map entry_bytes l) c.args.out.now) every;
      fine = subst (AllByRecursion FineEntry) every c.loop-i.invariant.1;
    }
