use Rattle.std.proofs.Common.{◌+◌, refl, ap, ◌∙◌, arith}
use Rattle.journal.specs.Records.{written, be2, be4, entry_bytes}
use Rattle.journal.proofs.Places.{then-written}
use Rattle.journal.proofs.writer.put_entry.Goals as goal

pub returns : goal.returns
unfolding be2 be4 entry_bytes
returns c =
    record {
      bytes =
          then-written c.args.at _ (be2 c.args.e.key) (be4 c.args.e.value) c.args.out.now c.put.new.out _ (omega (arith, c.requires.room)) refl
          (c.put.ensures ∙ ap (λ l. written c.args.at l c.args.out.now) c.to_be_bytes.ensures)
          (c.put-2.ensures ∙ ap (λ l. written (c.args.at + 2) l c.put.new.out) c.to_be_bytes-2.ensures);
      fine = (c.requires.key, omega arith);
    }
