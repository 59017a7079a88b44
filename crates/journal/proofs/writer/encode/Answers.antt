use Rattle.std.proofs.Common.{◌≡◌, length, sym, refl, arith}
use Rattle.std.specs.List.{flat_map}
use Rattle.journal.specs.Records.{written, be4, entry_bytes, head_bytes, record_of, FineCommit}
use Rattle.journal.proofs.Places.{then-written}
use Rattle.journal.proofs.Encoding.{encoded, many_not, room-not, stray_not}
use Rattle.journal.proofs.Back.{written_back}
use Rattle.journal.proofs.writer.encode.Goals as goal

pub returns-then-count-gt-MOST_WRITES-clause-bytes : goal.returns-then-count-gt-MOST_WRITES-clause-bytes
returns-then-count-gt-MOST_WRITES-clause-bytes c = let h = many_not _ (length c.args.out.now) c.if-count-gt-MOST_WRITES.true in (h.0, h.1, refl)

pub returns-then-out-size-clause-bytes : goal.returns-then-out-size-clause-bytes
returns-then-out-size-clause-bytes c = let h = room-not c.args.writes.now (length c.args.out.now) c.if-count-gt-MOST_WRITES.false c.if-out-size.true in (h.0, h.1, refl)

pub returns-then-outside-clause-bytes : goal.returns-then-outside-clause-bytes
returns-then-outside-clause-bytes c = let h = stray_not _ _ c.if-count-gt-MOST_WRITES.false c.if-out-size.false (sym c.if-outside.ensures) in (h.0, h.1, refl)

pub returns : goal.returns
unfolding record_of head_bytes be4
returns c =
    let n = c.args.number in
    let es = c.args.writes.now in
    let out = c.args.out.now in
    let stands : c.put_entries.new.out ≡ written 0 (record_of n es) out =
    then-written 0 6 (head_bytes n (length es)) (flat_map entry_bytes es) out c.put_head.new.out _ (omega (arith, c.if-out-size.false)) refl
    c.put_head.ensures c.put_entries.ensures.bytes
    in
    let fine : FineCommit es = (c.if-count-gt-MOST_WRITES.false, c.put_entries.ensures.fine) in
    record {
      bytes = encoded n es out _ c.if-count-gt-MOST_WRITES.false c.if-out-size.false (sym c.if-outside.ensures) stands;
      back = (written_back n es out _ (omega arith) fine stands, fine);
    }
