use Rattle.std.proofs.Common.{◌≡◌, ◌<◌, [], ◌∷◌, length, set, refl, ap, ◌∙◌, arith}
use Rattle.std.proofs.lemmas.List.{length-set}
use Rattle.journal.specs.Records.{written, be4, head_bytes}
use Rattle.journal.proofs.Places.{set-written, then-written}
use Rattle.journal.proofs.writer.put_head.Goals as goal

pub returns : goal.returns
unfolding be4 head_bytes
returns c =
    let xs = c.args.out.now in
    let first : set xs 0 1 ≡ written 0 (1 ∷ []) xs = set-written 0 1 xs (omega (arith, c.requires)) in
    let number : c.put.new.out ≡ written 0 (1 ∷ be4 c.args.number) xs =
    then-written 0 1 (1 ∷ []) (be4 c.args.number) xs (set xs 0 1) c.put.new.out (omega (arith, c.requires)) refl first
    (c.put.ensures ∙ ap (λ l. written 1 l (set xs 0 1)) c.to_be_bytes.ensures)
    in
    let long : 5 < length c.put.new.out = omega (arith, c.requires, length-set xs 0 1) in
    then-written 0 5 (1 ∷ be4 c.args.number) (c.args.count ∷ []) xs c.put.new.out _ (omega (arith, c.requires)) refl number
    (set-written 5 c.args.count c.put.new.out long)
