use Rattle.std.proofs.Common.{◌≡◌, ℕ, ◌-◌, not, List, length, take, drop, Option, ap, ◌∙◌}
use Rattle.std.proofs.lemmas.List.{take_rest}
use Rattle.std.specs.List.{position}
use Rattle.std.specs.Option.{unwrap_or}
use Rattle.lines.specs.Words.{blank}
use Rattle.lines.proofs.Splits.{first_word, behind-first}
use Rattle.lines.proofs.words.split.Goals as goal

pub returns : goal.returns
returns c =
    let s : List ℕ = c.args.s.now in
    let n : ℕ = c.unwrap_or-start.result in
    let rest : List ℕ = take (length s - n) (drop n s) in
    let start : n ≡ unwrap_or (position (λ b. not (blank b)) s) (length s) = c.unwrap_or-start.ensures ∙ ap (λ (o : Option ℕ). unwrap_or o (length s)) c.word_start.ensures in
    let end : c.unwrap_or-end.result ≡ unwrap_or (position blank rest) (length rest) = c.unwrap_or-end.ensures ∙ ap (λ (o : Option ℕ). unwrap_or o (length rest)) c.word_end.ensures in
    record {
      first = c.split_at.ensures.front ∙ first_word s rest n _ start (take_rest s n) end;
      rest = c.split_at.ensures.back ∙ behind-first s rest n _ start (take_rest s n) end;
    }
