use Rattle.std.proofs.Common.{◌≡◌, ℕ, ◌-◌, ◌+◌, ◌<◌, ◌≤◌, ◌^◌, ◌∷◌, ◌++◌, length, take, drop, codes, decimal, refl, sym, subst, ◌∙◌, arith, rules, take_all, length-drop, append-nil}
use Rattle.std.specs.Str.{IsAscii}
use Rattle.std.proofs.lemmas.Fmt.{length-decimal-le, IsAscii-decimal}
use Rattle.std.proofs.lemmas.List.{drop-set, drop_all}
use Rattle.std.proofs.lemmas.Str.{IsUtf8-from_ascii, IsAscii-append}
use Rattle.lines.proofs.answers.spell_pair.Goals as goal
use Rattle.lines.proofs.answers.spell_pair.Goals.{After-write_digits-at-2}

short : (n : ℕ) → n < 2 ^ 32 → length (decimal n) ≤ 10
short n h = length-decimal-le 10 n (omega arith) (omega arith) (omega arith)

text : (c : After-write_digits-at-2) → drop c.write_digits-at-2.result c.write_digits-at-2.new.buf ≡ decimal c.args.e.key ++ (61 ∷ decimal c.args.e.value)
text c =
    let w = c.write_digits-at in
    let v = c.write_digits-at-2 in
    let e : w.result - 1 + 1 ≡ w.result = omega (arith, w.ensures.start, short c.args.e.value (search rules)) in
    rw (v.ensures.written, drop-set w.new.buf (w.result - 1) 61 (omega arith), e, w.ensures.written, drop_all 21 c.args.text.now (omega arith), append-nil) refl

pub write_digits-at-requires : goal.write_digits-at-requires
write_digits-at-requires c = (omega (arith, short c.args.e.value (search rules)), search rules)

pub overflow_sub-at : goal.overflow_sub-at
overflow_sub-at c = omega (arith, c.write_digits-at.ensures.start, short c.args.e.value (search rules))

pub write_digits-at-requires-2 : goal.write_digits-at-requires-2
write_digits-at-requires-2 c = (omega (arith, c.write_digits-at.ensures.start, short c.args.e.value (search rules), short c.args.e.key (search rules)), search rules)

ascii : (k v : ℕ) → k < 2 ^ 32 → v < 2 ^ 32 → IsAscii (decimal k ++ (61 ∷ decimal v))
ascii k v h l = IsAscii-append (decimal k) (61 ∷ decimal v) (IsAscii-decimal k (omega arith)) (IsAscii-append (codes "=") (decimal v) (search rules) (IsAscii-decimal v (omega arith)))

whole : (c : After-write_digits-at-2) → take (21 - c.write_digits-at-2.result) (drop c.write_digits-at-2.result c.write_digits-at-2.new.buf) ≡ decimal c.args.e.key ++ (61 ∷ decimal c.args.e.value)
whole c =
    let v = c.write_digits-at-2 in
    take_all (21 - v.result) (drop v.result v.new.buf) (search (rules, length-drop v.result v.new.buf)) ∙ text c

pub from_utf8_unchecked-requires : goal.from_utf8_unchecked-requires
from_utf8_unchecked-requires c =
    IsUtf8-from_ascii _ (subst IsAscii (sym (whole (goal.at.from_utf8_unchecked-requires c).After-write_digits-at-2)) (ascii c.args.e.key c.args.e.value (search rules) (search rules)))

pub returns : goal.returns
returns c = c.from_utf8_unchecked.ensures ∙ whole (goal.at.returns c).After-write_digits-at-2
