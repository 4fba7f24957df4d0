use Rattle.std.proofs.Common.{◌∙◌, sym, arith, rules}
use Rattle.std.proofs.lemmas.List.{take_rest}
use Rattle.std.proofs.lemmas.Int.Digits.{digits_more}
use borrow.Author.Count.{below_more}
use Rattle.pb_opb.proofs.Heads.{are-digits, one-more}
use Rattle.pb_opb.proofs.head.few_digits.Goals as goal

pub returns-then-not-is_ascii_digit : goal.returns-then-not-is_ascii_digit
returns-then-not-is_ascii_digit c =
    are-digits c.args.bytes.now c.loop-i.i _ (omega arith) (omega arith) c.loop-i.invariant.digits c.loop-i.invariant.value c.loop-i.invariant.each (sym c.ends_word.ensures ∙ c.if-not-ends_word.false) (take_rest c.args.bytes.now c.loop-i.i)

pub loop-i-preserved : goal.loop-i-preserved
loop-i-preserved c = record {
  digits = search (rules, digits_more);
  value = one-more c.args.bytes.now c.loop-i.i c.loop-i.value c.from.result (omega arith) (sym c.is_ascii_digit.ensures.value ∙ c.if-not-is_ascii_digit.false) c.loop-i.invariant.value c.from.ensures;
  each = below_more _ c.loop-i.i c.loop-i.invariant.each (sym c.is_ascii_digit.ensures.value ∙ c.if-not-is_ascii_digit.false);
}
