use Rattle.std.proofs.Common.{sym, ap, ◌∙◌, refl, false-eqb, arith, rules, ◌-◌, ◌^◌}
use Rattle.std.proofs.lemmas.Int.{ints}
use Rattle.std.proofs.lemmas.Int.Digits.{digits_more}
use Rattle.pb_base.specs.declared.number.Number.TheVariants.{Value}
use Rattle.pb_base.proofs.Digits.{all_ascii_digits-not, limited_digits-not, capped_more, narrow, wide}
use Rattle.pb_base.proofs.number.read_long.Goals as goal

pub returns-then-not-is_ascii_digit : goal.returns-then-not-is_ascii_digit
returns-then-not-is_ascii_digit c = limited_digits-not c.args.word.now (all_ascii_digits-not c.args.word.now c.loop-digit.digit-index (omega arith) (sym c.is_ascii_digit.ensures.value ∙ c.if-not-is_ascii_digit.true))

pub loop-digit-preserved : goal.loop-digit-preserved
loop-digit-preserved c = record {
  digits = search (rules, digits_more);
  value = omega (arith, capped_more c.args.word.now c.loop-digit.digit-index _ c.loop-digit.value (2 ^ 128 - 1) (omega arith) refl (sym c.is_ascii_digit.ensures.value ∙ c.if-not-is_ascii_digit.false) c.loop-digit.invariant.value);
}

pub returns-then-value-lt-WIDE : goal.returns-then-value-lt-WIDE
returns-then-value-lt-WIDE c =
    ap Value (omega (arith, ints)) ∙ narrow c.args.word.now c.loop-digit.digit-index c.loop-digit.value (2 ^ 128 - 1) (omega arith) (omega (arith, false-eqb _ 0 c.if-is_empty.ensures)) c.loop-digit.invariant.digits c.loop-digit.invariant.value (omega arith) (omega arith)

pub returns-else-value-lt-WIDE : goal.returns-else-value-lt-WIDE
returns-else-value-lt-WIDE c = wide c.args.word.now c.loop-digit.digit-index c.loop-digit.value (2 ^ 128 - 1) (omega arith) (omega (arith, false-eqb _ 0 c.if-is_empty.ensures)) c.loop-digit.invariant.digits c.loop-digit.invariant.value (omega arith)
