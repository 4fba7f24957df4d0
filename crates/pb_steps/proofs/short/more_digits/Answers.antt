use Rattle.std.proofs.Common.{rules, arith, refl, sym, ◌∙◌, get_or}
use Rattle.std.proofs.lemmas.Int.Digits.{digits_more}
use Rattle.pb_steps.proofs.Shorts.{digit_more}
use Rattle.pb_steps.proofs.short.more_digits.Goals as goal

pub digits-preserved : goal.digits-preserved
digits-preserved c =
    let digit = sym c.is_ascii_digit.ensures.value ∙ c.if-is_ascii_digit.true in
    let value = digit_more c.args.bytes.now c.digits.count (get_or c.args.bytes.now c.digits.count 0) c.digits.value (omega arith) refl digit c.digits.invariant.value in
    record {
      within = omega arith;
      digits = search (rules, digits_more);
      value = omega arith;
    }
