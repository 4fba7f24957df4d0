use Rattle.std.proofs.Common.{◌∙◌, ◌-◌, length, take, drop, refl, sym, ap, arith}
use Rattle.pb_opb.proofs.Gaps.{first_line-le, skips-comment-at, skips-white-at}
use Rattle.pb_opb.proofs.gap.past_one.Goals as goal

pub returns-then-is_white-clause-skips : goal.returns-then-is_white-clause-skips
returns-then-is_white-clause-skips c = skips-white-at c.args.text.now c.in-len1-up.len_at_least (sym c.is_white.ensures ∙ c.if-is_white.true)

pub split_at-requires : goal.split_at-requires
split_at-requires c = omega (arith, first_line-le (take (length c.args.text.now - 1) (drop 1 c.args.text.now)), ap length c.first_line.ensures)

pub returns-then-b-eq42-clause-skips : goal.returns-then-b-eq42-clause-skips
returns-then-b-eq42-clause-skips c = skips-comment-at c.args.text.now _ c.first_line.result.now _ c.in-len1-up.len_at_least (omega arith) refl c.first_line.ensures c.split_at.ensures.back
