use Rattle.std.proofs.Common.{◌+◌, FitsSigned, ap, arith, rules}
use mir.Syntax.{w128}
use Rattle.std.proofs.lemmas.Int.{ints, to_z-of_z}
use Rattle.pb_columns.specs.Conditions.{positive_part}
use Rattle.pb_columns.proofs.Reaches.{greatest_more, greatest_take_bounds}
use Rattle.pb_columns.proofs.parts.greatest.Goals as goal

pub overflow_add-sum : goal.overflow_add-sum
overflow_add-sum c =
    let fits : FitsSigned w128 c.positive_part-sum.result = search rules in
    let kept = to_z-of_z w128 c.positive_part-sum.result fits in
    let coef_fits : FitsSigned w128 c.term-item.result.coef = search rules in
    let coef = ap positive_part (to_z-of_z w128 c.term-item.result.coef coef_fits) in
    let more = greatest_more c.args.terms.now c.loop-term.term-index c.term-item.result (search rules) (search rules) in
    let bounds = greatest_take_bounds c.args.terms.now (c.loop-term.term-index + 1) in
    omega (arith, ints, kept, coef, more, bounds.0, bounds.1, c.positive_part-sum.ensures, c.loop-term.invariant, c.requires)

pub loop-term-preserved : goal.loop-term-preserved
loop-term-preserved c =
    let fits : FitsSigned w128 c.positive_part-sum.result = search rules in
    let kept = to_z-of_z w128 c.positive_part-sum.result fits in
    let coef_fits : FitsSigned w128 c.term-item.result.coef = search rules in
    let coef = ap positive_part (to_z-of_z w128 c.term-item.result.coef coef_fits) in
    let more = greatest_more c.args.terms.now c.loop-term.term-index c.term-item.result (search rules) (search rules) in
    let bounds = greatest_take_bounds c.args.terms.now (c.loop-term.term-index + 1) in
    omega (arith, ints, kept, coef, more, bounds.0, bounds.1, c.positive_part-sum.ensures, c.loop-term.invariant, c.requires)
