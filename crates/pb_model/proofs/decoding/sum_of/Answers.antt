use Rattle.std.proofs.Common.{◌+◌, rules, arith}
use Rattle.std.proofs.lemmas.Int.{ints}
use Rattle.pb_base.specs.Literals.{assigned_by}
use Rattle.pb_model.proofs.Sums.{sum_more, sum_take_bounds}
use Rattle.pb_model.proofs.decoding.sum_of.Goals as goal

pub overflow_add-sum : goal.overflow_add-sum
overflow_add-sum c =
    let a = assigned_by c.args.values.now in
    let more = sum_more a c.args.terms.now c.loop-term.term-index c.term-item.result (search rules) (search rules) in
    let bounds = sum_take_bounds a c.args.terms.now (c.loop-term.term-index + 1) in
    omega (arith, ints, more, bounds.0, bounds.1, c.term_value-sum.ensures, c.requires.numbers)

pub loop-term-preserved : goal.loop-term-preserved
loop-term-preserved c =
    let a = assigned_by c.args.values.now in
    let more = sum_more a c.args.terms.now c.loop-term.term-index c.term-item.result (search rules) (search rules) in
    let bounds = sum_take_bounds a c.args.terms.now (c.loop-term.term-index + 1) in
    omega (arith, ints, more, bounds.0, bounds.1, c.term_value-sum.ensures, c.loop-term.invariant, c.requires.numbers)
