use Rattle.std.proofs.Common.{pos, ◌<◌, ◌^◌, ap, ◌∙◌, arith}
use Rattle.std.specs.Int.{w128}
use Rattle.std.proofs.lemmas.Int.{to_z_pos}
use Rattle.pb_norm.specs.Reduction.{first_coef}
use Rattle.pb_choice.proofs.NumbersAsked.{first_small}
use Rattle.pb_choice.proofs.equal_planning.coef_of.Goals as goal

pub overflow_cast-result : goal.overflow_cast-result
overflow_cast-result c = omega (arith, c.first_coef.ensures, ap first_coef c.terms.ensures.weights, first_small c.args.lower.now.terms, c.requires.light)

pub returns : goal.returns
returns c =
    let same = c.first_coef.ensures ∙ ap first_coef c.terms.ensures.weights in
    let small : c.first_coef.result < 2 ^ 127 = omega (arith, same, first_small c.args.lower.now.terms, c.requires.light) in
    to_z_pos w128 c.first_coef.result small ∙ ap pos same
