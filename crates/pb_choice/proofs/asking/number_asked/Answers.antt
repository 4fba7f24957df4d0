use Rattle.std.proofs.Common.{◌/◌, ap, ◌∙◌, arith}
use Rattle.pb_norm.specs.Reduction.{first_coef}
use Rattle.pb_norm.proofs.Opened.{first_coef-positive}
use Rattle.pb_choice.proofs.asking.number_asked.Goals as goal

pub nonzero_div-result : goal.nonzero_div-result
nonzero_div-result c =
    let coef = c.first_coef.ensures ∙ ap first_coef c.terms.ensures.weights in
    omega (arith, coef, first_coef-positive c.args.lower.now.terms c.terms.ensures.linear.positive)

pub returns : goal.returns
returns c =
    let coef = c.first_coef.ensures ∙ ap first_coef c.terms.ensures.weights in
    λ i. c.degree.ensures.value i / coef i
