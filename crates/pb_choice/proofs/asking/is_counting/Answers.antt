use Rattle.std.proofs.Common.{◌≡◌, ◌*◌, ap, ◌∙◌, arith}
use Rattle.std.proofs.Math.Nat.{div-add-mod}
use Rattle.pb_norm.specs.Reduction.{first_coef}
use Rattle.pb_choice.specs.Equals.{number_asked}
use Rattle.pb_choice.proofs.asking.is_counting.Goals as goal

pub overflow_mul-whole : goal.overflow_mul-whole
overflow_mul-whole c =
    let d = c.args.lower.now in
    let coef = c.first_coef-coef.ensures ∙ ap first_coef c.terms.ensures.weights in
    let same : c.first_coef-coef.result * c.number_asked.result ≡ first_coef d.terms * number_asked d = λ i. coef i * c.number_asked.ensures i in
    omega (arith, same, div-add-mod d.degree (first_coef d.terms), c.terms.ensures.linear.degree_fits)
