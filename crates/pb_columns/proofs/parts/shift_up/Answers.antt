use Rattle.std.proofs.Common.{◌≡◌, ◌∙◌, ◌-ℤ◌, ℤ, FitsSigned, ap, arith, of_z, rules, to_z}
use mir.Syntax.{w128}
use Rattle.std.proofs.lemmas.Int.{fits_signed_from_abs, ints, to_z-of_z}
use Rattle.pb_columns.specs.Conditions.{least, positive_part}
use Rattle.pb_columns.proofs.Reaches.{abs_above, abs_below, above_least, least_bounds}
use Rattle.pb_columns.proofs.parts.shift_up.Goals as goal

pub overflow_sub-statement : goal.overflow_sub-statement
overflow_sub-statement c =
    let s = c.args.statement.now in
    let fits : FitsSigned w128 c.least.result = search rules in
    let kept = to_z-of_z w128 c.least.result fits in
    let right_fits : FitsSigned w128 s.right = search rules in
    let right = to_z-of_z w128 s.right right_fits in
    let bounds = least_bounds s.terms in
    omega (arith, ints, kept, right, abs_above s.right, abs_below s.right, bounds.0, bounds.1, c.least.ensures, ap least c.as_slice.ensures, c.requires)

pub returns : goal.returns
returns c =
    let s = c.args.statement.now in
    let fits : FitsSigned w128 c.least.result = search rules in
    let value : to_z w128 (of_z w128 c.least.result) ≡ least s.terms = to_z-of_z w128 c.least.result fits ∙ c.least.ensures ∙ ap least c.as_slice.ensures in
    let right_fits : FitsSigned w128 s.right = search rules in
    let right = to_z-of_z w128 s.right right_fits in
    let gap : to_z w128 (of_z w128 s.right) -ℤ to_z w128 (of_z w128 c.least.result) ≡ s.right -ℤ least s.terms = ap (λ (z : ℤ). z -ℤ to_z w128 (of_z w128 c.least.result)) right ∙ ap (λ (z : ℤ). s.right -ℤ z) value in
    let far = above_least s.terms s.right in
    let gap_fits = fits_signed_from_abs w128 (s.right -ℤ least s.terms) (omega (arith, far, c.requires)) in
    let part_fits : FitsSigned w128 c.positive_part.result = search rules in
    to_z-of_z w128 c.positive_part.result part_fits ∙ c.positive_part.ensures ∙ ap (λ (z : ℤ). positive_part (to_z w128 (of_z w128 z))) gap ∙ ap positive_part (to_z-of_z w128 (s.right -ℤ least s.terms) gap_fits)
