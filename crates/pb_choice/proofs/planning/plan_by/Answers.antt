use Rattle.std.proofs.Common.{◌<◌, ◌^◌, ap, sym, subst, arith}
use Rattle.pb_norm.specs.declared.reduction.Reduced.{Reduced}
use Rattle.pb_norm.specs.declared.reduction.Rest.{Rest}
use Rattle.pb_norm.specs.Constraints.{weight}
use Rattle.pb_norm.specs.Reduction.{rest_of}
use Rattle.pb_choice.specs.Residual.{rest_terms}
use Rattle.pb_choice.proofs.RestTerms.{rest_light}
use Rattle.pb_choice.proofs.planning.plan_by.Goals as goal

pub left_of-requires-clause-light : goal.left_of-requires-clause-light
left_of-requires-clause-light c =
    let same = ap (λ (r : Reduced). r.rest) c.in_ok-units.ensures.split in
    let light : weight (rest_terms (rest_of c.args.constraint.now)) < 2 ^ 100 = omega (arith, c.requires.light, rest_light c.args.constraint.now c.reduce.ensures.linear) in
    subst (λ (r : Rest). weight (rest_terms r) < 2 ^ 100) (sym same) light
