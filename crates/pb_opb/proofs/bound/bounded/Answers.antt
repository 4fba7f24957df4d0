use Rattle.std.proofs.Common.{◌≡◌, ◌++◌, ◌∷◌, [], ◌<◌, ◌^◌, List, FitsSigned, ap, ◌∙◌, arith, rules, to_z, of_z}
use mir.Syntax.{w128}
use Rattle.std.specs.Int.RustNames.{unsigned_abs}
use Rattle.std.proofs.lemmas.Int.{to_z-of_z}
use Rattle.pb_base.specs.declared.literal.Term.{Term}
use Rattle.pb_base.specs.declared.problem.Problem.{Problem}
use Rattle.pb_base.specs.declared.problem.Raw.{Raw}
use Rattle.pb_base.specs.Problems.{magnitude, objective_terms}
use Rattle.pb_opb.specs.Bounded.{bound_weight, sum_at_most}
use Rattle.pb_opb.proofs.BoundedLemmas.{within_same}
use Rattle.pb_opb.proofs.bound.bounded.Goals as goal

pub returns-clause-within : goal.returns-clause-within
returns-clause-within c =
    let p : Problem = c.args.problem in
    let fits : FitsSigned w128 c.args.bound = search rules in
    let bound : to_z w128 (of_z w128 c.args.bound) ≡ c.args.bound = to_z-of_z w128 c.args.bound fits in
    let terms = c.terms_in-terms.ensures in
    let statement = ap (λ (ts : List Term). sum_at_most ts (to_z w128 (of_z w128 c.args.bound))) terms ∙ ap (sum_at_most (objective_terms p)) bound in
    let statements = c.in_ok-push.ensures.ok ∙ ap (λ (s : Raw). p.statements ++ s ∷ []) statement in
    let light : bound_weight p c.args.bound < 2 ^ 100 = omega (arith, ap magnitude c.terms_in-terms.ensures, ap unsigned_abs bound) in
    within_same p _ c.args.bound (ap (λ (ss : List Raw). record p { statements = ss }) statements) c.requires.within c.requires.room light
