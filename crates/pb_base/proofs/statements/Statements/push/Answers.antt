use Rattle.std.proofs.Common.{◌∙◌, ◌++◌, ◌∷◌, [], ℤ, List, ap, length, refl, rules}
use Rattle.std.specs.Int.{w128}
use Rattle.std.proofs.lemmas.Int.{to_z-of_z}
use Rattle.pb_base.specs.declared.problem.Raw.{Raw}
use Rattle.pb_base.specs.Statements.{statements_in}
use Rattle.pb_base.proofs.StatementLists.{statements-push}
use Rattle.pb_base.proofs.statements.Statements.push.Goals as goal

pub returns-clause-ok : goal.returns-clause-ok
returns-clause-ok c =
    let ts = c.args.terms.now in
    let right = to_z-of_z w128 c.args.right (search rules) in
    (λ i. statements_in (c.in-Ok.ensures.head i) (c.in-Ok.ensures.terms i))
    ∙ ap (λ (r : ℤ). statements_in (c.self-2.inside.heads ++ record { terms = length ts; relation = c.args.relation; right = r } ∷ []) (c.self-2.inside.terms ++ ts)) right
    ∙ statements-push c.self-2.inside.heads _ c.self-2.inside.terms ts c.self-2.invariant refl
    ∙ ap (λ (ss : List Raw). ss ++ record { terms = ts; relation = c.args.relation; right = c.args.right } ∷ []) (c.self-2.view_is ∙ c.self.view_is)
