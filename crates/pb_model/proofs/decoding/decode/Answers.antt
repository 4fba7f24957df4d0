use Rattle.std.proofs.Common.{◌+◌, ◌∙◌, All, Bool, List, ap, subst}
use Rattle.pb_base.specs.Literals.{assigned_by}
use Rattle.pb_base.specs.Problems.{Satisfies, widened}
use Rattle.pb_model.specs.Decoding.{IsFirstViolated}
use Rattle.pb_model.proofs.decoding.decode.Goals as goal

pub returns-in-None : goal.returns-in-None
returns-in-None c =
    let p = c.args.problem.now in
    let values = c.new-values.ensures ∙ ap (widened p) c.as_slice.ensures in (
      c.in-Satisfiable.is,
      record {
        covers = c.requires.covers;
        statements = subst (λ (xs : List Bool). All (Satisfies (assigned_by xs)) p.statements) values c.in-None.ensures;
      },
    )

pub returns-in-Some : goal.returns-in-Some
returns-in-Some c =
    let p = c.args.problem.now in
    let place = c.in-Some.place in
    let values = c.new-values.ensures ∙ ap (widened p) c.as_slice.ensures in (
      c.in-Satisfiable.is,
      subst (λ (xs : List Bool). IsFirstViolated (assigned_by xs) p.statements (place + 1)) values c.in-Some.ensures,
    )
