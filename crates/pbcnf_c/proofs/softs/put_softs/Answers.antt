use Rattle.std.proofs.Common.{◌∙◌, ◌-ℤ◌, ◌^◌, FitsSigned, ap, map, pos, refl, rules, subst, sym}
use mir.Syntax.{w128}
use Rattle.std.proofs.lemmas.Int.{to_z-of_z}
use Rattle.pb_norm.specs.Constraints.{Constraint}
use Rattle.pb_norm.specs.Reduction.{opposite}
use Rattle.pb_suite.specs.declared.outcome.Outcome.TheVariants as outcome
use Rattle.pbcnf_c.specs.Bounds.{TellRows}
use Rattle.pbcnf_c.specs.Put.{IsWanting}
use Rattle.pbcnf_c.specs.Rooms.Ends.{made}
use Rattle.pbcnf_c.specs.Softs.{no_costs, soft_row, AreSoftsOf}
use Rattle.pbcnf_c.proofs.Endings.{stops_as}
use Rattle.pbcnf_c.proofs.softs.put_softs.Goals as goal

pub returns-in_default : goal.returns-in_default
returns-in_default c = stops_as (AreSoftsOf c.args.problem.now) IsWanting no_costs c.args.room.now _ _ outcome.NoMemory refl c.uncosted.ensures.outcome c.uncosted.ensures.costs

pub returns-in-Ok-softs_of : goal.returns-in-Ok-softs_of
returns-in-Ok-softs_of c =
    let form = c.in-Ok.ensures in
    let fits : FitsSigned w128 c.offset_by.result = search rules in
    let told = subst (TellRows (map soft_row (map opposite c.in-Ok.objective.terms))) (sym c.as_slice.ensures.value) c.in-Ok-softs_of.ensures in
    made c.as_slice.result.now c.with_costs.result.outcome (record {
      rows = subst (λ (f : Constraint). TellRows (map soft_row (map opposite f.terms)) c.as_slice.result.now) form told;
      offset = c.with_costs.ensures.offset ∙ to_z-of_z w128 c.offset_by.result fits ∙ c.offset_by.ensures ∙ ap (λ (f : Constraint). pos (2 ^ 100) -ℤ pos f.degree) form;
      count = c.with_costs.ensures.count;
    }) c.with_costs.ensures.room

pub returns : goal.returns
returns c = stops_as (AreSoftsOf c.args.problem.now) IsWanting no_costs c.args.room.now _ _ outcome.NoMemory refl c.uncosted-in-Err.ensures.outcome c.uncosted-in-Err.ensures.costs
