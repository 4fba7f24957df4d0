use Rattle.std.proofs.Common.{◌∙◌, ap}
use Rattle.pb_norm.specs.Constraints.{Constraint}
use Rattle.pb_norm.specs.Reduction.{by_weight}
use Rattle.pb_encode.proofs.table.costs_of.Goals as goal

pub returns : goal.returns
returns c = c.by_weight.ensures ∙ ap (λ (form : Constraint). by_weight form.terms) c.in_ok-form.ensures
