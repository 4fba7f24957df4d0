use Rattle.std.proofs.Common.{◌∙◌, ap}
use Rattle.std.specs.List.{list_any}
use Rattle.pb_operations.specs.inner.Sides.{is_set}
use Rattle.pb_operations.proofs.Parts.{any-weights}
use Rattle.pb_operations.proofs.substitution.names_set.Goals as goal

pub returns : goal.returns
returns c = c.name_set.ensures ∙ any-weights (is_set c.args.sets.now) c.terms.result.now ∙ ap (list_any (is_set c.args.sets.now)) c.terms.ensures.weights
