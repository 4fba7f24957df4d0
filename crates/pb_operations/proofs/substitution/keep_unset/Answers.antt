use Rattle.std.proofs.Common.{rules}
use Rattle.std.proofs.lemmas.Fn.{filter_same}
use Rattle.pb_norm.specs.inner.Kept.{on_weight}
use Rattle.pb_steps.specs.Substitutions.{is_unset}
use Rattle.pb_operations.proofs.substitution.keep_unset.Goals as goal

pub returns : goal.returns
returns c = filter_same _ (on_weight (is_unset c.args.sets.now)) _ (λ x b f' k. search rules) _ _ c.retain.ensures.filtered
