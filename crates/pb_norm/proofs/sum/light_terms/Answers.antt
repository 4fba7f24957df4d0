use Rattle.std.proofs.Common.{◌∙◌, ap, filter, rules}
use Rattle.std.proofs.lemmas.Fn.{filter_same}
use Rattle.pb_norm.specs.inner.Kept.{on_weight}
use Rattle.pb_norm.specs.Reduction.{is_within}
use Rattle.pb_norm.proofs.sum.light_terms.Goals as goal

pub returns : goal.returns
returns c = filter_same _ (on_weight (is_within c.args.slack)) _ (λ x b f' k. search rules) _ _ c.retain.ensures.filtered ∙ ap (filter (on_weight (is_within c.args.slack))) c.in_ok-light.ensures.items
