use Rattle.std.proofs.Common.{rules}
use Rattle.std.proofs.lemmas.Fn.{filter_same}
use Rattle.pb_norm.specs.Halves.{is_positive}
use Rattle.pb_norm.specs.inner.Kept.{on_weight}
use Rattle.pb_norm.proofs.nets.keep_positive.Goals as goal

pub returns : goal.returns
returns c = filter_same _ (on_weight is_positive) _ (λ x b f' k. search rules) _ _ c.retain.ensures.filtered
