use Rattle.std.proofs.Common.{ℕ, rules}
use Rattle.std.specs.Prelude.{is_some}
use Rattle.std.proofs.lemmas.Fn.{filter_same}
use Rattle.pb_unit.specs.States.{at_place}
use Rattle.pb_unit.proofs.store.prune.Goals as goal

pub returns : goal.returns
returns c = filter_same _ (λ (p : ℕ). is_some (at_place c.args.places.now p)) _ (λ x b f' k. search rules) _ _ c.retain.ensures.filtered
