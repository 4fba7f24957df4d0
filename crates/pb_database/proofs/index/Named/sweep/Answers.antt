use Rattle.std.proofs.Common.{◌∙◌, ap, rules, ℕ}
use Rattle.std.specs.Prelude.{filter, is_some}
use Rattle.std.proofs.lemmas.Fn.{filter_same}
use Rattle.pb_database.specs.inner.Slots.{slot_of}
use Rattle.pb_database.proofs.index.Named.sweep.Goals as goal

pub returns : goal.returns
returns c =
    c.fit.ensures
    ∙ filter_same _ (λ (id : ℕ). is_some (slot_of c.args.slots.now id).constraint) _ (λ x b f' k. search rules) _ _ c.retain.ensures.filtered
    ∙ ap (filter (λ (id : ℕ). is_some (slot_of c.args.slots.now id).constraint)) c.self.view_is
