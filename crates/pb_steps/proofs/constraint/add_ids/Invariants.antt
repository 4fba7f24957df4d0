use Rattle.std.proofs.Common.{◌≡◌}
use Rattle.pb_steps.specs.LineSteps.{ids_in}
use Rattle.pb_steps.specs.inner.Reading.{with_items}
use Rattle.pb_steps.proofs.constraint.add_ids.Given as goal

abbrev pub invariant-loop-word : goal.invariant-loop-word
invariant-loop-word l = with_items l.initial.ids (ids_in l.fn.words) ≡ with_items l.ids (ids_in l.word-iterator)
