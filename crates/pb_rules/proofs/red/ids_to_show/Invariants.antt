use Rattle.std.proofs.Common.{ℕ, ◌<◌}
use Rattle.std.specs.Prelude.{slice_index_or}
use Rattle.pb_steps.specs.declared.op.Set.{Set}
use Rattle.pb_database.specs.Naming.{HasNaming}
use Rattle.pb_rules.proofs.red.ids_to_show.Given as goal

abbrev pub invariant-loop-set : goal.invariant-loop-set
invariant-loop-set l = (k : ℕ) (d : Set) → k < l.set-index → HasNaming l.db.live (slice_index_or l.sets k d).var l.ids.items
