use Rattle.std.proofs.Common.{◌≡◌, ◌∷◌, [], ◌++◌, get_or, take}
use Rattle.std.specs.Prelude.{flat_map}
use Rattle.pb_steps.specs.declared.op.PolOp.TheVariants.{Push}
use Rattle.pb_derive.specs.Justifications.{push_and_add}
use Rattle.pb_family.proofs.claim.sum_of.Given as goal

abbrev pub invariant-loop-id : goal.invariant-loop-id
invariant-loop-id l = l.ops.items ≡ (Push (get_or l.ids 0 0) ∷ []) ++ flat_map push_and_add (take l.id-index l.id-items)
