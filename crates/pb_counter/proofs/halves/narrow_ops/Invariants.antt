use Rattle.std.proofs.Common.{◌≡◌, ◌∷◌, take}
use Rattle.std.specs.Prelude.{map}
use Rattle.pb_base.specs.declared.literal.Term.{Term}
use Rattle.pb_steps.specs.declared.op.PolOp.TheVariants.{Push, Weaken}
use Rattle.pb_counter.proofs.halves.narrow_ops.Given as goal

abbrev pub invariant-loop-term : goal.invariant-loop-term
invariant-loop-term l = l.ops.items ≡ Push l.fn.whole ∷ map (λ (t : Term). Weaken t.lit.var) (take l.term-index l.terms)
