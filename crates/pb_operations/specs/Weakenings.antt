-- Weakenings one after the other (our own).
use Rattle.std.specs.Prelude.{List, [], ◌∷◌}
use Rattle.pb_norm.specs.Constraints.{Constraint}
use Rattle.pb_steps.specs.declared.op.PolOp.{PolOp}
use Rattle.pb_steps.specs.declared.op.PolOp.TheVariants.{Weaken}
use Rattle.pb_steps.specs.Operations.{weakening}

-- what an operation leaves that weakens
abbrev pub weakened_by : PolOp → Constraint → Constraint
weakened_by (Weaken v) c = weakening v c
weakened_by _ c = c

-- what is left after each
abbrev pub weakened : List PolOp → Constraint → Constraint
weakened [] c = c
weakened (op ∷ ops) c = weakened ops (weakened_by op c)
