-- A family that was built for a constraint and is kept for whoever plans it again. Our own.
use Rattle.pb_norm.specs.Constraints.{Constraint}
use Rattle.pb_norm.specs.Reduction.{rest_of}
use Rattle.pb_base.specs.declared.options.Options.{Options}
use Rattle.pb_choice.specs.declared.chosen.Chosen.{Chosen}
use Rattle.pb_choice.specs.declared.residual.Residual.TheVariants.{Sum}
use Rattle.pb_choice.specs.Residual.{IsLeft}

-- it is that of what is left of the constraint, under the options
abbrev pub IsKeptOf : Options → Constraint → Chosen → Type 0
IsKeptOf o c k = IsLeft o (rest_of c) (Sum k)
