-- What is known of how a constraint is encoded before it is planned. Our own.
use Rattle.std.specs.Prelude.{◌≡◌}
use Rattle.pb_norm.specs.declared.reduction.Rest.{Rest}
use Rattle.pb_base.specs.declared.options.Options.{Options}
use Rattle.pb_choice.specs.declared.known.Known.{Known}
use Rattle.pb_choice.specs.declared.known.Known.TheVariants.{Nothing, Adder, Kept}
use Rattle.pb_choice.specs.declared.residual.Residual.TheVariants.{Sum}
use Rattle.pb_choice.specs.declared.treatment.Treatment.TheVariants as treatment
use Rattle.pb_choice.specs.Choice.{treatment_of}
use Rattle.pb_choice.specs.Residual.{IsLeft}

-- it holds of what is left
abbrev pub IsKnown : Options → Rest → Known → Type 0
IsKnown o r Nothing = Unit {0}
IsKnown o r Adder = treatment_of o r ≡ treatment.Adder
IsKnown o r (Kept f) = IsLeft o r (Sum f.now)
