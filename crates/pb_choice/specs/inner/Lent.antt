-- The family that a plan has or uses. Our own.
use Rattle.pb_choice.specs.declared.chosen.Chosen.{Chosen}
use Rattle.pb_choice.specs.declared.lent.Owner.{Owner}
use Rattle.pb_choice.specs.declared.lent.Owner.TheVariants.{Own, Kept}

abbrev pub chosen_in : Owner → Chosen
chosen_in (Own f) = f.value
chosen_in (Kept f) = f.now
