-- The family that was chosen for a sum: which it is, and of which sum. Our own.
use Rattle.pb_norm.specs.BoundedSums.{BoundedSum}
use Rattle.pb_choice.specs.declared.chosen.Chosen.{Chosen}
use Rattle.pb_choice.specs.declared.chosen.Chosen.TheVariants.{Pairwise, Ladder, Product, Counter, Totalizer, Diagram, Tree, Adder}
use Rattle.pb_choice.specs.declared.treatment.Treatment.{Treatment}
use Rattle.pb_choice.specs.declared.treatment.Treatment.TheVariants as treatment

abbrev pub treatment_at : Chosen → Treatment
treatment_at (Pairwise held) = treatment.Pairwise
treatment_at (Ladder held) = treatment.Ladder
treatment_at (Product held) = treatment.Product
treatment_at (Counter held) = treatment.Counter
treatment_at (Totalizer held) = treatment.Totalizer
treatment_at (Diagram held) = treatment.Diagram
treatment_at (Tree held) = treatment.Tree
treatment_at (Adder held) = treatment.Adder

abbrev pub sum_at : Chosen → BoundedSum
sum_at (Pairwise held) = held.sum
sum_at (Ladder held) = held.sum
sum_at (Product held) = held.sum
sum_at (Counter held) = held.sum
sum_at (Totalizer held) = held.sum
sum_at (Diagram held) = held.sum
sum_at (Tree held) = held.sum
sum_at (Adder held) = held.sum
