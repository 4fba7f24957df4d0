-- The family that was chosen for a sum is one for it, and its clauses may be derived. Our own.
use Rattle.std.specs.Prelude.{◌≡◌}
use Rattle.std.proofs.Common.{arith}
use Rattle.pb_norm.specs.BoundedSums.{BoundedSum}
use Rattle.pb_choice.specs.declared.chosen.Chosen.{Chosen}
use Rattle.pb_choice.specs.declared.chosen.Chosen.TheVariants.{Pairwise, Ladder, Product, Counter, Totalizer, Diagram, Tree, Adder}
use Rattle.pb_choice.specs.declared.treatment.Treatment.{Treatment}
use Rattle.pb_choice.specs.Chosen.{sum_at, treatment_at}
use Rattle.pb_choice.specs.inner.Suits.{Suits, IsDerivable, HasRoom}
use Rattle.pb_choice.specs.laws.SumSizes.{tree_small}

-- the family is for the sum
pub chosen_suits : (f : Chosen) → Suits (treatment_at f) (sum_at f)
chosen_suits (Pairwise held) = held.class
chosen_suits (Ladder held) = held.class
chosen_suits (Product held) = held.class
chosen_suits (Counter held) = held.class
chosen_suits (Totalizer held) = held.class
chosen_suits (Diagram held) = held.class
chosen_suits (Tree held) = held.class
chosen_suits (Adder held) = tt

-- and its clauses may be derived
pub chosen_derivable : (f : Chosen) → IsDerivable (treatment_at f) (sum_at f)
chosen_derivable (Pairwise held) = record { suits = held.class; proper = held.class.proper; few = held.few; light = held.light }
chosen_derivable (Ladder held) = record { suits = held.class; proper = held.class.proper; few = held.few; light = held.light }
chosen_derivable (Product held) = record { suits = held.class; proper = held.class.proper; few = held.few; light = held.light }
chosen_derivable (Counter held) = record { suits = held.class; proper = held.class.proper; few = held.few; light = held.light }
chosen_derivable (Totalizer held) = record { suits = held.class; proper = held.class.proper; few = held.few; light = held.light }
chosen_derivable (Diagram held) = record { suits = held.class; proper = held.class; few = held.few; light = held.light }
chosen_derivable (Tree held) = record { suits = held.class; proper = held.class; few = held.few; light = held.light }
chosen_derivable (Adder held) = record { suits = tt; proper = held.proper; few = held.few; light = held.light }

pub chosen_room : (f : Chosen) → HasRoom (treatment_at f) (sum_at f)
chosen_room (Pairwise held) = tt
chosen_room (Ladder held) = tt
chosen_room (Product held) = tt
chosen_room (Counter held) = tt
chosen_room (Totalizer held) = tt
chosen_room (Diagram held) = tt
chosen_room (Tree held) = omega (arith, tree_small held.sum held.class held.modest)
chosen_room (Adder held) = tt

-- so it was chosen for a sum
pub record IsChosen (t : Treatment) (m : BoundedSum) (f : Chosen) : Type 0 where
  pub treatment_is : treatment_at f ≡ t
  pub sum_is : sum_at f ≡ m
