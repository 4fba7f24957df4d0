-- The steps that derive the clauses of a sum, by the family that was chosen for it. Our own.
use Rattle.std.specs.Prelude.{ℕ, List, []}
use Rattle.pb_norm.specs.BoundedSums.{BoundedSum}
use Rattle.pb_norm.specs.Reduction.{lits_of}
use Rattle.pb_steps.specs.declared.step.Step.{Step}
use Rattle.pb_amo.specs.PairwiseSteps.{pairwise_steps}
use Rattle.pb_amo.specs.LadderSteps.{ladder_steps}
use Rattle.pb_amo.specs.ProductSteps.{product_steps}
use Rattle.pb_counter.specs.CounterHalves.{counter_row_steps}
use Rattle.pb_totalizer.specs.TotalizerSteps.{totalizer_steps}
use Rattle.pb_gentot.specs.GeneralizedSteps.{generalized_steps}
use Rattle.pb_diagram.specs.DiagramDerivation.{derivation_steps}
use Rattle.pb_adder.specs.AdderSteps.{adder_steps}
use Rattle.pb_choice.specs.declared.treatment.Treatment.{Treatment}
use Rattle.pb_choice.specs.declared.treatment.Treatment.TheVariants as treatment

-- where the fresh variables are numbered from the first number on, the second is the id of the sum's constraint, and the third is the next id
abbrev pub sum_steps : Treatment → BoundedSum → ℕ → ℕ → ℕ → List Step
sum_steps treatment.Pairwise m first id next = pairwise_steps (lits_of m.terms) id next
sum_steps treatment.Ladder m first id next = ladder_steps m.terms first id next
sum_steps treatment.Product m first id next = product_steps (lits_of m.terms) first id next
sum_steps treatment.Counter m first id next = counter_row_steps (lits_of m.terms) m.bound first id next
sum_steps treatment.Totalizer m first id next = totalizer_steps m first id next
sum_steps treatment.Diagram m first id next = derivation_steps m first id next
sum_steps treatment.Tree m first id next = generalized_steps m first id next
sum_steps treatment.Adder m first id next = adder_steps m.terms m.bound first id next
sum_steps t m first id next = []
