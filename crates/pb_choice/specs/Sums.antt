-- The clauses of a sum that is to stay within its bound, by the family that was chosen for it. Our own.
use Rattle.std.specs.Prelude.{ℕ, ◌-◌, ◌*◌, List, [], length}
use Rattle.pb_base.specs.declared.literal.Lit.{Lit}
use Rattle.pb_norm.specs.BoundedSums.{BoundedSum}
use Rattle.pb_norm.specs.Reduction.{lits_of}
use Rattle.pb_amo.specs.Pairwise.{pair_count, pairwise_clauses}
use Rattle.pb_amo.specs.Ladder.{ladder_clauses}
use Rattle.pb_amo.specs.Product.{product_clauses, product_count, product_fresh}
use Rattle.pb_counter.specs.Counter.{counter_clauses, counter_fresh, counter_size}
use Rattle.pb_totalizer.specs.Totalizer.{totalizer_clauses, totalizer_fresh, totalizer_size}
use Rattle.pb_gentot.specs.Generalized.{generalized_clauses, generalized_fresh, generalized_size}
use Rattle.pb_diagram.specs.Clauses.{diagram_clauses, diagram_fresh, diagram_size}
use Rattle.pb_adder.specs.Adder.{adder_clauses}
use Rattle.pb_adder.specs.Counts.{adder_fresh, adder_size}
use Rattle.pb_choice.specs.declared.treatment.Treatment.{Treatment}
use Rattle.pb_choice.specs.declared.treatment.Treatment.TheVariants as treatment

-- its clauses, where the fresh variables are numbered from a number on
abbrev pub sum_clauses : Treatment → BoundedSum → ℕ → List (List Lit)
sum_clauses treatment.Pairwise m first = pairwise_clauses (lits_of m.terms)
sum_clauses treatment.Ladder m first = ladder_clauses (lits_of m.terms) first
sum_clauses treatment.Product m first = product_clauses (lits_of m.terms) first
sum_clauses treatment.Counter m first = counter_clauses (lits_of m.terms) m.bound first
sum_clauses treatment.Totalizer m first = totalizer_clauses m first
sum_clauses treatment.Diagram m first = diagram_clauses m first
sum_clauses treatment.Tree m first = generalized_clauses m first
sum_clauses treatment.Adder m first = adder_clauses m.terms m.bound first
sum_clauses t m first = []

-- how many fresh variables they have
abbrev pub sum_fresh : Treatment → BoundedSum → ℕ
sum_fresh treatment.Ladder m = length m.terms - 1
sum_fresh treatment.Product m = product_fresh (length m.terms)
sum_fresh treatment.Counter m = counter_fresh (length m.terms) m.bound
sum_fresh treatment.Totalizer m = totalizer_fresh m
sum_fresh treatment.Diagram m = diagram_fresh m
sum_fresh treatment.Tree m = generalized_fresh m
sum_fresh treatment.Adder m = adder_fresh m.terms
sum_fresh t m = 0

-- how many there are
abbrev pub sum_count : Treatment → BoundedSum → ℕ
sum_count treatment.Pairwise m = pair_count (length m.terms)
sum_count treatment.Ladder m = 3 * length m.terms - 4
sum_count treatment.Product m = product_count (length m.terms)
sum_count treatment.Counter m = counter_size (length m.terms) m.bound
sum_count treatment.Totalizer m = totalizer_size m
sum_count treatment.Diagram m = diagram_size m
sum_count treatment.Tree m = generalized_size m
sum_count treatment.Adder m = adder_size m.terms m.bound
sum_count t m = 0
