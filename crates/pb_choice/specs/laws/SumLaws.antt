-- The laws of the clauses of a sum, by its treatment.
use Rattle.std.proofs.Common.{◌≡◌, ◌≢◌, refl, ℕ, length}
use Rattle.pb_base.specs.Literals.{Assignment, AgreeBelow, IsModel}
use Rattle.pb_norm.specs.BoundedSums.{BoundedSum, StaysWithin}
use Rattle.pb_norm.specs.ClausePropagation.{ClausesPropagate}
use Rattle.pb_family.specs.Families.{NamesOnly, VarsBelow}
use Rattle.pb_amo.specs.laws.PairwiseLaws.{pairwise_sound, pairwise_extends, pairwise_names, pairwise_counts, pairwise_propagates}
use Rattle.pb_amo.specs.laws.LadderLaws.{ladder_sound, ladder_extends, ladder_names, ladder_counts, ladder_propagates}
use Rattle.pb_amo.specs.laws.ProductLaws.{product_sound, product_extends, product_names, product_counts, product_propagates}
use Rattle.pb_counter.specs.laws.CounterLaws.{counter_sound, counter_extends, counter_names, counter_counts, counter_propagates}
use Rattle.pb_totalizer.specs.laws.TotalizerLaws.{totalizer_sound, totalizer_extends, totalizer_names, totalizer_counts, totalizer_propagates}
use Rattle.pb_gentot.specs.laws.GeneralizedLaws.{generalized_sound, generalized_extends, generalized_names, generalized_counts, generalized_propagates}
use Rattle.pb_diagram.specs.laws.DiagramLaws.{diagram_sound, diagram_extends, diagram_names, diagram_counts, diagram_propagates}
use Rattle.pb_adder.specs.laws.AdderLaws.{adder_sound, adder_extends, adder_names, adder_counts}
use Rattle.pb_choice.specs.declared.treatment.Treatment.{Treatment}
use Rattle.pb_choice.specs.declared.treatment.Treatment.TheVariants as treatment
use Rattle.pb_choice.specs.Sums.{sum_clauses, sum_fresh, sum_count}
use Rattle.pb_choice.specs.inner.Suits.{Suits}

-- under a model the sum stays within its bound
pub sum_sound : (t : Treatment) (m : BoundedSum) (first : ℕ) → Suits t m → (a : Assignment) → IsModel a (sum_clauses t m first) → StaysWithin a m
sum_sound treatment.Pairwise m first h a model = pairwise_sound m h.one h.units a model
sum_sound treatment.Ladder m first h a model = ladder_sound m h.one h.units first a model
sum_sound treatment.Product m first h a model = product_sound m h.one h.units first a model
sum_sound treatment.Counter m first h a model = counter_sound m h.units h.proper first a model
sum_sound treatment.Totalizer m first h a model = totalizer_sound m h.units h.proper first a model
sum_sound treatment.Diagram m first h a model = diagram_sound m h first a model
sum_sound treatment.Tree m first h a model = generalized_sound m h first a model
sum_sound treatment.Adder m first h a model = adder_sound m first a model
sum_sound t m first h a model = absurd h

-- where it does, a model extends the assignment
pub sum_extends : (t : Treatment) (m : BoundedSum) (first : ℕ) → Suits t m → VarsBelow first m.terms → (a : Assignment) → StaysWithin a m → (b : Assignment) × AgreeBelow first a b × IsModel b (sum_clauses t m first)
sum_extends treatment.Pairwise m first h below a holds = pairwise_extends m h.one h.units first a holds
sum_extends treatment.Ladder m first h below a holds = ladder_extends m h.one h.units first below a holds
sum_extends treatment.Product m first h below a holds = product_extends m h.one h.units first below a holds
sum_extends treatment.Counter m first h below a holds = counter_extends m h.units h.proper first below a holds
sum_extends treatment.Totalizer m first h below a holds = totalizer_extends m h.units h.proper first below a holds
sum_extends treatment.Diagram m first h below a holds = diagram_extends m h first below a holds
sum_extends treatment.Tree m first h below a holds = generalized_extends m h first below a holds
sum_extends treatment.Adder m first h below a holds = adder_extends m first below a holds
sum_extends t m first h below a holds = absurd h

-- the literals are of its variables or of fresh ones
pub sum_names : (t : Treatment) (m : BoundedSum) (first : ℕ) → Suits t m → NamesOnly m.terms first (sum_fresh t m) (sum_clauses t m first)
sum_names treatment.Pairwise m first h = pairwise_names m.terms first 0
sum_names treatment.Ladder m first h = ladder_names m.terms first
sum_names treatment.Product m first h = product_names m.terms first
sum_names treatment.Counter m first h = counter_names m h.units h.proper first
sum_names treatment.Totalizer m first h = totalizer_names m h.units h.proper first
sum_names treatment.Diagram m first h = diagram_names m h first
sum_names treatment.Tree m first h = generalized_names m h first
sum_names treatment.Adder m first h = adder_names m.terms m.bound first
sum_names t m first h = absurd h

-- so many clauses
pub sum_counts : (t : Treatment) (m : BoundedSum) (first : ℕ) → Suits t m → length (sum_clauses t m first) ≡ sum_count t m
sum_counts treatment.Pairwise m first h = pairwise_counts m.terms
sum_counts treatment.Ladder m first h = ladder_counts m.terms first h.three
sum_counts treatment.Product m first h = product_counts m.terms first
sum_counts treatment.Counter m first h = counter_counts m h.units h.proper first
sum_counts treatment.Totalizer m first h = totalizer_counts m first
sum_counts treatment.Diagram m first h = diagram_counts m first
sum_counts treatment.Tree m first h = generalized_counts m first
sum_counts treatment.Adder m first h = adder_counts m.terms m.bound first
sum_counts t m first h = absurd h

-- unit propagation reaches what the sum forces, but over the adder's clauses
pub sum_propagates : (t : Treatment) (m : BoundedSum) (first : ℕ) → Suits t m → t ≢ treatment.Adder → ClausesPropagate (sum_clauses t m first) (λ a. StaysWithin a m)
sum_propagates treatment.Pairwise m first h other = pairwise_propagates m h.one h.units h.proper.distinct
sum_propagates treatment.Ladder m first h other = ladder_propagates m h.one h.units first h.proper.distinct
sum_propagates treatment.Product m first h other = product_propagates m h.one h.units first h.proper.distinct
sum_propagates treatment.Counter m first h other = counter_propagates m h.units h.proper first
sum_propagates treatment.Totalizer m first h other = totalizer_propagates m h.units h.proper first
sum_propagates treatment.Diagram m first h other = diagram_propagates m h first
sum_propagates treatment.Tree m first h other = generalized_propagates m h first
sum_propagates treatment.Adder m first h other = absurd (other refl)
sum_propagates t m first h other = absurd h
