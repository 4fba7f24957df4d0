-- Unit propagation over the clauses of a constraint reaches what it forces.
use Rattle.std.proofs.Common.{ℕ, ◌≢◌}
use Rattle.pb_base.specs.Literals.{Assignment, AllTrue}
use Rattle.pb_norm.specs.declared.reduction.Rest.{Rest}
use Rattle.pb_norm.specs.declared.reduction.Rest.TheVariants as rest
use Rattle.pb_norm.specs.Constraints.{Constraint, IsLinear, Holds}
use Rattle.pb_norm.specs.ClausePropagation.{ClausesPropagate}
use Rattle.pb_norm.specs.Reduction.{units_of, rest_of, RestHolds}
use Rattle.pb_norm.proofs.ClauseForcing.{clause_propagates, empty_propagates, nothing_propagates}
use Rattle.pb_norm.proofs.ReductionLaws.{split_holds}
use Rattle.pb_norm.proofs.UnitPropagation.{propagates_same, propagates_with_units}
use Rattle.pb_norm.proofs.UnitsApart.{units-consistent}
use Rattle.pb_base.specs.declared.options.Options.{Options}
use Rattle.pb_choice.specs.declared.treatment.Treatment.{Treatment}
use Rattle.pb_choice.specs.declared.treatment.Treatment.TheVariants as treatment
use Rattle.pb_choice.specs.Choice.{treatment_of, IsSentToAdder}
use Rattle.pb_choice.specs.Clauses.{rest_clauses, constraint_clauses}
use Rattle.pb_choice.specs.ConstraintLaws.{ClausesForce}
use Rattle.pb_choice.specs.inner.Suits.{RestSuits}
use Rattle.pb_choice.specs.laws.SumLaws.{sum_propagates}
use Rattle.pb_choice.proofs.Encoded.{chosen_suits}

pub rest_propagates : (t : Treatment) (r : Rest) (first : ℕ) → RestSuits t r → t ≢ treatment.Adder → ClausesPropagate (rest_clauses t r first) (λ a. RestHolds a r)
rest_propagates t rest.Nothing first h other = nothing_propagates
rest_propagates t rest.Empty first h other = empty_propagates
rest_propagates t (rest.Clause ls) first h other = clause_propagates ls
rest_propagates t (rest.One m) first h other = sum_propagates t m first h other
rest_propagates t (rest.Card m) first h other = sum_propagates t m first h other
rest_propagates t (rest.General m) first h other = sum_propagates t m first h other

pub clauses-propagate : (o : Options) (c : Constraint) (first : ℕ) → IsLinear c → ¬ IsSentToAdder o c → ClausesPropagate (constraint_clauses o c first) (λ a. Holds a c)
clauses-propagate o c first linear other =
    let chosen = treatment_of o (rest_of c) in
    let left = rest_propagates chosen (rest_of c) first (chosen_suits o c linear) other in
    let Residual : Assignment → Type 0 = λ a. RestHolds a (rest_of c) in
    propagates_same (constraint_clauses o c first) (λ a. AllTrue a (units_of c) × Residual a) (λ a. Holds a c) (λ a. split_holds a c linear)
    (propagates_with_units (units_of c) (rest_clauses chosen (rest_of c) first) Residual (units-consistent c linear) left)

pub clauses_force : ClausesForce
clauses_force o c first linear other below = clauses-propagate o c first linear other
