-- Worked examples of problems with a bound on the objective.
use Rattle.std.specs.Prelude.{◌≡◌, ℕ, Bool, true, false, ℤ, pos, negsuc, List, [], ◌∷◌, Some, None, refl}
use Rattle.pb_base.specs.declared.literal.Term.{Term}
use Rattle.pb_base.specs.declared.problem.Problem.{Problem}
use Rattle.pb_base.specs.declared.problem.Raw.{Raw}
use Rattle.pb_base.specs.declared.problem.Relation.TheVariants.{AtLeast, AtMost}
use Rattle.pb_opb.specs.Bounded.{bound_weight, bounded, objective_value}

abbrev weighing : ℤ → ℕ → Bool → Term
weighing coef v positive = record { coef = coef; lit = record { var = v; positive = positive } }

-- one of two
abbrev one_of_two : Raw
one_of_two = record { terms = weighing (pos 1) 1 true ∷ weighing (pos 1) 2 true ∷ []; relation = AtLeast; right = pos 1 }

abbrev costs : List Term
costs = weighing (pos 3) 1 true ∷ weighing (negsuc 0) 2 false ∷ []

-- 3 for the first, less 1 where the second is false
abbrev costly : List Raw → Problem
costly statements = record { vars = 2; numbered = 2; names = []; products = []; objective = Some costs; statements = statements }

-- the bound stands last
pub at_most_two : bounded (costly (one_of_two ∷ [])) (pos 2) ≡ costly (one_of_two ∷ record { terms = costs; relation = AtMost; right = pos 2 } ∷ [])
at_most_two = refl

-- it may be below 0
pub at_most_minus_two : bounded (costly (one_of_two ∷ [])) (negsuc 1) ≡ costly (one_of_two ∷ record { terms = costs; relation = AtMost; right = negsuc 1 } ∷ [])
at_most_minus_two = refl

abbrev free_of_cost : List Raw → Problem
free_of_cost statements = record { vars = 1; numbered = 1; names = []; products = []; objective = None; statements = statements }

-- no objective is the empty sum, whose value is 0
pub of_no_objective : bounded (free_of_cost []) (negsuc 0) ≡ free_of_cost (record { terms = []; relation = AtMost; right = negsuc 0 } ∷ [])
of_no_objective = refl

pub nothing_costs_nothing : objective_value (free_of_cost []) (true ∷ []) ≡ pos 0
nothing_costs_nothing = refl

pub value_of_both : objective_value (costly []) (true ∷ true ∷ []) ≡ pos 3
value_of_both = refl

pub value_of_the_first : objective_value (costly []) (true ∷ false ∷ []) ≡ pos 2
value_of_the_first = refl

pub value_of_none : objective_value (costly []) (false ∷ false ∷ []) ≡ negsuc 0
value_of_none = refl

-- the bound counts whatever its sign
pub weight_by_two : bound_weight (costly []) (negsuc 1) ≡ 6
weight_by_two = refl

-- a product's variable stands in the objective as any other
abbrev of_a_product : Problem
of_a_product = record {
  vars = 2;
  numbered = 2;
  names = [];
  products = (record { var = 1; positive = true } ∷ record { var = 2; positive = false } ∷ []) ∷ [];
  objective = Some (weighing (pos 5) 3 true ∷ []);
  statements = [];
}

pub value_of_a_product : objective_value of_a_product (true ∷ false ∷ []) ≡ pos 5
value_of_a_product = refl
