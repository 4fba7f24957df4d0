-- Worked examples of the texts of solutions and of free names.
use Rattle.std.specs.Prelude.{◌≡◌, ℕ, Bool, true, false, [], ◌∷◌, Some, None, refl, codes, pos, negsuc, ℤ}
use Rattle.std.specs.Fmt.{digits}
use Rattle.pb_base.specs.declared.literal.Term.{Term}
use Rattle.pb_base.specs.declared.problem.Problem.{Problem}
use Rattle.pb_base.specs.declared.problem.Raw.{Raw}
use Rattle.pb_base.specs.declared.problem.Relation.TheVariants.{AtLeast, Equal}
use Rattle.pb_model.specs.SolutionText.{solution_text}
use Rattle.pb_model.specs.MapText.{map_text}

abbrev weighing : ℤ → ℕ → Bool → Term
weighing coef v positive = record { coef = coef; lit = record { var = v; positive = positive } }

-- one of two
abbrev one_of_two : Raw
one_of_two = record { terms = weighing (pos 1) 1 true ∷ weighing (pos 1) 2 true ∷ []; relation = Equal; right = pos 1 }

abbrev plain : Problem
plain = record { vars = 2; numbered = 2; names = []; products = []; objective = None; statements = one_of_two ∷ [] }

-- with 3 for the first, less 1 where the second is false
abbrev valued : Problem
valued = record { vars = 2; numbered = 2; names = []; products = []; objective = Some (weighing (pos 3) 1 true ∷ weighing (negsuc 0) 2 false ∷ []); statements = one_of_two ∷ [] }

pub without_an_objective : solution_text plain (true ∷ false ∷ []) ≡ codes "s SATISFIABLE\nv x1 -x2\n"
unfolding digits
without_an_objective = refl

pub with_an_objective : solution_text valued (true ∷ false ∷ []) ≡ codes "o 2\ns SATISFIABLE\nv x1 -x2\n"
unfolding digits
with_an_objective = refl

pub of_no_variables : solution_text (record { vars = 0; numbered = 0; names = []; products = []; objective = Some []; statements = [] }) [] ≡ codes "o 0\ns SATISFIABLE\nv\n"
unfolding digits
of_no_variables = refl

-- two of `rain`, `x2` and `~sun`
abbrev two_of_three : Raw
two_of_three = record { terms = weighing (pos 1) 3 true ∷ weighing (pos 1) 2 true ∷ weighing (pos 1) 4 false ∷ []; relation = AtLeast; right = pos 2 }

abbrev weather : Problem
weather = record { vars = 4; numbered = 2; names = codes "rain" ∷ codes "sun" ∷ []; products = []; objective = None; statements = two_of_three ∷ [] }

pub by_names : solution_text weather (false ∷ true ∷ true ∷ false ∷ []) ≡ codes "s SATISFIABLE\nv -x1 x2 rain -sun\n"
unfolding digits
by_names = refl

pub free_names : map_text weather ≡ codes "3 rain\n4 sun\n"
unfolding digits
free_names = refl

pub no_free_names : map_text plain ≡ []
no_free_names = refl

-- the product of the first variable and the negated second is worth 2, and is to be true
abbrev of_a_product : Problem
of_a_product = record {
  vars = 2;
  numbered = 2;
  names = [];
  products = (record { var = 1; positive = true } ∷ record { var = 2; positive = false } ∷ []) ∷ [];
  objective = Some (weighing (pos 2) 3 true ∷ []);
  statements = record { terms = weighing (pos 1) 3 true ∷ []; relation = AtLeast; right = pos 1 } ∷ [];
}

pub with_a_product : solution_text of_a_product (true ∷ false ∷ []) ≡ codes "o 2\ns SATISFIABLE\nv x1 -x2\n"
unfolding digits
with_a_product = refl
