-- The constraints of a problem: variables that stand for products of literals (Tseitin 1968; Fortet 1960), and the halves of the statements.
use Rattle.std.specs.Prelude.{ℕ, ◌+◌, true, List, [], ◌∷◌, ◌++◌, map}
use Rattle.pb_base.specs.declared.literal.Lit.{Lit}
use Rattle.pb_base.specs.declared.problem.Problem.{Problem}
use Rattle.pb_base.specs.Literals.{negated}
use Rattle.pb_norm.specs.Constraints.{Constraint}
use Rattle.pb_norm.specs.ClauseForm.{clause_form}
use Rattle.pb_norm.specs.Halves.{loaded}

abbrev pub plain : ℕ → Lit
plain v = record { var = v; positive = true }

-- the product implies the literal
abbrev pub implied : Lit → Lit → List Lit
implied product l = l ∷ negated product ∷ []

-- all literals imply the product
abbrev pub implying : Lit → List Lit → List Lit
implying product ls = product ∷ map negated ls

-- the clauses under which a literal is the product of others
abbrev pub product_clauses : Lit → List Lit → List (List Lit)
product_clauses product ls = map (implied product) ls ++ implying product ls ∷ []

abbrev pub product_constraints : Lit → List Lit → List Constraint
product_constraints product ls = map clause_form (product_clauses product ls)

-- the products have the variables from a number on
abbrev pub defining : ℕ → List (List Lit) → List Constraint
defining v [] = []
defining v (ls ∷ products) = product_constraints (plain v) ls ++ defining (v + 1) products

-- the constraints of a problem: those of its products, whose variables come behind the others, and then the halves of its statements
abbrev pub loaded_of : Problem → List Constraint
loaded_of p = defining (p.vars + 1) p.products ++ loaded p.statements
