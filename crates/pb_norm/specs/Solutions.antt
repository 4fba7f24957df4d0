-- A problem's solutions, by its constraints (our own).
use Rattle.std.specs.Prelude.{◌≡◌, ◌↔◌, ◌+◌, Bool, List, All, length, take}
use Rattle.pb_base.specs.declared.problem.Problem.{Problem}
use Rattle.pb_base.specs.Literals.{assigned_by}
use Rattle.pb_base.specs.Problems.{IsProductWithin, IsSolution, originals, widened}
use Rattle.pb_norm.specs.Constraints.{Constraint, Solves}
use Rattle.pb_norm.specs.Products.{defining, loaded_of}

-- values are a solution exactly where there is one for each variable of the problem, and the constraints hold under them and those of the products
abbrev pub HaveSolutionsOf : Problem → List Constraint → Type 0
HaveSolutionsOf p cs = (values : List Bool) → IsSolution p values ↔ ((length values ≡ p.vars) × Solves (assigned_by (widened p values)) cs)

-- a value for each variable that the constraints are over, under which they hold; those of the problem's variables are these
pub record IsFrontOf (p : Problem) (values all : List Bool) : Type 0 where
  pub covers : length all ≡ originals p
  pub solves : Solves (assigned_by all) (loaded_of p)
  pub front : take p.vars all ≡ values

-- what is asked of a problem's products
abbrev pub HasProducts : Problem → Type 0
HasProducts p = All (IsProductWithin p.vars) p.products

-- the solutions are exactly the fronts of values under which the loaded constraints hold
abbrev pub SolutionsAreFronts : Type 0
SolutionsAreFronts = (p : Problem) → HasProducts p → (values : List Bool) → IsSolution p values ↔ ((all : List Bool) × IsFrontOf p values all)

-- values of all variables under which the constraints of the products hold are those of the problem's variables, and behind them those of the products
abbrev pub ProductsWiden : Type 0
ProductsWiden = (p : Problem) → HasProducts p → (all : List Bool) → length all ≡ originals p → Solves (assigned_by all) (defining (p.vars + 1) p.products) → all ≡ widened p (take p.vars all)
