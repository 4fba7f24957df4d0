-- What acceptance shows: solutions extend to models (our own).
use Rattle.std.specs.Prelude.{◌≡◌, ℕ, Bool, List, length, take}
use Rattle.pb_base.specs.declared.literal.Lit.{Lit}
use Rattle.pb_base.specs.declared.problem.Problem.{Problem}
use Rattle.pb_base.specs.Literals.{assigned_by, IsModel}
use Rattle.pb_base.specs.Problems.{IsSolution}
use Rattle.pb_dimacs.specs.CnfReading.{CnfReads}

-- the values are a model of the clauses, over so many variables, and begin with the first values
pub record IsModelFrom (vars : ℕ) (clauses : List (List Lit)) (first : ℕ) (values model : List Bool) : Type 0 where
  pub covers : length model ≡ vars
  pub satisfies : IsModel (assigned_by model) clauses
  pub front : take first model ≡ values

-- the text is a CNF, and each solution of the problem is the front of a model of its clauses
pub record ExtendsSolutions (p : Problem) (cnf : List ℕ) : Type 0 where
  pub vars : ℕ
  pub clauses : List (List Lit)
  pub reads : CnfReads cnf vars clauses
  pub extends : (values : List Bool) → IsSolution p values → (model : List Bool) × IsModelFrom vars clauses p.vars values model
