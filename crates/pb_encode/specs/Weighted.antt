-- What making the weighted CNF of a problem does to a desk. Our own.
use Rattle.std.specs.Prelude.{◌≡◌, ◌+ℤ◌, ℕ, pos, Bool, List, take}
use Rattle.pb_base.specs.declared.problem.Problem.{Problem}
use Rattle.pb_base.specs.Literals.{assigned_by}
use Rattle.pb_base.specs.Problems.{objective_terms, sum_value, widened}
use Rattle.pb_desk.specs.Desk.{DeskState, Reaches, same}
use Rattle.pb_dimacs.specs.WcnfText.{wcnf_text}
use Rattle.pb_base.specs.declared.options.Options.{Options}
use Rattle.pb_encode.specs.Clauses.{problem_clauses, problem_vars}
use Rattle.pb_encode.specs.Costs.{cost_under, offset_of, softs_of}
use Rattle.pb_encode.specs.Encodings.{LacksToMake, LeavesPart, StopsMaking}
use Rattle.pb_encode.specs.Models.{HasSolutionsOf, IsModelOver}
use Rattle.pb_encode.specs.Summaries.{IsEncodable}

-- the weighted CNF text of a problem: the offset of its objective, its clauses, which are hard, and what its objective costs
abbrev pub weighted_text : Options → Problem → List ℕ
weighted_text o p = wcnf_text (offset_of p) (problem_clauses o p) (softs_of p)

-- a write failed on the way
pub record IsWeightedCutOff (o : Options) (p : Problem) (name : List ℕ) (old new : DeskState) : Type 0 where
  pub encodable : IsEncodable o p
  pub stops : StopsMaking 0 name (weighted_text o p) old new

-- Memory was wanting: before the file was made; or, of a problem that is encoded, once it held a first part of its text.
pub data WantsForWeighted (o : Options) (p : Problem) (name : List ℕ) (old new : DeskState) : Type 0 where
  not_made : Reaches same old new → WantsForWeighted o p name old new
  in_text : IsEncodable o p → LeavesPart 0 name (weighted_text o p) old new → WantsForWeighted o p name old new

abbrev pub LacksForWeighted : Options → Problem → List ℕ → DeskState → Type 0
LacksForWeighted o p name desk = LacksToMake 0 name (weighted_text o p) desk

-- The models of the hard clauses, cut, are the solutions, and under each the value of the objective is the offset and what the false
-- soft literals cost.
pub record HasCostsOf (o : Options) (p : Problem) : Type 0 where
  pub solutions : HasSolutionsOf p (problem_vars o p) (problem_clauses o p)
  pub costs : (model : List Bool) → IsModelOver (problem_vars o p) (problem_clauses o p) model
      → sum_value (assigned_by (widened p (take p.vars model))) (objective_terms p) ≡ offset_of p +ℤ pos (cost_under (assigned_by model) (softs_of p))
