-- What it means that equalities are encoded half by half.
use Rattle.std.specs.Prelude.{◌≡◌, ◌+◌, ℕ}
use Rattle.pb_base.specs.declared.problem.Problem.{Problem}
use Rattle.pb_base.specs.Problems.{originals}
use Rattle.pb_norm.specs.Products.{loaded_of}
use Rattle.pb_base.specs.declared.options.Options.{Options}
use Rattle.pb_encode.specs.Clauses.{clause_total, clauses_from, fresh_total, loaded_clauses, loaded_vars}
use Rattle.pb_encode.specs.Groups.{groups_of, singles}
use Rattle.pb_encode.specs.Summaries.{treated}

-- clauses and counts before those of a table are those of the loaded constraints, one after another, and none is encoded together with another
pub record AreApart (o : Options) (p : Problem) : Type 0 where
  pub clauses : loaded_clauses o p ≡ clauses_from o (originals p + 1) (singles (loaded_of p))
  pub vars : loaded_vars o p ≡ originals p + fresh_total o (singles (loaded_of p))
  pub count : clause_total o (groups_of p) ≡ clause_total o (singles (loaded_of p))
  pub each : (place : ℕ) → treated o place (groups_of p) ≡ treated o place (singles (loaded_of p))
  pub none : treated o 11 (groups_of p) ≡ 0
