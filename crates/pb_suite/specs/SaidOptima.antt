-- What is said of a solution that was proved optimal. Our own.
use Rattle.std.specs.Prelude.{◌≡◌, ◌≤ℤ◌, Bool, List, ◌++◌, Option, Some, None, IsSome}
use Rattle.pb_base.specs.declared.problem.Problem.{Problem}
use Rattle.pb_base.specs.Problems.{IsSolution}
use Rattle.pb_desk.specs.View.{Told}
use Rattle.pb_desk.specs.Desk.{DeskState, IfTold, IsTold}
use Rattle.pb_model.specs.SolutionText.{optimum_text}
use Rattle.pb_opb.specs.Bounded.{objective_value}
use Rattle.pb_words.specs.OptimumWords.{OptimumWords}
use Rattle.pb_words.specs.Parsed.{Wanted}
use Rattle.pb_words.specs.Parsed.Wanted.{Optimum}
use Rattle.pb_suite.specs.declared.outcome.Outcome.{Outcome}
use Rattle.pb_suite.specs.declared.outcome.Outcome.TheVariants as outcome
use Rattle.pb_suite.specs.CommandSpec.{Shelf}
use Rattle.pb_suite.specs.Denoted.{IsDenoted}

-- The shelf has a text of a problem with an objective. These values are a solution, and each solution costs at least as much.
pub record IsOptimum (w : OptimumWords) (shelf : Shelf) (p : Problem) (values : List Bool) : Type 0 where
  pub denoted : IsDenoted shelf w.opb None p
  pub aims : IsSome p.objective
  pub solution : IsSolution p values
  pub least : (other : List Bool) → IsSolution p other → objective_value p values ≤ℤ objective_value p other

-- what is said to be optimal is so, and no file was made
pub record SaysOptimum (w : OptimumWords) (old new : Told) : Type 0 where
  pub problem : Problem
  pub values : List Bool
  pub optimum : IsOptimum w old.shelf problem values
  pub said_is : new.said ≡ old.said ++ optimum_text problem values
  pub made_is : new.made ≡ old.made

-- where words ask for an optimum and that is done, this was said
abbrev pub ProvesOptimum : Option Wanted → Outcome → DeskState → DeskState → Type 0
ProvesOptimum asked answer old new = (w : OptimumWords) → asked ≡ Some (Optimum w) → answer ≡ outcome.Done → IfTold old (λ t. IsTold new (SaysOptimum w t))
