-- Problems that are ready to be encoded, and why one is not. Our own.
use Rattle.std.specs.Prelude.{ℕ, ℤ, ◌≡◌, List, Option, Some, None}
use Rattle.pb_base.specs.declared.limit.LimitKind.{LimitKind}
use Rattle.pb_base.specs.declared.problem.Problem.{Problem}
use Rattle.pb_base.specs.Problems.{IsWithinLimits}
use Rattle.pb_base.specs.declared.options.Options.{Options}
use Rattle.pb_encode.specs.Summaries.{summary_of, IsEncodable, IsOver}
use Rattle.pb_suite.specs.declared.outcome.Outcome.{Outcome}
use Rattle.pb_suite.specs.declared.outcome.Outcome.TheVariants as outcome
use Rattle.pb_suite.specs.Denoted.{Denotes}
use Rattle.pb_suite.specs.Refusals.{RefusesOpb}
use Rattle.pbcnf_c.specs.declared.options.PbcnfOptions.{PbcnfOptions}
use Rattle.pbcnf_c.specs.declared.ready.Ready.{Ready}
use Rattle.pbcnf_c.specs.Choices.{options_of}

pub record IsReady (r : Ready) : Type 0 where
  pub within : IsWithinLimits r.problem
  pub encodable : IsEncodable r.options r.problem
  pub summary : r.summary ≡ summary_of r.options r.problem

-- of this problem, under these options
abbrev pub IsReadyAs : Options → Problem → Ready → Type 0
IsReadyAs o p r = (r.options ≡ o) × (r.problem ≡ p)

-- of the problem that the text denotes, under the options that the numbers choose
pub record IsReadyFor (chosen : PbcnfOptions) (bound : Option ℤ) (text : List ℕ) (r : Ready) : Type 0 where
  pub chosen_are : options_of chosen ≡ Some r.options
  pub denotes : Denotes bound text r.problem

-- it passes a limit, or memory was wanting
pub data StopsSizing (o : Options) (p : Problem) : Outcome → Type 0 where
  over : (which : LimitKind) → IsOver which o p → StopsSizing o p (outcome.Limit None which None)
  no_memory : StopsSizing o p outcome.NoMemory

-- In this order: the numbers choose no options; the text is refused, or the bound is too heavy; what is made of it passes a limit. Or memory was wanting.
pub data StopsEncoding (chosen : PbcnfOptions) (bound : Option ℤ) (text : List ℕ) : Outcome → Type 0 where
  usage : options_of chosen ≡ None → StopsEncoding chosen bound text outcome.Usage
  refused : (o : Options) (answer : Outcome) → options_of chosen ≡ Some o → RefusesOpb bound text answer → StopsEncoding chosen bound text answer
  over : (o : Options) (p : Problem) (which : LimitKind) → options_of chosen ≡ Some o → Denotes bound text p → IsOver which o p → StopsEncoding chosen bound text (outcome.Limit None which None)
  no_memory : StopsEncoding chosen bound text outcome.NoMemory
