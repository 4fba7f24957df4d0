-- What the call that gives the soft literals of an objective answers. Our own.
use Rattle.std.specs.Prelude.{ℕ, ℤ, pos, ◌≡◌, List, length, map, Option}
use Rattle.pb_base.specs.declared.literal.Lit.{Lit}
use Rattle.pb_base.specs.declared.options.Options.{Options}
use Rattle.pb_base.specs.declared.problem.Problem.{Problem}
use Rattle.pb_columns.specs.Words.{wide}
use Rattle.pb_encode.specs.Costs.{offset_of, softs_of}
use Rattle.pb_encode.specs.Weighted.{HasCostsOf}
use Rattle.pb_norm.specs.Constraints.{Weighted}
use Rattle.pb_suite.specs.declared.outcome.Outcome.{Outcome}
use Rattle.pb_suite.specs.declared.outcome.Outcome.TheVariants as outcome
use Rattle.pb_suite.specs.Denoted.{Denotes}
use Rattle.pb_suite.specs.Refusals.{RefusesOpb}
use Rattle.pbcnf_c.specs.declared.bounds.PbcnfRow.{PbcnfRow}
use Rattle.pbcnf_c.specs.declared.softs.PbcnfCosts.{PbcnfCosts}
use Rattle.pbcnf_c.specs.Bounds.{TellRows}
use Rattle.pbcnf_c.specs.Rooms.{Ends}

-- where nothing is told
abbrev pub no_costs : PbcnfCosts
no_costs = record { offset_low = 0; offset_high = 0; length = 0 }

-- the weight of a soft literal, as a value, and the literal
abbrev pub soft_row : Weighted → ℤ × Lit
soft_row s = (pos s.coef, s.lit)

-- the rows tell the soft literals of the objective, in order, and no others; beside them the offset, and how many there are
pub record AreSoftsOf (p : Problem) (given : List PbcnfRow) (told : PbcnfCosts) : Type 0 where
  pub rows : TellRows (map soft_row (softs_of p)) given
  pub offset : wide told.offset_low told.offset_high ≡ offset_of p
  pub count : told.length ≡ length given

-- So it is of the problem that the text denotes. Under each model of its clauses, whatever the options, the objective's value is the offset and what the false soft literals cost.
pub record AreSofts (bound : Option ℤ) (text : List ℕ) (given : List PbcnfRow) (told : PbcnfCosts) : Type 0 where
  pub problem : Problem
  pub denotes : Denotes bound text problem
  pub softs : AreSoftsOf problem given told
  pub costs : (o : Options) → HasCostsOf o problem

-- the text is refused, or the bound is too heavy; or memory was wanting
pub data StopsSofts (bound : Option ℤ) (text : List ℕ) : Outcome → Type 0 where
  refused : (answer : Outcome) → RefusesOpb bound text answer → StopsSofts bound text answer
  no_memory : StopsSofts bound text outcome.NoMemory

-- The soft literals are put, or their number told, or why there are none.
abbrev pub SoftsInto : Option ℤ → List ℕ → List PbcnfRow → List PbcnfRow → PbcnfCosts → Outcome → Type 0
SoftsInto bound text old new told answer = Ends (AreSofts bound text) (StopsSofts bound text) no_costs old new told answer
