-- What a line of a derivation asks, before any rule is tested (our own).
-- `turn_of` computes it of a line and of what is to come, with no rule in it, so that the answers for texts without allowed steps
-- compute. `Follows` is the one place that names `Allowed` and `FirstDenied`. So a reader sees the order of faults and denials
-- without any rule, and each law goes by turns.
use Rattle.std.specs.Prelude.{ℕ, ◌-◌, ◌==◌, List, length, Option, Some, None, Result, Ok, Err, if◌then◌else◌}
use Rattle.pb_base.specs.declared.literal.Lit.{Lit}
use Rattle.pb_base.specs.declared.file.File.TheVariants.{Proof}
use Rattle.pb_base.specs.declared.expected.Expected.{Expected}
use Rattle.pb_base.specs.declared.expected.Expected.TheVariants as expected
use Rattle.pb_norm.specs.Constraints.{Constraint}
use Rattle.pb_dimacs.specs.CnfRows.{CnfRow, line_start, limit_place}
use Rattle.pb_dimacs.specs.CnfRows.CnfRow.{plain, too_long, last}
use Rattle.pb_dimacs.specs.CnfSymbols.{CnfSymbol, Next, next_of}
use Rattle.pb_dimacs.specs.CnfSymbols.Next.{clause, nothing, refused}
use Rattle.pb_steps.specs.declared.denied.Denied.TheVariants.{ClausesLeft}
use Rattle.pb_steps.specs.declared.fault.StepFault.{StepFault}
use Rattle.pb_steps.specs.declared.step.Step.{Step}
use Rattle.pb_steps.specs.declared.step.Step.TheVariants.{Blank, Head, Loaded, Out, End}
use Rattle.pb_steps.specs.Database.{Database, loaded_database}
use Rattle.pb_steps.specs.LineSteps.{step_of}
use Rattle.pb_check.specs.declared.verdict.Verdict.{Verdict}
use Rattle.pb_check.specs.declared.verdict.Verdict.TheVariants.{Accepted, Rejected}
use Rattle.pb_check.specs.declared.verdict.CheckFault.{CheckFault}
use Rattle.pb_check.specs.declared.verdict.CheckFault.TheVariants.{Refused, Limit}
use Rattle.pb_check.specs.Faults.{of_cnf, of_step, misplaced_line, miscounted_line}

abbrev pub Answer : Type 0
Answer = Result Verdict CheckFault

-- the loaded constraints, over the problem's variables, and how many variables the CNF has
pub record Task : Type 0 where
  pub original : ℕ
  pub vars : ℕ
  pub loaded : List Constraint

-- what is to come: the head line; the number of constraints; steps over a database; or nothing more
pub data Stage : Type 0 where
  head_wanted : Stage
  count_wanted : Stage
  at_steps : Database → Stage
  ended : Stage

-- how many clauses are to come, and what is left of the CNF
pub record Clauses : Type 0 where
  pub left : ℕ
  pub symbols : List CnfSymbol

-- what a line asks: to go on; to stop with an answer; or to test a step, with the next clause, and to go on with what is then left of the CNF
pub data Turn : Type 0 where
  go : Stage → Clauses → Turn
  stop : Answer → Turn
  test : Database → Step → Option (List Lit) → Clauses → Turn

-- a line that is read, but does not stand in its place
abbrev pub misplaced : ℕ → List ℕ → Expected → Turn
misplaced number line e = stop (Err (misplaced_line number line e))

-- ---- lines

-- the next clause is read before the step is tested
abbrev pub at_out : Database → ℕ → Clauses → Next → Turn
at_out db id clauses (clause ls rest) = test db (Out id) (Some ls) (record { left = clauses.left - 1; symbols = rest })
at_out db id clauses nothing = test db (Out id) None clauses
at_out db id clauses (refused fault) = stop (Err (of_cnf fault))

-- no clause may be left
abbrev pub at_end : ℕ → Clauses → Next → Turn
at_end number clauses (clause ls rest) = stop (Ok (Rejected number ClausesLeft))
at_end number clauses nothing = go ended clauses
at_end number clauses (refused fault) = stop (Err (of_cnf fault))

-- what the CNF gives next
abbrev pub next_in : Task → Clauses → Next
next_in task clauses = next_of task.vars clauses.left clauses.symbols

-- by what is to come. A number of constraints is as many as there are; an empty line or a comment asks for nothing.
abbrev pub turn_by : Task → Stage → Clauses → ℕ → List ℕ → Step → Turn
turn_by task stage clauses number line Blank = go stage clauses
turn_by task head_wanted clauses number line Head = go count_wanted clauses
turn_by task head_wanted clauses number line _ = misplaced number line expected.Head
turn_by task count_wanted clauses number line (Loaded count) =
    if count == length task.loaded then go (at_steps (loaded_database task.original task.vars task.loaded)) clauses
    else stop (Err (miscounted_line number line))
turn_by task count_wanted clauses number line _ = misplaced number line expected.Loaded
turn_by task (at_steps db) clauses number line Head = misplaced number line expected.StepWord
turn_by task (at_steps db) clauses number line (Loaded count) = misplaced number line expected.StepWord
turn_by task (at_steps db) clauses number line (Out id) = at_out db id clauses (next_in task clauses)
turn_by task (at_steps db) clauses number line End = at_end number clauses (next_in task clauses)
turn_by task (at_steps db) clauses number line step = test db step None clauses
turn_by task ended clauses number line _ = misplaced number line expected.DerivationEnd

-- a line is read by itself first
abbrev pub read_turn : Task → Stage → Clauses → ℕ → List ℕ → Result Step StepFault → Turn
read_turn task stage clauses number line (Ok step) = turn_by task stage clauses number line step
read_turn task stage clauses number line (Err fault) = stop (Err (of_step number fault))

-- the text ends on the line of a number
abbrev pub last_turn : Stage → ℕ → Turn
last_turn ended number = stop (Ok Accepted)
last_turn _ number = stop (Err (Refused Proof (line_start number) expected.StepWord))

-- what a line of the derivation asks, where that is to come; no rule is tested here
abbrev pub turn_of : Task → Stage → Clauses → CnfRow → Turn
turn_of task stage clauses (plain number line) = read_turn task stage clauses number line (step_of line)
turn_of task stage clauses (too_long number which) = stop (Err (Limit Proof (limit_place which (line_start number)) which))
turn_of task stage clauses (last number) = last_turn stage number
