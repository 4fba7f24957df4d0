-- What the call over the table of bounds answers. Our own.
use Rattle.std.specs.Prelude.{ℕ, ℤ, pos, true, false, ◌≡◌, List, [], ◌++◌, length, map, Option, Some}
use Rattle.pb_base.specs.declared.literal.Lit.{Lit}
use Rattle.pb_base.specs.declared.options.Options.{Options}
use Rattle.pb_dimacs.specs.CnfReading.{literal_number}
use Rattle.pb_encode.specs.BoundLines.{bounds_text, words_of}
use Rattle.pb_encode.specs.Bounds.{TellBounds}
use Rattle.pb_encode.specs.Encodings.{problem_text}
use Rattle.pb_encode.specs.Summaries.{summary_of, summary_text}
use Rattle.pb_suite.specs.declared.outcome.Outcome.{Outcome}
use Rattle.pb_suite.specs.Headline.{IsEncoding}
use Rattle.pbcnf_c.specs.declared.bounds.PbcnfRow.{PbcnfRow}
use Rattle.pbcnf_c.specs.declared.options.PbcnfOptions.{PbcnfOptions}
use Rattle.pbcnf_c.specs.declared.size.PbcnfSize.{PbcnfSize}
use Rattle.pbcnf_c.specs.Choices.{options_of}
use Rattle.pbcnf_c.specs.Ready.{StopsEncoding}
use Rattle.pbcnf_c.specs.Rooms.{Ends}
use Rattle.pbcnf_c.specs.Sizes.{no_size, problem_size}
use Rattle.pb_columns.specs.Words.{wide}

-- ---- rows in numbers

-- the value that a row tells, the number of its literal, and what stands behind them
abbrev pub told_by : PbcnfRow → ℤ × ℤ × ℤ
told_by r = (wide r.low r.high, r.literal, r.unused)

-- what is told of a value and its literal
abbrev pub numbers_of : ℤ × Lit → ℤ × ℤ × ℤ
numbers_of row = (row.0, literal_number row.1, pos 0)

-- they tell these rows, in order, and no others
abbrev pub TellRows : List (ℤ × Lit) → List PbcnfRow → Type 0
TellRows rows given = map told_by given ≡ map numbers_of rows

-- ---- the call

-- What is given tells the rows that `encode` says behind the size of an encoding of the text, one for each of its lines `bound`. With a table in the options they bound the objective over the clauses of this encoding; without one there are none.
pub record AreBoundRows (chosen : PbcnfOptions) (bound : Option ℤ) (text : List ℕ) (given : List PbcnfRow) (size : PbcnfSize) : Type 0 where
  pub options : Options
  pub cnf : List ℕ
  pub rows : List (ℤ × Lit)
  pub chosen_are : options_of chosen ≡ Some options
  pub encoding : IsEncoding options bound text cnf
  pub exact : cnf ≡ problem_text options encoding.problem
  pub said : words_of options encoding.problem ≡ summary_text (summary_of options encoding.problem) ++ bounds_text rows
  pub told : TellRows rows given
  pub bounds : options.table ≡ true → TellBounds encoding.problem encoding.vars encoding.clauses rows
  pub none : options.table ≡ false → given ≡ []
  pub size_is : size ≡ problem_size options encoding.problem (length given)

-- The rows are put, or their number told, or why there are none.
abbrev pub BoundsInto : PbcnfOptions → Option ℤ → List ℕ → List PbcnfRow → List PbcnfRow → PbcnfSize → Outcome → Type 0
BoundsInto chosen bound text old new size answer = Ends (AreBoundRows chosen bound text) (StopsEncoding chosen bound text) no_size old new size answer
