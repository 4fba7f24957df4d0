-- What the call that makes a weighted CNF answers. Our own.
use Rattle.std.specs.Prelude.{ℕ, ℤ, ◌≡◌, List, length, Option, Some}
use Rattle.pb_base.specs.declared.options.Options.{Options}
use Rattle.pb_suite.specs.declared.outcome.Outcome.{Outcome}
use Rattle.pb_suite.specs.Headline.{IsWeighing}
use Rattle.pbcnf_c.specs.declared.options.PbcnfOptions.{PbcnfOptions}
use Rattle.pbcnf_c.specs.declared.size.PbcnfSize.{PbcnfSize}
use Rattle.pbcnf_c.specs.Choices.{options_of}
use Rattle.pbcnf_c.specs.Ready.{StopsEncoding}
use Rattle.pbcnf_c.specs.Rooms.{Ends}
use Rattle.pbcnf_c.specs.Sizes.{no_size, problem_size}

-- The bytes are the weighted CNF text of the OPB text, under the options that the numbers choose, byte for byte as `wcnf` writes it. The size counts hard clauses.
pub record IsWcnf (chosen : PbcnfOptions) (bound : Option ℤ) (text wcnf : List ℕ) (size : PbcnfSize) : Type 0 where
  pub options : Options
  pub chosen_are : options_of chosen ≡ Some options
  pub weighing : IsWeighing options bound text wcnf
  pub size_is : size ≡ problem_size options weighing.problem (length wcnf)

-- It is put, or its size told, or why there is none.
abbrev pub WeighsInto : PbcnfOptions → Option ℤ → List ℕ → List ℕ → List ℕ → PbcnfSize → Outcome → Type 0
WeighsInto chosen bound text old new size answer = Ends (IsWcnf chosen bound text) (StopsEncoding chosen bound text) no_size old new size answer
