-- What the calls over an OPB text answer. Our own.
use Rattle.std.specs.Prelude.{ℕ, ℤ, ◌≡◌, List, flat_map, length, Option, Some}
use Rattle.pb_base.specs.declared.problem.Problem.{Problem}
use Rattle.pb_check.specs.Walk.{Accepts}
use Rattle.pb_base.specs.declared.options.Options.{Options}
use Rattle.pb_dimacs.specs.CnfReading.{clause_numbers}
use Rattle.pb_encode.specs.Clauses.{problem_clauses}
use Rattle.pb_encode.specs.Encodings.{derivation_text, problem_text}
use Rattle.pb_suite.specs.declared.outcome.Outcome.{Outcome}
use Rattle.pb_suite.specs.Headline.{IsEncoding}
use Rattle.pb_suite.specs.Denoted.{Denotes}
use Rattle.pbcnf_c.specs.declared.options.PbcnfOptions.{PbcnfOptions}
use Rattle.pbcnf_c.specs.declared.size.PbcnfSize.{PbcnfSize}
use Rattle.pbcnf_c.specs.Choices.{options_of}
use Rattle.pbcnf_c.specs.Ready.{StopsEncoding}
use Rattle.pbcnf_c.specs.Rooms.{Ends}
use Rattle.pbcnf_c.specs.Sizes.{no_size, problem_size}

-- The bytes encode the OPB text, under the options that the numbers choose, byte for byte as `encode` writes it.
pub record IsCnf (chosen : PbcnfOptions) (bound : Option ℤ) (text cnf : List ℕ) (size : PbcnfSize) : Type 0 where
  pub options : Options
  pub chosen_are : options_of chosen ≡ Some options
  pub encoding : IsEncoding options bound text cnf
  pub exact : cnf ≡ problem_text options encoding.problem
  pub size_is : size ≡ problem_size options encoding.problem (length cnf)

-- The integers are those of the clauses of an encoding of the text: the literals of each, and 0.
pub record AreClauses (chosen : PbcnfOptions) (bound : Option ℤ) (text : List ℕ) (integers : List ℤ) (size : PbcnfSize) : Type 0 where
  pub options : Options
  pub cnf : List ℕ
  pub chosen_are : options_of chosen ≡ Some options
  pub encoding : IsEncoding options bound text cnf
  pub exact : encoding.clauses ≡ problem_clauses options encoding.problem
  pub integers_are : integers ≡ flat_map clause_numbers encoding.clauses
  pub size_is : size ≡ problem_size options encoding.problem (length integers)

-- The bytes are a derivation, byte for byte as `encode` writes it, which is accepted for the problem that the text denotes beside its CNF.
pub record IsDerivation (chosen : PbcnfOptions) (bound : Option ℤ) (text proof : List ℕ) (size : PbcnfSize) : Type 0 where
  pub options : Options
  pub problem : Problem
  pub chosen_are : options_of chosen ≡ Some options
  pub denotes : Denotes bound text problem
  pub accepted : Accepts problem (problem_text options problem) proof
  pub exact : proof ≡ derivation_text options problem
  pub size_is : size ≡ problem_size options problem (length proof)

-- An encoding of the text is put, or its size told, or why there is none.
abbrev pub EncodesInto : PbcnfOptions → Option ℤ → List ℕ → List ℕ → List ℕ → PbcnfSize → Outcome → Type 0
EncodesInto chosen bound text old new size answer = Ends (IsCnf chosen bound text) (StopsEncoding chosen bound text) no_size old new size answer

-- so it is of its clauses
abbrev pub HandsInto : PbcnfOptions → Option ℤ → List ℕ → List ℤ → List ℤ → PbcnfSize → Outcome → Type 0
HandsInto chosen bound text old new size answer = Ends (AreClauses chosen bound text) (StopsEncoding chosen bound text) no_size old new size answer

-- and of the derivation of these
abbrev pub DerivesInto : PbcnfOptions → Option ℤ → List ℕ → List ℕ → List ℕ → PbcnfSize → Outcome → Type 0
DerivesInto chosen bound text old new size answer = Ends (IsDerivation chosen bound text) (StopsEncoding chosen bound text) no_size old new size answer
