-- The derivations of problems, which are the encoder's choice. Our own.
use Rattle.std.specs.Prelude.{ℕ, ℤ, List, Option}
use Rattle.pb_base.specs.declared.options.Options.{Options}
use Rattle.pb_base.specs.declared.problem.Problem.{Problem}
use Rattle.pb_check.specs.Walk.{Accepts}
use Rattle.pb_encode.specs.Encodings.{problem_text}
use Rattle.pb_encode.specs.Summaries.{IsEncodable}
use Rattle.pb_suite.specs.Denoted.{Denotes}

-- the bytes of one for each problem, by the options
abbrev pub Derivations : Type 0
Derivations = Options → Problem → List ℕ

-- going through the CNF and the derivation of a problem that a text denotes, and that is not too large, accepts both
abbrev pub AreAccepted : Derivations → Type 0
AreAccepted derive = (o : Options) (bound : Option ℤ) (text : List ℕ) (p : Problem) → Denotes bound text p → IsEncodable o p → Accepts p (problem_text o p) (derive o p)
