-- A command that accepted its texts has a CNF that keeps the solutions.
use Rattle.std.proofs.Common.{◌≡◌, Ok}
use Rattle.pb_desk.specs.Desk.{DeskState, IfTold}
use Rattle.pb_check.specs.declared.verdict.Verdict.TheVariants.{Accepted}
use Rattle.pb_check.proofs.Extending.{accepted_cnf_extends}
use Rattle.pb_words.specs.CheckWords.{CheckWords}
use Rattle.pb_suite.specs.declared.outcome.Outcome.{Outcome}
use Rattle.pb_suite.specs.declared.outcome.Outcome.TheVariants as outcome
use Rattle.pb_suite.specs.Headline.{IsExtended}
use Rattle.pb_suite.specs.Implementing.{Implements}
use Rattle.pb_suite.specs.CommandSpec.{Shelf}
use Rattle.pb_suite.specs.CheckSpec.{check_spec, IsJudged}
use Rattle.pb_suite.proofs.DenotedProblems.{denotes_within}
use Rattle.pb_suite.proofs.Dones.{done_so}

extended : (w : CheckWords) (shelf : Shelf) → IsJudged shelf w (Ok Accepted) → IsExtended w shelf
extended w shelf judged = record {
  problem = judged.problem;
  cnf = judged.cnf;
  denoted = judged.denoted;
  has_cnf = judged.has_cnf;
  extends = accepted_cnf_extends judged.problem judged.cnf judged.proof (denotes_within w.bound judged.denoted.text judged.problem judged.denoted.denotes).products judged.judged;
}

pub obeyed_extends : (w : CheckWords) (a b : DeskState) (answer : Outcome) → answer ≡ outcome.Done → Implements (check_spec w) a b answer → IfTold a (λ t. IsExtended w t.shelf)
obeyed_extends w a b = done_so (check_spec w) a b (λ t. IsExtended w t.shelf) (λ t out due. extended w t.shelf due.0)
