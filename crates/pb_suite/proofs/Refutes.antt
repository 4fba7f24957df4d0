-- A command that refuted its texts has a problem with no solution.
use Rattle.std.proofs.Common.{◌≡◌, List, Bool, subst}
use Rattle.pb_base.specs.Literals.{assigned_by, IsModel}
use Rattle.pb_base.specs.Problems.{IsSolution}
use Rattle.pb_desk.specs.Desk.{DeskState, IfTold}
use Rattle.pb_dimacs.proofs.Unique.{says_one_thing}
use Rattle.pb_dimacs.proofs.Whole.{told_is_said}
use Rattle.pb_check.proofs.Extending.{accepted_cnf_extends}
use Rattle.pb_lrat.proofs.Meaning.{refuted_have_no_model}
use Rattle.pb_lrat.specs.LratWalk.{LratEnding as ending}
use Rattle.pb_words.specs.RefuteWords.{RefuteWords}
use Rattle.pb_suite.specs.declared.outcome.Outcome.{Outcome}
use Rattle.pb_suite.specs.declared.outcome.Outcome.TheVariants as outcome
use Rattle.pb_suite.specs.Headline.{HasNoSolution}
use Rattle.pb_suite.specs.Implementing.{Implements}
use Rattle.pb_suite.specs.CommandSpec.{Shelf}
use Rattle.pb_suite.specs.RefuteSpec.{refute_spec, IsFollowed}
use Rattle.pb_suite.proofs.DenotedProblems.{denotes_within}
use Rattle.pb_suite.proofs.Dones.{done_so}

-- a solution would extend to a model of the clauses, which have none
unsolved : (w : RefuteWords) (shelf : Shelf) (f : IsFollowed shelf w ending.refuted) (values : List Bool) → ¬ IsSolution f.accepted.judged.problem values
unsolved w shelf f values solution =
    let judged = f.accepted.judged in
    let says = f.accepted.says_all in
    let extends = accepted_cnf_extends judged.problem judged.cnf judged.proof (denotes_within w.checked.bound judged.denoted.text judged.problem judged.denoted.denotes).products judged.judged in
    let model = extends.extends values solution in
    let same = says_one_thing judged.cnf extends.vars says.head.vars extends.clauses f.clauses extends.reads (told_is_said judged.cnf says.head f.clauses says.says_all).0 in
    refuted_have_no_model f.vars f.clauses f.lrat f.ends (assigned_by model.0) (subst (IsModel (assigned_by model.0)) same.1 model.1.satisfies)

pub no_solution : (w : RefuteWords) (shelf : Shelf) → IsFollowed shelf w ending.refuted → HasNoSolution w shelf
no_solution w shelf f = record {
  problem = f.accepted.judged.problem;
  denoted = f.accepted.judged.denoted;
  none = unsolved w shelf f;
}

pub obeyed_refutes : (w : RefuteWords) (a b : DeskState) (answer : Outcome) → answer ≡ outcome.Done → Implements (refute_spec w) a b answer → IfTold a (λ t. HasNoSolution w t.shelf)
obeyed_refutes w a b = done_so (refute_spec w) a b (λ t. HasNoSolution w t.shelf) (λ t out due. no_solution w t.shelf due.0)
