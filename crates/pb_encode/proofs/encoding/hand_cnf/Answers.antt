use Rattle.std.proofs.Common.{◌≡◌, ◌++◌, ◌∙◌, ℕ, List, length, refl, sym, ap}
use Rattle.pb_base.specs.declared.problem.Problem.{Problem}
use Rattle.pb_base.specs.Problems.{IsWithinLimits}
use Rattle.pb_family.specs.ClauseText.{clauses_text}
use Rattle.pb_family.specs.Sinks.{SinkState, Takes}
use Rattle.pb_family.specs.declared.sink.SinkFault.TheVariants as fault
use Rattle.pb_base.specs.declared.options.Options.{Options}
use Rattle.pb_dimacs.specs.CnfText.{header_text}
use Rattle.pb_encode.specs.declared.summary.Summary.{Summary}
use Rattle.pb_encode.specs.Clauses.{problem_clauses, problem_vars}
use Rattle.pb_encode.specs.Encodings.{problem_text}
use Rattle.pb_encode.specs.Summaries.{summary_of}
use Rattle.pb_encode.proofs.Pieces.{Sending, lines_handed, sending_from, sending_hands, sending_step, sending_stops}
use Rattle.pb_encode.proofs.Solutions.{clauses-count}
use Rattle.pb_encode.proofs.encoding.hand_cnf.Goals as goal

head_is : (o : Options) (p : Problem) (s : Summary) → IsWithinLimits p → s ≡ summary_of o p → header_text s.vars s.clauses ≡ header_text (problem_vars o p) (length (problem_clauses o p))
head_is o p s within is = ap (λ (t : Summary). header_text t.vars t.clauses) is ∙ ap (header_text (problem_vars o p)) (sym (clauses-count o p within))

-- the p line and the clauses' lines, as they are handed over
module _ {R : Type 0} (o : Options) (p : Problem) (s : Summary) (within : IsWithinLimits p) (is : s ≡ summary_of o p) (a : SinkState R) where
  starts : Sending (problem_text o p) (header_text s.vars s.clauses ++ clauses_text (problem_clauses o p)) a a
  starts = sending_from a (ap (λ (head : List ℕ). head ++ clauses_text (problem_clauses o p)) (sym (head_is o p s within is)))

  begun : (b : SinkState R) → Takes (header_text s.vars s.clauses) a b → Sending (problem_text o p) (clauses_text (problem_clauses o p)) a b
  begun b taken = sending_step (header_text s.vars s.clauses) (clauses_text (problem_clauses o p)) b refl starts taken

pub returns-in_err-header : goal.returns-in_err-header
returns-in_err-header g c =
    let s = c.args.of.now.summary in
    sending_stops c.from_residual.result fault.Failed (header_text s.vars s.clauses) (clauses_text (problem_clauses c.args.of.now.input.options.now c.args.of.now.input.problem.now)) _ refl c.from_residual.ensures.1
    (starts c.args.of.now.input.options.now c.args.of.now.input.problem.now s c.args.of.now.input.within c.args.of.now.summary_is _) c.in_err-header.ensures

pub returns : goal.returns
returns g c =
    sending_hands c.hand_told_clauses.result _ (begun c.args.of.now.input.options.now c.args.of.now.input.problem.now c.args.of.now.summary c.args.of.now.input.within c.args.of.now.summary_is _ _ c.in_ok-header.ensures)
    (lines_handed (problem_clauses c.args.of.now.input.options.now c.args.of.now.input.problem.now) c.hand_told_clauses.result _ _ c.hand_told_clauses.ensures)
