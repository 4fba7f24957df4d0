use Rattle.std.proofs.Common.{◌≡◌, ◌++◌, ◌^◌, ◌-ℤ◌, ℕ, List, [], pos, refl, sym, ap}
use Rattle.std.specs.Prelude.{map}
use Rattle.pb_base.specs.declared.problem.Problem.{Problem}
use Rattle.pb_norm.specs.Constraints.{Constraint}
use Rattle.pb_norm.specs.Reduction.{opposite}
use Rattle.pb_family.specs.Sinks.{SinkState, Takes}
use Rattle.pb_family.specs.declared.sink.SinkFault.TheVariants as fault
use Rattle.pb_base.specs.declared.options.Options.{Options}
use Rattle.pb_dimacs.specs.WcnfText.{hard_text, offset_text, softs_text, wcnf_text}
use Rattle.pb_encode.specs.Clauses.{problem_clauses}
use Rattle.pb_encode.specs.Costs.{objective_form}
use Rattle.pb_encode.specs.Weighted.{weighted_text}
use Rattle.pb_encode.proofs.Pieces.{Sending, sending_ends, sending_from, sending_last, sending_step, sending_stops, sending_stops_last}
use Rattle.pb_encode.proofs.weighing.hand_weighted.Goals as goal

-- the lines by the normal form of what reaches 2 ^ 100
abbrev head_of : Constraint → List ℕ
head_of form = offset_text (pos (2 ^ 100) -ℤ pos form.degree)

abbrev tail_of : Constraint → List ℕ
tail_of form = softs_text (map opposite form.terms)

-- they are handed over one kind after another
module _ {R : Type 0} (o : Options) (p : Problem) (form : Constraint) (is : form ≡ objective_form p) (a : SinkState R) where
  starts : Sending (weighted_text o p) (head_of form ++ (hard_text (problem_clauses o p) ++ tail_of form)) a a
  starts = sending_from a (ap (λ (c : Constraint). wcnf_text (pos (2 ^ 100) -ℤ pos c.degree) (problem_clauses o p) (map opposite c.terms)) (sym is))

  begun : (b : SinkState R) → Takes (head_of form) a b → Sending (weighted_text o p) (hard_text (problem_clauses o p) ++ tail_of form) a b
  begun b taken = sending_step (head_of form) (hard_text (problem_clauses o p) ++ tail_of form) b refl starts taken

  hards : (b c : SinkState R) → Takes (head_of form) a b → Takes (hard_text (problem_clauses o p)) b c → Sending (weighted_text o p) (tail_of form) a c
  hards b c taken more = sending_step (hard_text (problem_clauses o p)) (tail_of form) c refl (begun b taken) more

  whole : (b c d : SinkState R) → Takes (head_of form) a b → Takes (hard_text (problem_clauses o p)) b c → Takes (tail_of form) c d → Sending (weighted_text o p) [] a d
  whole b c d taken more last = sending_last (tail_of form) d (hards b c taken more) last

pub returns-in_err-send_offset : goal.returns-in_err-send_offset
returns-in_err-send_offset g c =
    let form = c.args.of.now.objective in
    sending_stops c.from_residual.result fault.Failed (head_of form) (hard_text (problem_clauses c.args.of.now.input.options.now c.args.of.now.input.problem.now) ++ tail_of form) _ refl c.from_residual.ensures.1
    (starts c.args.of.now.input.options.now c.args.of.now.input.problem.now form c.args.of.now.objective_is _) c.in_err-send_offset.ensures

pub returns-in_err-hand_told_clauses : goal.returns-in_err-hand_told_clauses
returns-in_err-hand_told_clauses g c =
    let form = c.args.of.now.objective in
    sending_stops c.from_residual-in_err-hand_told_clauses.result c.in_err-hand_told_clauses.field-0.0 (hard_text (problem_clauses c.args.of.now.input.options.now c.args.of.now.input.problem.now)) (tail_of form) _ refl c.from_residual-in_err-hand_told_clauses.ensures.1
    (begun c.args.of.now.input.options.now c.args.of.now.input.problem.now form c.args.of.now.objective_is _ _ c.in_ok-send_offset.ensures) c.in_err-hand_told_clauses.ensures

pub returns-in_err-send_softs : goal.returns-in_err-send_softs
returns-in_err-send_softs g c =
    sending_stops_last c.from_residual-in_err-send_softs.result fault.Failed _ c.from_residual-in_err-send_softs.ensures.1
    (hards c.args.of.now.input.options.now c.args.of.now.input.problem.now c.args.of.now.objective c.args.of.now.objective_is _ _ _ c.in_ok-send_offset.ensures c.in_ok-hand_told_clauses.ensures) c.in_err-send_softs.ensures

pub returns : goal.returns
returns g c =
    sending_ends (whole c.args.of.now.input.options.now c.args.of.now.input.problem.now c.args.of.now.objective c.args.of.now.objective_is _ _ _ _ c.in_ok-send_offset.ensures c.in_ok-hand_told_clauses.ensures c.in_ok-send_softs.ensures)
