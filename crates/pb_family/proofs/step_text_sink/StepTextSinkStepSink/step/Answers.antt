use Rattle.std.proofs.Common.{ℕ, List, [], ◌∷◌, ap, sym, subst, arith, refl, ◌∙◌, append_assoc}
use Rattle.pb_steps.specs.StepText.{step_line}
use Rattle.std.specs.Prelude.{Some}
use Rattle.pb_family.specs.StepSinks.{StepState, HandsSteps, steps_in_memory}
use Rattle.pb_family.proofs.Deriving.{takes_step, steps_lack_first}
use Rattle.pb_family.proofs.step_text_sink.StepTextSinkStepSink.step.Goals as goal

pub returns-in_err-write_step-clause-hands : goal.returns-in_err-write_step-clause-hands
returns-in_err-write_step-clause-hands c =
    let old : StepState (Unit {0}) = steps_in_memory c.args.self.now.text.items c.args.self.now.next in
    subst (λ (text : List ℕ). HandsSteps (c.args.step.now ∷ []) c.from_residual.result old (steps_in_memory text c.args.self.now.next)) (sym c.in_err-write_step.ensures.err)
    (steps_lack_first (c.args.step.now ∷ []) old c.from_residual.result c.from_residual.ensures.1)

pub returns-clause-hands : goal.returns-clause-hands
returns-clause-hands c =
    takes_step c.args.step.now (steps_in_memory c.args.self.now.text.items c.args.self.now.next) (steps_in_memory c.write_step.new.out.items c.next_after-self.result) (record {
      grows = record { lines = ap Some (c.in_ok-write_step.ensures.ok ∙ append_assoc c.args.self.now.text.items (step_line c.args.step.now) (10 ∷ [])); faults = omega arith; sent = omega arith; others = refl; room = refl; lead = refl; rest = refl };
      quiet = refl;
    }) c.next_after-self.ensures
