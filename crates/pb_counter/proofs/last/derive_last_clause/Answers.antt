use Rattle.std.proofs.Common.{[], ◌∷◌, ℕ, List, ap}
use Rattle.pb_steps.specs.declared.step.Step.{Step}
use Rattle.pb_steps.specs.declared.step.Step.TheVariants.{Out}
use Rattle.pb_family.proofs.Deriving.{deriving_starts, deriving_step, steps_fault, steps_last, steps_same}
use Rattle.pb_counter.specs.CounterRows.{stop_line}
use Rattle.pb_counter.proofs.last.derive_last_clause.Goals as goal

pub returns-in_err-derive_stop : goal.returns-in_err-derive_stop
returns-in_err-derive_stop g c =
    let old = g.T.StepSink.state c.args.sink.now in
    let line : Step = stop_line c.args.last c.args.fronts c.args.whole in
    let all : List Step = line ∷ Out old.next ∷ [] in
    steps_fault {all = all} c.from_residual.result _ (line ∷ []) (Out old.next ∷ []) _ c.from_residual.ensures.1 (deriving_starts all old) c.in_err-derive_stop.ensures

pub returns : goal.returns
returns g c =
    let old = g.T.StepSink.state c.args.sink.now in
    let mid = g.T.StepSink.state c.derive_stop.new.sink in
    let line : Step = stop_line c.args.last c.args.fronts c.args.whole in
    let all : List Step = line ∷ Out old.next ∷ [] in
    steps_last {all = all} c.step.result (Out old.next ∷ []) _ (deriving_step {left = Out old.next ∷ []} (line ∷ []) mid (deriving_starts all old) c.in_ok-derive_stop.ensures)
    (steps_same c.step.result _ _ mid (g.T.StepSink.state c.step.new.self) (ap (λ (i : ℕ). Out i ∷ []) c.next_id-id.ensures) c.step.ensures.hands)
