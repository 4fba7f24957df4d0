use Rattle.std.proofs.Common.{◌+◌, ◌*◌, ◌++◌, [], ◌∷◌, List}
use Rattle.std.specs.List.{range_with_len}
use Rattle.pb_steps.specs.declared.step.Step.{Step}
use Rattle.pb_steps.specs.declared.step.Step.TheVariants.{Out, Del}
use Rattle.pb_family.proofs.Deriving.{deriving_starts, deriving_step, steps_fault, steps_last}
use Rattle.pb_counter.specs.CounterRows.{stop_line}
use Rattle.pb_counter.proofs.last.derive_last.Goals as goal

pub returns-in_err-derive_last_clause : goal.returns-in_err-derive_last_clause
returns-in_err-derive_last_clause g c =
    let a = c.args in
    let old = g.T.StepSink.state a.sink.now in
    let line : Step = stop_line a.last (a.order + a.last) a.whole in
    let gone : Step = Del (range_with_len a.order (2 * a.last + 1) ++ a.others.now) in
    let all : List Step = line ∷ Out old.next ∷ gone ∷ [] in
    steps_fault {all = all} c.from_residual.result _ (line ∷ Out old.next ∷ []) (gone ∷ []) _ c.from_residual.ensures.1 (deriving_starts all old) c.in_err-derive_last_clause.ensures

pub returns : goal.returns
returns g c =
    let a = c.args in
    let old = g.T.StepSink.state a.sink.now in
    let line : Step = stop_line a.last (a.order + a.last) a.whole in
    let gone : Step = Del (range_with_len a.order (2 * a.last + 1) ++ a.others.now) in
    let all : List Step = line ∷ Out old.next ∷ gone ∷ [] in
    steps_last {all = all} c.derive_held_deleted.result (gone ∷ []) _ (deriving_step {left = gone ∷ []} (line ∷ Out old.next ∷ []) _ (deriving_starts all old) c.in_ok-derive_last_clause.ensures) c.derive_held_deleted.ensures
