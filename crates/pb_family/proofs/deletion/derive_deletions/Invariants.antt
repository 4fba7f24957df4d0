use Rattle.std.proofs.Common.{◌+◌, ◌*◌, [], ◌∷◌}
use Rattle.std.specs.List.{range_with_len}
use Rattle.pb_steps.specs.declared.step.Step.TheVariants.{Del}
use Rattle.pb_family.proofs.Looping.{Looping}
use Rattle.pb_family.proofs.deletion.derive_deletions.Given as goal

abbrev pub invariant-loop-k : goal.invariant-loop-k
invariant-loop-k g l = Looping (λ next k. Del (range_with_len (l.id + l.width * k) l.width) ∷ []) 0 l.count l.k (g.T.StepSink.state l.fn.sink) (g.T.StepSink.state l.sink)
