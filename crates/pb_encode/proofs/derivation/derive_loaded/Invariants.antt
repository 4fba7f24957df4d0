use Rattle.std.proofs.Common.{◌+◌, length}
use Rattle.pb_base.specs.Problems.{originals}
use Rattle.pb_encode.specs.Groups.{groups_of}
use Rattle.pb_encode.specs.inner.Hints.{AreHintsOf}
use Rattle.pb_encode.proofs.Hinting.{Gone}
use Rattle.pb_encode.proofs.StepPositions.{Positions}
use Rattle.pb_encode.proofs.derivation.derive_loaded.Given as goal

-- the fields of the position stand apart there: its first variable, and then its id
abbrev pub invariant-loop-groups : goal.invariant-loop-groups
invariant-loop-groups g l = record {
  turns : Positions l.input.options.now (originals l.input.problem.now + 1) 1 (groups_of l.input.problem.now) l.groups l.next.0 l.next.1.0 (g.T.StepSink.state l.initial.sink) (g.T.StepSink.state l.sink);
  gone : Gone (groups_of l.input.problem.now) l.groups l.hints.place;
  told : AreHintsOf l.input.options.now (groups_of l.input.problem.now) l.hints.hints.now;
}

abbrev pub decreases-loop-groups : goal.decreases-loop-groups
decreases-loop-groups g l = length l.groups
