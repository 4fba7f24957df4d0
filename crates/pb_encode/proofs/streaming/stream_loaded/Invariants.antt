use Rattle.std.proofs.Common.{◌+◌, length}
use Rattle.pb_base.specs.Problems.{originals}
use Rattle.pb_encode.specs.Groups.{groups_of}
use Rattle.pb_encode.specs.inner.Hints.{AreHintsOf}
use Rattle.pb_encode.proofs.Hinting.{Gone}
use Rattle.pb_encode.proofs.StreamSteps.{Streams}
use Rattle.pb_encode.proofs.streaming.stream_loaded.Given as goal

abbrev pub invariant-loop-groups : goal.invariant-loop-groups
invariant-loop-groups g l = record {
  streams : Streams l.input.options.now (originals l.input.problem.now + 1) (groups_of l.input.problem.now) l.groups l.next (g.S.ClauseSink.state l.initial.sink) (g.S.ClauseSink.state l.sink);
  gone : Gone (groups_of l.input.problem.now) l.groups l.hints.place;
  told : AreHintsOf l.input.options.now (groups_of l.input.problem.now) l.hints.hints.now;
}

abbrev pub decreases-loop-groups : goal.decreases-loop-groups
decreases-loop-groups g l = length l.groups
