use Rattle.std.proofs.Common.{◌≡◌, take}
use Rattle.pb_norm.specs.Constraints.{weights}
use Rattle.pb_unit.specs.Index.{size_of}
use Rattle.pb_unit.specs.inner.Filling.{AddsPlace}
use Rattle.pb_unit.proofs.filling.enter_terms.Given as goal

abbrev pub invariant-loop-term : goal.invariant-loop-term
invariant-loop-term l = record {
  size : size_of l.lists ≡ size_of l.initial.lists;
  added : AddsPlace l.codes.low l.codes.high l.place (weights (take l.term-index l.terms)) l.initial.lists l.lists;
}
