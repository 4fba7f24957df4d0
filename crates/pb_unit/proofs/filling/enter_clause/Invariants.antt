use Rattle.std.proofs.Common.{◌≡◌, take, map}
use Rattle.pb_unit.specs.inner.Slots.{unit}
use Rattle.pb_unit.specs.Index.{size_of}
use Rattle.pb_unit.specs.inner.Filling.{AddsPlace}
use Rattle.pb_unit.proofs.filling.enter_clause.Given as goal

abbrev pub invariant-loop-lit : goal.invariant-loop-lit
invariant-loop-lit l = record {
  size : size_of l.lists ≡ size_of l.initial.lists;
  added : AddsPlace l.codes.low l.codes.high l.place (map unit (take l.lit-index l.lits)) l.initial.lists l.lists;
}
