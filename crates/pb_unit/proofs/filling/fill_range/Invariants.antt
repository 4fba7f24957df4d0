use Rattle.std.proofs.Common.{◌≡◌, take, map}
use Rattle.pb_unit.specs.Index.{size_of}
use Rattle.pb_unit.specs.inner.Slots.{slot_at}
use Rattle.pb_unit.specs.inner.Filling.{terms_in, IsFilling}
use Rattle.pb_unit.proofs.filling.fill_range.Given as goal

abbrev pub invariant-loop-place : goal.invariant-loop-place
invariant-loop-place l = record {
  size : size_of l.lists ≡ size_of l.initial.lists;
  filling : IsFilling l.codes.low l.codes.high l.initial.lists l.lists (map terms_in (map (slot_at l.lits) (take l.place l.slots)));
}
