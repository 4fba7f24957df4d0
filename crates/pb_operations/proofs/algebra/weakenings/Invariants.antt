use Rattle.std.proofs.Common.{◌≡◌, drop}
use Rattle.pb_norm.specs.Constraints.{weights, AreUnsigned, IsAscending}
use Rattle.pb_operations.specs.Weakenings.{weakened}
use Rattle.pb_operations.proofs.Zeroed.{counted}
use Rattle.pb_operations.proofs.algebra.weakenings.Given as goal

abbrev pub invariant-loop-op : goal.invariant-loop-op
invariant-loop-op l = record {
  same : weakened l.ops l.fn.constraint ≡ weakened (drop l.op-index l.ops) (counted (weights l.terms.items) l.degree);
  ascending : IsAscending (weights l.terms.items);
  unsigned : AreUnsigned l.terms.items;
}
