use Rattle.std.proofs.Common.{◌≡◌, pos, ◌+ℤ◌, ◌-ℤ◌, neg_ℤ, ◌≤ℤ◌, length}
use Rattle.pb_base.specs.Literals.{assigned_by}
use Rattle.pb_base.specs.Problems.{magnitude, sum_value}
use Rattle.pb_model.specs.Decoding.{AreVarsWithin}
use Rattle.pb_model.proofs.decoding.sum_left.Given as goal

abbrev pub invariant-loop-term : goal.invariant-loop-term
invariant-loop-term l = record {
  vars : AreVarsWithin (length l.values) l.term-iterator;
  high : (l.sum +ℤ pos (magnitude l.term-iterator)) ≤ℤ pos (magnitude l.fn.terms);
  low : neg_ℤ (pos (magnitude l.fn.terms)) ≤ℤ (l.sum -ℤ pos (magnitude l.term-iterator));
  whole : l.sum +ℤ sum_value (assigned_by l.values) l.term-iterator ≡ sum_value (assigned_by l.values) l.fn.terms;
}
