use Rattle.std.proofs.Common.{◌≡◌, take}
use Rattle.pb_base.specs.Literals.{assigned_by}
use Rattle.pb_base.specs.Problems.{sum_value}
use Rattle.pb_model.proofs.decoding.sum_of.Given as goal

abbrev pub invariant-loop-term : goal.invariant-loop-term
invariant-loop-term l = l.sum ≡ sum_value (assigned_by l.values) (take l.term-index l.terms)
