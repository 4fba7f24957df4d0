use Rattle.std.proofs.Common.{◌≡◌, ◌≤◌, ◌+◌, ◌^◌, ◌∷◌, [], length, take}
use Rattle.std.specs.Prelude.{All}
use Rattle.pb_base.specs.Literals.{negated}
use Rattle.pb_adder.specs.Comparator.{covering, end_needs}
use Rattle.pb_adder.specs.Gates.{wire_lit}
use Rattle.pb_adder.proofs.RowSteps.{clauses_with}
use Rattle.pb_adder.proofs.comparator.row_of.Given as goal

abbrev pub invariant-loop-end : goal.invariant-loop-end
invariant-loop-end l = record {
  clauses : clauses_with l.first (take l.len l.lits) (covering l.bound l.rest) ≡ clauses_with l.first (negated (wire_lit l.first l.wire) ∷ []) (covering l.fn.bound l.above);
  room : l.len + length l.rest ≤ 128;
  whole : length l.lits ≡ 128;
  fits : All (λ e. l.first + end_needs e ≤ 2 ^ 31) l.rest;
}

abbrev pub decreases-loop-end : goal.decreases-loop-end
decreases-loop-end l = length l.rest
