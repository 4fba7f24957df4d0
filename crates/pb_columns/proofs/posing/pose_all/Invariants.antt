use Rattle.std.proofs.Common.{◌≡◌, ◌^◌, ◌++◌, All, List, length, take}
use Rattle.pb_base.specs.declared.problem.Raw.{Raw}
use Rattle.pb_base.specs.Problems.{StaysBelow}
use Rattle.pb_columns.specs.Columns.{conditions_in}
use Rattle.pb_columns.specs.Conditions.{posed}
use Rattle.pb_columns.proofs.posing.pose_all.Given as goal

abbrev pub invariant-loop-place : goal.invariant-loop-place
invariant-loop-place l = record {
  light : All (StaysBelow (2 ^ 100)) l.left;
  passed : (before : List Raw) × ((l.statements ≡ before ++ l.left) × ((length before ≡ l.place) × (l.posed ≡ posed (conditions_in (take l.place l.sums)) before)));
}
