use Rattle.std.proofs.Common.{◌≡◌, ◌++◌, List, length, take}
use Rattle.pb_base.specs.declared.problem.Raw.{Raw}
use Rattle.pb_columns.specs.Columns.{conditions_in, IsLight}
use Rattle.pb_columns.specs.Conditions.{AllUnder}
use Rattle.pb_columns.proofs.weights.first_heavy.Given as goal

abbrev pub invariant-loop-statement : goal.invariant-loop-statement
invariant-loop-statement l = (passed : List Raw) × ((l.statements ≡ passed ++ l.statement-iterator) × ((l.place ≡ length passed) × AllUnder IsLight (conditions_in (take l.place l.sums)) passed))
