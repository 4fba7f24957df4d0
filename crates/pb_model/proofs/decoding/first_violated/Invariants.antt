use Rattle.std.proofs.Common.{◌≡◌, ◌^◌, ◌++◌, List, All, length}
use Rattle.pb_base.specs.declared.problem.Raw.{Raw}
use Rattle.pb_base.specs.Literals.{assigned_by}
use Rattle.pb_base.specs.Problems.{Satisfies, StaysBelow}
use Rattle.pb_model.specs.Decoding.{AreVarsWithin}
use Rattle.pb_model.proofs.decoding.first_violated.Given as goal

abbrev pub invariant-loop-statement : goal.invariant-loop-statement
invariant-loop-statement l = record {
  vars : All (λ s. AreVarsWithin (length l.values) s.terms) l.statement-iterator;
  numbers : All (StaysBelow (2 ^ 100)) l.statement-iterator;
  before : (passed : List Raw) × ((l.statements ≡ passed ++ l.statement-iterator) × ((l.place ≡ length passed) × All (Satisfies (assigned_by l.values)) passed));
}
