-- Constraints in little memory.
use Rattle.pb_norm.specs.Constraints.{Constraint}
use Rattle.pb_database.specs.declared.packed.Form.{Form}
use Rattle.pb_database.specs.declared.packed.Form.TheVariants.{Two, Three, Four, Sum, Other}
use Rattle.pb_database.specs.inner.Units.{clause_of}

abbrev pub constraint_in : Form → Constraint
constraint_in (Two lits) = clause_of lits
constraint_in (Three lits) = clause_of lits
constraint_in (Four lits) = clause_of lits
constraint_in (Sum sum) = sum.value
constraint_in (Other alone) = alone.value
