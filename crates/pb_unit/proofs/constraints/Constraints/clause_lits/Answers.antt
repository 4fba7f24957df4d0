use Rattle.std.proofs.Common.{◌≤◌, List, subst}
use Rattle.pb_norm.specs.Constraints.{Constraint}
use Rattle.pb_unit.specs.Reads.{lit_count}
use Rattle.pb_unit.proofs.constraints.Constraints.clause_lits.Goals as goal

pub returns : goal.returns
returns c = subst (λ (cs : List Constraint). c.clause_lits.result ≤ lit_count cs) c.self.view_is c.clause_lits.ensures
