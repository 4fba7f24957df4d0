use Rattle.std.proofs.Common.{List, subst}
use Rattle.std.specs.Prelude.{All}
use Rattle.pb_norm.specs.Constraints.{Constraint}
use Rattle.pb_unit.specs.Reaching.{IsUpTo, OfConstraint}
use Rattle.pb_unit.proofs.constraints.Constraints.greatest.Goals as goal

pub returns-clause-within : goal.returns-clause-within
returns-clause-within c = subst (λ (cs : List Constraint). All (OfConstraint (IsUpTo c.greatest.result)) cs) c.self.view_is c.greatest.ensures.within
