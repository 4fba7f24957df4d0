use Rattle.std.proofs.Common.{◌∙◌, Some, List, ap, map, subst}
use Rattle.std.specs.Prelude.{All}
use Rattle.pb_norm.specs.Constraints.{Constraint, IsLinear}
use Rattle.pb_unit.proofs.constraints.Constraints.places.Goals as goal

pub returns-clause-places : goal.returns-clause-places
returns-clause-places c = c.self.invariant.stand ∙ ap (λ (cs : List Constraint). map (λ (d : Constraint). Some d) cs) c.self.view_is

pub returns-clause-linear : goal.returns-clause-linear
returns-clause-linear c = subst (All IsLinear) c.self.view_is c.self.invariant.linear
