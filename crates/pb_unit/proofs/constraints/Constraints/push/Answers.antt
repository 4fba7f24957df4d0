use Rattle.std.proofs.Common.{◌∙◌, ◌++◌, ◌∷◌, [], List, ap}
use Rattle.pb_norm.specs.Constraints.{Constraint}
use Rattle.pb_unit.specs.States.{standing}
use Rattle.pb_unit.proofs.Listing.{standing-push, whole_pushed}
use Rattle.pb_unit.proofs.constraints.Constraints.push.Goals as goal

pub invariant_of-self : goal.invariant_of-self
invariant_of-self c = whole_pushed c.push.result c.self.inside.places c.push.new.self c.args.constraint.now c.self.invariant c.degree.ensures.linear c.push.ensures

pub invariant_of-self-2 : goal.invariant_of-self-2
invariant_of-self-2 c = whole_pushed c.push.result c.self.inside.places c.push.new.self c.args.constraint.now c.self.invariant c.degree.ensures.linear c.push.ensures

pub returns-clause-ok : goal.returns-clause-ok
returns-clause-ok c =
    ap standing c.if-not-push.ensures ∙ (standing-push c.self.inside.places c.args.constraint.now ∙ ap (λ (cs : List Constraint). cs ++ c.args.constraint.now ∷ []) c.self.view_is)
