use Rattle.std.proofs.Common.{◌<◌, List, length, subst, sym}
use Rattle.pb_norm.specs.Constraints.{Constraint}
use Rattle.pb_unit.specs.Reads.{IsRead}
use Rattle.pb_unit.proofs.Listing.{read_whole}
use Rattle.pb_unit.proofs.constraints.Constraints.read.Goals as goal

pub returns : goal.returns
returns c =
    subst (λ (cs : List Constraint). IsRead cs c.args.place c.read.new.terms.items c.in_ok-degree.degree) c.self.view_is
    (read_whole c.self.inside.places c.self.invariant c.args.place c.read.new.terms.items c.in_ok-degree.degree (subst (λ (cs : List Constraint). c.args.place < length cs) (sym c.self.view_is) c.requires) c.in_ok-degree.ensures)
