use Rattle.std.proofs.Common.{◌∙◌, Some, ap, sym}
use Rattle.std.proofs.lemmas.Result.{IfOk-weaker}
use Rattle.pb_norm.specs.Constraints.{Constraint}
use Rattle.pb_rules.proofs.Fits.{pushed-top}
use Rattle.pb_rules.proofs.pol.push_at.Goals as goal

pub returns : goal.returns
returns c =
    IfOk-weaker c.push_onto.result _ _ (λ done outcome.
    pushed-top c.args.db.now.live c.args.db.now.vars c.args.id c.args.stack.now.items c.push_onto.new.stack.items c.in_ok-copy.copy done c.in-Some.ensures.sound
    (sym c.in-Some.ensures.found ∙ ap (λ (d : Constraint). Some d) (sym c.in_ok-copy.ensures)) outcome) c.push_onto.ensures
