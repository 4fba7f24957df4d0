use Rattle.std.proofs.Common.{◌∙◌, ap, sym, arith}
use Rattle.pb_base.specs.Literals.{negated}
use Rattle.pb_family.proofs.TermSlices.{literal_of_term}
use Rattle.pb_amo.proofs.rungs.Rungs.not_at.Goals as goal

pub returns : goal.returns
returns c = c.not.ensures ∙ ap negated (sym (literal_of_term c.args.self.now.terms.now c.args.place _ (omega (arith, c.requires))))
