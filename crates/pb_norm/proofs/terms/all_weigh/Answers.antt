use Rattle.std.proofs.Common.{◌∙◌, ◌==◌}
use Rattle.pb_norm.proofs.KeptTerms.{all-weights}
use Rattle.pb_norm.proofs.terms.all_weigh.Goals as goal

pub returns : goal.returns
returns c = c.each_weighs.ensures ∙ all-weights (λ t. t.coef == c.args.coef) c.args.terms.now
