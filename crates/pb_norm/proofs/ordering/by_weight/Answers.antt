use Rattle.std.proofs.Common.{◌∙◌, ap}
use Rattle.pb_norm.specs.Constraints.{weights}
use Rattle.pb_norm.proofs.SortedTerms.{sort-by_weight}
use Rattle.pb_norm.proofs.ordering.by_weight.Goals as goal

pub returns : goal.returns
returns c =
    ap weights c.from_vec.ensures
    ∙ sort-by_weight c.args.constraint.terms c.into_terms-terms.result.items c.sort_by_weight.new.terms.items c.into_terms-terms.ensures.weights c.into_terms-terms.ensures.linear.ascending c.sort_by_weight.ensures.permutation c.sort_by_weight.ensures.order
