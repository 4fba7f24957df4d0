use Rattle.std.proofs.Common.{◌≡◌, sym, ap, ◌∙◌, rules}
use Rattle.std.specs.Int.RustNames.{unsigned_abs}
use Rattle.pb_norm.specs.Constraints.{constraint_of, terms_of}
use Rattle.pb_norm.proofs.KeptTerms.{terms_of-weights}
use Rattle.pb_norm.proofs.linear.Linear.into_terms.Goals as goal

pub returns-clause-terms : goal.returns-clause-terms
returns-clause-terms c =
    let kept = c.self-inside.inside.0.0 in
    let view : constraint_of kept.terms (unsigned_abs kept.degree) ≡ c.args.self = search rules in
    c.into_vec.ensures ∙ sym (terms_of-weights kept.terms c.self-inside.invariant.unsigned) ∙ ap terms_of (λ i. (view i).terms)
