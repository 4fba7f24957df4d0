use Rattle.std.proofs.Common.{◌+◌, ◌++◌, ◌∷◌, [], ℕ, List, min, ap, sym, ◌∙◌}
use Rattle.std.specs.Int.RustNames.{unsigned_abs}
use Rattle.pb_base.specs.declared.literal.Term.{Term}
use Rattle.pb_tree.specs.Scheme.{values}
use Rattle.pb_tree.proofs.SplitTerms.{leaf_of}
use Rattle.pb_gentot.specs.Generalized.{generalized}
use Rattle.pb_gentot.proofs.leaf.leaf_values.Goals as goal

pub returns : goal.returns
returns c =
    let cap = c.args.bound + 1 in
    let value = c.min-value.ensures ∙ ap (λ (n : ℕ). min n cap) c.weight.ensures ∙ ap (λ (t : Term). min (unsigned_abs t.coef) cap) c.index-terms-0.is in
    let leaf = sym (leaf_of c.args.terms.now c.index-terms-0.result c.requires.one) in
    c.in_ok-push.ensures.items ∙ ap (λ (xs : List ℕ). xs ++ c.min-value.result ∷ []) c.new-values.ensures.items ∙ ap (λ (n : ℕ). n ∷ []) value ∙ ap (values (generalized c.args.bound)) leaf
