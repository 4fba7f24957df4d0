use Rattle.std.proofs.Common.{◌≡◌, ◌+◌, ◌∷◌, [], ℕ, min, ap, sym, ◌∙◌, arith}
use Rattle.pb_tree.specs.Scheme.{values}
use Rattle.pb_tree.proofs.SplitTerms.{leaf_of, some_term}
use Rattle.pb_totalizer.specs.Totalizer.{totalizer}
use Rattle.pb_totalizer.proofs.whole.WholeTreeSum.leaf_values.Goals as goal

pub returns : goal.returns
returns c =
    let bound = c.args.self.now.bound in
    let one : 1 ≡ min 1 (bound + 1) = omega arith in
    ap (λ (n : ℕ). n ∷ []) one ∙ sym (ap (values (totalizer bound)) (leaf_of c.args._terms.now some_term c.requires))
