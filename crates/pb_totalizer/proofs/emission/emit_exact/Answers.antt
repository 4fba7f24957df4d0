use Rattle.std.proofs.Common.{◌≡◌, ◌+◌, ℕ, List, [], ◌∷◌, arith, ap, ◌∙◌}
use Rattle.pb_base.specs.declared.literal.Lit.{Lit}
use Rattle.pb_base.specs.Literals.{negated}
use Rattle.pb_norm.specs.BoundedSums.{sum_within}
use Rattle.pb_norm.specs.Constraints.{weights}
use Rattle.pb_family.proofs.Emission.{emitting_starts, emitting_step, hands_fault, hands_last, hands_same}
use Rattle.pb_tree.specs.Tree.{tree_of}
use Rattle.pb_tree.specs.Scheme.{output}
use Rattle.pb_totalizer.specs.Exact.{exact_along, exact_clauses}
use Rattle.pb_totalizer.specs.Totalizer.{totalizer}
use Rattle.pb_totalizer.specs.laws.Counting.{root_count}
use Rattle.pb_totalizer.proofs.emission.emit_exact.Goals as goal

pub returns-in_err-root : goal.returns-in_err-root
returns-in_err-root g c =
    let w = c.args.whole.now in
    hands_fault {all = exact_clauses (sum_within w.terms.now w.bound) w.first} c.from_residual.result _ (exact_along w.bound (tree_of (weights w.terms.now)) w.first) _ _ c.from_residual.ensures.1 (emitting_starts _ _) c.in_err-root.ensures.hands

pub at-requires-clause-some : goal.at-requires-clause-some
at-requires-clause-some g c = c.args.whole.now.whole.from

pub at-requires-clause-within : goal.at-requires-clause-within
at-requires-clause-within g c =
    let w = c.args.whole.now in
    omega (arith, root_count w.bound w.terms.now w.whole.more, c.in_ok-root.ensures.outputs.count)

pub not_at-requires-clause-within : goal.not_at-requires-clause-within
not_at-requires-clause-within g c =
    let w = c.args.whole.now in
    omega (arith, root_count w.bound w.terms.now w.whole.more, c.in_ok-root.ensures.outputs.count)

pub returns : goal.returns
returns g c =
    let w = c.args.whole.now in
    let t = tree_of (weights w.terms.now) in
    let o = output (totalizer w.bound) t w.first in
    let last : List (List Lit) = (o w.bound ∷ []) ∷ (negated (o (w.bound + 1)) ∷ []) ∷ [] in
    let outputs = c.in_ok-root.ensures.outputs.literals in
    let one : c.at.result ≡ o w.bound = c.at.ensures ∙ ap (λ (f : ℕ → Lit). f w.bound) outputs in
    let two : c.not_at.result ≡ negated (o (w.bound + 1)) = c.not_at.ensures ∙ ap (λ (f : ℕ → Lit). negated (f (w.bound + 1))) outputs in
    let handed = hands_same c.derive_pair.result _ last _ _ (λ i. (one i ∷ []) ∷ (two i ∷ []) ∷ []) c.derive_pair.ensures in
    hands_last {all = exact_clauses (sum_within w.terms.now w.bound) w.first} c.derive_pair.result last _ (emitting_step (exact_along w.bound t w.first) _ (emitting_starts _ _) c.in_ok-root.ensures.hands) handed
