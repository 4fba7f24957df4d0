use Rattle.std.proofs.Common.{◌∙◌, ◌++◌, ◌∷◌, [], ℕ, List, ap, arith, map, sym, take}
use Rattle.std.specs.Prelude.{pos}
use Rattle.std.specs.Int.RustNames.{unsigned_abs}
use Rattle.std.proofs.lemmas.List.{map_more, take_all}
use Rattle.pb_base.specs.declared.literal.Lit.{Lit}
use Rattle.pb_base.specs.declared.literal.Term.{Term}
use Rattle.pb_norm.specs.inner.Kept.{on_term}
use Rattle.pb_norm.specs.Reduction.{opposite}
use Rattle.pb_diagram.proofs.derivation.negated_terms.Goals as goal

pub loop-term-preserved : goal.loop-term-preserved
loop-term-preserved c =
    let t = c.term-item.result in
    let terms = c.args.terms.now in
    let before = map (on_term opposite) (take c.loop-term.term-index terms) in
    let made = c.weighing.ensures
    ∙ ap (λ (n : ℕ). let u : Term = record { coef = pos n; lit = c.not.result } in u) c.weight.ensures
    ∙ ap (λ (l : Lit). let u : Term = record { coef = pos (unsigned_abs t.coef); lit = l } in u) c.not.ensures in
    c.in_ok-push.ensures.items
    ∙ ap (λ (ts : List Term). ts ++ c.weighing.result ∷ []) c.loop-term.invariant
    ∙ ap (λ (u : Term). before ++ u ∷ []) (made ∙ ap (on_term opposite) c.term-item.is)
    ∙ sym (map_more (on_term opposite) terms c.loop-term.term-index t (omega arith))

pub returns : goal.returns
returns c = c.loop-term.invariant ∙ ap (map (on_term opposite)) (take_all c.loop-term.term-index c.args.terms.now (omega arith))
