use Rattle.std.proofs.Common.{◌∙◌, ◌∷◌, ◌++◌, [], List, reverse, ap, sym, subst}
use Rattle.std.proofs.lemmas.List.{reverse-append}
use Rattle.pb_base.specs.declared.literal.Lit.{Lit}
use Rattle.pb_lrat.specs.inner.Marks.{value_at}
use Rattle.pb_lrat.specs.inner.Trails.{IsTrail}
use Rattle.pb_lrat.proofs.trail.Trail.push.Goals as goal

pub invariant_of-self : goal.invariant_of-self
invariant_of-self c = subst (λ (xs : List Lit). IsTrail (value_at c.self.inside.marks) (reverse xs)) (sym c.reserve.ensures.items) c.self.invariant

pub returns : goal.returns
returns c =
    ap (λ (xs : List Lit). reverse xs) (c.append.ensures ∙ ap (λ (xs : List Lit). xs ++ c.args.lit.now ∷ []) c.reserve.ensures.items) ∙
    (reverse-append c.self.inside.order.items (c.args.lit.now ∷ []) ∙ ap (λ (xs : List Lit). c.args.lit.now ∷ xs) c.self.view_is)
