use Rattle.std.proofs.Common.{◌≡◌, ◌∙◌, ap, sym, ◌∷◌, reverse, List, subst}
use Rattle.pb_base.specs.declared.literal.Lit.{Lit}
use Rattle.pb_unit.proofs.Trailing.{popped_order}
use Rattle.pb_lrat.specs.inner.Marks.{value_at}
use Rattle.pb_lrat.specs.inner.Trails.{IsTrail}
use Rattle.pb_lrat.proofs.Trailing.{popped}
use Rattle.pb_lrat.proofs.trail.Trail.clear.Goals as goal

pub newest-preserved : goal.newest-preserved
newest-preserved c =
    let e : reverse c.newest.self-inside.order.items ≡ c.in-Some.lit ∷ reverse c.pop.new.self.items = popped_order c.newest.self-inside.order.items c.pop.new.self.items c.pop.result c.in-Some.lit c.pop.ensures.items c.in-Some.is in
    let h : IsTrail (value_at c.newest.self-inside.marks) (c.in-Some.lit ∷ reverse c.pop.new.self.items) = subst (λ (ls : List Lit). IsTrail (value_at c.newest.self-inside.marks) ls) e c.newest.invariant in
    popped (value_at c.newest.self-inside.marks) (value_at c.forget.new.self) (reverse c.pop.new.self.items) c.in-Some.lit h
    (ap (value_at c.forget.new.self) (sym c.index.ensures.value) ∙ c.forget.ensures.here)
    (λ v other. c.forget.ensures.others v (λ e. other (e ∙ c.index.ensures.value)))
