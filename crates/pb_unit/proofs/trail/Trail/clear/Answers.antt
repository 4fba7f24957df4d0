use Rattle.std.proofs.Common.{◌≡◌, ◌∙◌, ap, sym, ◌∷◌, [], reverse, set, List, ℕ, None, arith, ◌-◌, subst, vec_capacity}
use Rattle.std.specs.Prelude.{vec_len}
use Rattle.pb_base.specs.declared.literal.Lit.{Lit}
use Rattle.pb_unit.specs.Trails.{Held, IsTrail}
use Rattle.pb_unit.proofs.Trailing.{popped, newest_within, popped_order, take_none}
use Rattle.pb_unit.proofs.trail.Trail.clear.Goals as goal

pub index_mut-requires : goal.index_mut-requires
index_mut-requires c =
    let e : reverse c.newest.self-inside.order.items ≡ c.in-Some.lit ∷ reverse c.pop.new.self.items = popped_order c.newest.self-inside.order.items c.pop.new.self.items c.pop.result c.in-Some.lit c.pop.ensures.items c.in-Some.is in
    let h : IsTrail c.newest.self-inside.vars c.newest.self-inside.values.items (c.in-Some.lit ∷ reverse c.pop.new.self.items) (vec_capacity c.newest.self-inside.order) = subst (λ (ls : List Lit). IsTrail c.newest.self-inside.vars c.newest.self-inside.values.items ls (vec_capacity c.newest.self-inside.order)) e c.newest.invariant.trail in
    omega (arith, newest_within _ _ c.in-Some.lit (reverse c.pop.new.self.items) _ h, c.index.ensures.value)

pub newest-preserved : goal.newest-preserved
newest-preserved c =
    let e : reverse c.newest.self-inside.order.items ≡ c.in-Some.lit ∷ reverse c.pop.new.self.items = popped_order c.newest.self-inside.order.items c.pop.new.self.items c.pop.result c.in-Some.lit c.pop.ensures.items c.in-Some.is in
    let h : IsTrail c.newest.self-inside.vars c.newest.self-inside.values.items (c.in-Some.lit ∷ reverse c.pop.new.self.items) (vec_capacity c.newest.self-inside.order) = subst (λ (ls : List Lit). IsTrail c.newest.self-inside.vars c.newest.self-inside.values.items ls (vec_capacity c.newest.self-inside.order)) e c.newest.invariant.trail in
    let after = popped c.newest.self-inside.vars c.newest.self-inside.values.items c.in-Some.lit (reverse c.pop.new.self.items) (vec_capacity c.newest.self-inside.order) (vec_capacity c.pop.new.self) h (omega (arith, c.pop.ensures.capacity)) in
    record {
      vars = c.newest.invariant.vars;
      trail = subst (λ (i : ℕ). IsTrail c.newest.self-inside.vars (set c.newest.self-inside.values.items i None) (reverse c.pop.new.self.items) (vec_capacity c.pop.new.self)) (sym c.index.ensures.value) after;
    }

pub returns : goal.returns
returns c =
    let none : c.pop.new.self.items ≡ [] = c.pop.ensures.rest ∙ take_none (vec_len c.newest.self-inside.order - 1) c.newest.self-inside.order.items (omega (arith, c.in_default.ensures.cases.0)) in
    let made : ℕ → List Lit → Held = λ v ls. record { vars = v; lits = ls } in
    ap (λ (ls : List Lit). made c.newest.self-inside.vars (reverse ls)) none ∙ ap (λ (v : ℕ). made v []) c.newest.invariant.vars
