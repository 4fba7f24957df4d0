use Rattle.std.proofs.Common.{◌≡◌, ◌+◌, ◌-◌, ◌∷◌, ap, sym, reverse, vec_capacity, List, arith, length, subst}
use Rattle.pb_base.specs.declared.literal.Lit.{Lit}
use Rattle.pb_unit.specs.Trails.{Held, IsTrail, oldest}
use Rattle.pb_unit.proofs.Trailing.{nth_oldest, nth_absent, nth_within}
use Rattle.pb_unit.proofs.trail.Trail.nth.Goals as goal

lits : (c : goal.After-index) → reverse c.self.inside.order.items ≡ c.args.self.now.lits
lits c = ap (λ (h : Held). h.lits) c.self.view_is

older : (c : goal.After-index) → oldest (c.args.index + 1) c.args.self.now.lits ≡ c.index.result.now ∷ oldest c.args.index c.args.self.now.lits
older c = nth_oldest c.args.self.now.lits c.self.inside.order.items c.args.index c.index.result.now (sym (lits c)) c.requires c.index.ensures

holds : (c : goal.After-index) → IsTrail c.self.inside.vars c.self.inside.values.items c.args.self.now.lits (vec_capacity c.self.inside.order)
holds c = subst (λ (ls : List Lit). IsTrail c.self.inside.vars c.self.inside.values.items ls (vec_capacity c.self.inside.order)) (lits c) c.self.invariant

pub returns-clause-older : goal.returns-clause-older
returns-clause-older c = older c

pub returns-clause-absent : goal.returns-clause-absent
returns-clause-absent c = nth_absent _ _ c.args.self.now.lits _ (length c.args.self.now.lits - (c.args.index + 1)) c.index.result.now (oldest c.args.index c.args.self.now.lits) (holds c) (older c)

pub returns-clause-within : goal.returns-clause-within
returns-clause-within c =
    let h = nth_within _ _ c.args.self.now.lits _ (length c.args.self.now.lits - (c.args.index + 1)) c.index.result.now (oldest c.args.index c.args.self.now.lits) (holds c) (older c) in
    omega (arith, h, ap (λ (x : Held). x.vars) c.self.view_is)
