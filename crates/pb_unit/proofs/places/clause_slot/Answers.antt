use Rattle.std.proofs.Common.{rules, ◌≡◌, ◌++◌, ◌∙◌, Some, List, map, length, length-append, refl, sym, ap, subst, arith}
use Rattle.std.proofs.lemmas.List.{length-map}
use Rattle.pb_base.specs.declared.literal.Lit.{Lit}
use Rattle.pb_base.specs.declared.literal.Term.{Term}
use Rattle.pb_norm.specs.Constraints.{Constraint, Weighted, weights, weighted}
use Rattle.pb_unit.specs.inner.Slots.{unit, part, clause_of}
use Rattle.pb_unit.proofs.Slotting.{clause_in}
use Rattle.pb_unit.proofs.places.clause_slot.Goals as goal

pub returns-clause-slot : goal.returns-clause-slot
returns-clause-slot c =
    let units : weights c.terms-2.result.now ≡ map (λ (t : Term). unit t.lit) c.terms-2.result.now = subst (λ (ts : List Term). weights ts ≡ map (λ (t : Term). unit t.lit) ts) (c.terms.ensures.terms ∙ sym c.terms-2.ensures.terms) (c.if-not-are_units.ensures refl) in
    let pushed : c.push_lits.new.lits.items ≡ c.args.lits.now.items ++ map (λ (t : Term). t.lit) c.terms-2.result.now = c.if-not-push_lits.ensures.pushed in
    let count : c.len-len.result ≡ length c.terms-2.result.now = c.len-len.ensures.value ∙ (ap (λ (ts : List Weighted). length ts) (sym c.terms-2.ensures.weights) ∙ length-map c.terms-2.result.now weighted) in
    let is : clause_of (part c.push_lits.new.lits.items c.len-start.result c.len-len.result) ≡ c.args.constraint.now =
    clause_in c.args.lits.now.items c.push_lits.new.lits.items c.terms-2.result.now c.len-start.result c.len-len.result c.args.constraint.now pushed (search rules) count units c.terms-2.ensures.weights (omega (arith, c.degree.ensures.value, c.if-degree-ne1.false)) in
    (omega (arith, ap (λ (ls : List Lit). length ls) pushed, length-append c.args.lits.now.items (map (λ (t : Term). t.lit) c.terms-2.result.now), length-map c.terms-2.result.now (λ (t : Term). t.lit), c.len-start.ensures, count), ap (λ (d : Constraint). Some d) is)
