use Rattle.std.proofs.Common.{◌∙◌, ◌++◌, ◌∷◌, [], List, map, ap}
use Rattle.std.proofs.lemmas.List.{take_all}
use Rattle.pb_base.specs.declared.literal.Lit.{Lit}
use Rattle.pb_base.specs.declared.literal.Term.{Term}
use Rattle.pb_norm.specs.Constraints.{term_of, terms_of}
use Rattle.pb_unit.specs.inner.Slots.{unit}
use Rattle.pb_unit.proofs.Slotting.{copied_unit}
use Rattle.pb_unit.proofs.places.push_units.Goals as goal

pub loop-lit-preserved : goal.loop-lit-preserved
loop-lit-preserved c =
    c.in_ok-push.ensures.items ∙
    (ap (λ (t : Term). c.loop-lit.terms.items ++ t ∷ []) c.weighing.ensures ∙
    (ap (λ (ts : List Term). ts ++ term_of (unit c.lit-item.result) ∷ []) c.loop-lit.invariant ∙
    copied_unit c.args.terms.now.items c.args.lits.now c.loop-lit.lit-index c.lit-item.result c.loop-lit-test.true c.lit-item.is))

pub returns : goal.returns
returns c =
    c.loop-lit.invariant ∙
    ap (λ (ls : List Lit). c.args.terms.now.items ++ terms_of (map unit ls)) (take_all c.loop-lit.lit-index c.args.lits.now c.loop-lit-test.false)
