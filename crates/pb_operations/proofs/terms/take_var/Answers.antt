use Rattle.std.proofs.Common.{◌≡◌, ◌≢◌, ◌∙◌, ◌<◌, List, length, get_or, subst, sym, ap, arith, refl}
use Rattle.std.specs.Prelude.{All}
use Rattle.pb_base.specs.declared.literal.Term.{Term}
use Rattle.pb_norm.specs.Constraints.{weighted}
use Rattle.pb_operations.proofs.Others.{others-none, others-remove, lost-none, lost-at}
use Rattle.pb_operations.proofs.terms.take_var.Goals as goal

pub returns-in-Some-clause-others : goal.returns-in-Some-clause-others
returns-in-Some-clause-others c =
    let items = c.args.terms.now.items in
    let at : (d : Term) → (get_or items c.in-Some.place d).lit.var ≡ c.args.var = subst (λ (ts : List Term). (d : Term) → (get_or ts c.in-Some.place d).lit.var ≡ c.args.var) c.deref.ensures.value c.in-Some.ensures.at in
    let below : c.in-Some.place < length items = omega (arith, c.in-Some.ensures.below, ap length c.deref.ensures.value) in
    c.remove.ensures.items ∙ sym (others-remove c.args.var items c.in-Some.place below at c.requires)

pub returns-in-Some-clause-lost : goal.returns-in-Some-clause-lost
returns-in-Some-clause-lost c =
    let items = c.args.terms.now.items in
    let at : (d : Term) → (get_or items c.in-Some.place d).lit.var ≡ c.args.var = subst (λ (ts : List Term). (d : Term) → (get_or ts c.in-Some.place d).lit.var ≡ c.args.var) c.deref.ensures.value c.in-Some.ensures.at in
    let below : c.in-Some.place < length items = omega (arith, c.in-Some.ensures.below, ap length c.deref.ensures.value) in
    c.weight.ensures ∙ (ap (λ (t : Term). (weighted t).coef) c.remove.ensures.value ∙ sym (lost-at c.args.var items c.in-Some.place c.remove.result below at c.requires))

pub returns-in-None-clause-others : goal.returns-in-None-clause-others
returns-in-None-clause-others c =
    let apart : All (λ (t : Term). t.lit.var ≢ c.args.var) c.args.terms.now.items = subst (All (λ (t : Term). t.lit.var ≢ c.args.var)) c.deref.ensures.value (c.in-None.ensures.none refl) in
    sym (others-none c.args.var c.args.terms.now.items apart)

pub returns-in-None-clause-lost : goal.returns-in-None-clause-lost
returns-in-None-clause-lost c =
    let apart : All (λ (t : Term). t.lit.var ≢ c.args.var) c.args.terms.now.items = subst (All (λ (t : Term). t.lit.var ≢ c.args.var)) c.deref.ensures.value (c.in-None.ensures.none refl) in
    sym (lost-none c.args.var c.args.terms.now.items apart)
