use Rattle.std.proofs.Common.{◌≡◌, ◌≢◌, ◌<◌, ◌∙◌, List, length, get_or, sym, ap, subst, refl, arith}
use Rattle.std.specs.Prelude.{All, pos}
use Rattle.std.proofs.lemmas.List.{get_or_default}
use Rattle.pb_base.specs.declared.literal.Term.{Term}
use Rattle.pb_norm.specs.Constraints.{weighted}
use Rattle.pb_operations.proofs.Others.{lost-none, lost-at}
use Rattle.pb_operations.proofs.Zeroed.{zeroed-none, zeroed-at}
use Rattle.pb_operations.proofs.terms.take_coef.Goals as goal

pub returns-in-Some-clause-left : goal.returns-in-Some-clause-left
returns-in-Some-clause-left c =
    let items = c.args.terms.now.items in
    let at : (d : Term) → (get_or items c.in-Some.place d).lit.var ≡ c.args.var = subst (λ (ts : List Term). (d : Term) → (get_or ts c.in-Some.place d).lit.var ≡ c.args.var) c.deref.ensures.value c.in-Some.ensures.at in
    let below : c.in-Some.place < length items = omega (arith, c.in-Some.ensures.below, ap length c.deref.ensures.value) in
    let zero : (d : Term) → weighted c.weighing.result ≡ record { coef = 0; lit = (get_or items c.in-Some.place d).lit } = λ d.
    ap weighted c.weighing.ensures ∙ ap (λ (t : Term). weighted (record { coef = pos 0; lit = t.lit })) (c.index.ensures ∙ get_or_default items c.in-Some.place c.index.result.now d below) in
    zeroed-at c.args.var items c.in-Some.place c.weighing.result below at zero c.requires

pub returns-in-Some-clause-lost : goal.returns-in-Some-clause-lost
returns-in-Some-clause-lost c =
    let items = c.args.terms.now.items in
    let at : (d : Term) → (get_or items c.in-Some.place d).lit.var ≡ c.args.var = subst (λ (ts : List Term). (d : Term) → (get_or ts c.in-Some.place d).lit.var ≡ c.args.var) c.deref.ensures.value c.in-Some.ensures.at in
    let below : c.in-Some.place < length items = omega (arith, c.in-Some.ensures.below, ap length c.deref.ensures.value) in
    c.weight.ensures ∙ (ap (λ (t : Term). (weighted t).coef) c.index.ensures ∙ sym (lost-at c.args.var items c.in-Some.place _ below at c.requires))

pub returns-in-None-clause-left : goal.returns-in-None-clause-left
returns-in-None-clause-left c =
    let apart : All (λ (t : Term). t.lit.var ≢ c.args.var) c.args.terms.now.items = subst (All (λ (t : Term). t.lit.var ≢ c.args.var)) c.deref.ensures.value (c.in-None.ensures.none refl) in
    sym (zeroed-none c.args.var c.args.terms.now.items apart)

pub returns-in-None-clause-lost : goal.returns-in-None-clause-lost
returns-in-None-clause-lost c =
    let apart : All (λ (t : Term). t.lit.var ≢ c.args.var) c.args.terms.now.items = subst (All (λ (t : Term). t.lit.var ≢ c.args.var)) c.deref.ensures.value (c.in-None.ensures.none refl) in
    sym (lost-none c.args.var c.args.terms.now.items apart)
