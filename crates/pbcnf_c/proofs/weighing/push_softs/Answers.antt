use Rattle.std.proofs.Common.{◌≡◌, ◌++◌, ◌∙◌, ℕ, ℤ, List, FitsSigned, ap, append-nil, get_or, of_z, rules, sym, to_z}
use mir.Syntax.{w128}
use Rattle.std.specs.List.{flat_map}
use Rattle.std.proofs.lemmas.Int.{to_z-of_z}
use Rattle.pb_base.specs.declared.literal.Term.{Term}
use Rattle.pb_dimacs.specs.WcnfText.{soft_text}
use Rattle.pb_encode.proofs.CostTexts.{cost_line, cost_lines}
use Rattle.pb_family.proofs.Gathered.{flat_last, flat_next}
use Rattle.pbcnf_c.proofs.weighing.push_softs.Goals as goal

pub loop-term-init : goal.loop-term-init
loop-term-init c = record { items = c.terms-terms.ensures.terms; pushed = sym (append-nil c.args.out.now.items) }

pub loop-term-preserved : goal.loop-term-preserved
loop-term-preserved c =
    let items : List Term = c.terms-terms.result.now in
    let i = c.loop-term.term-index in
    let t : Term = c.term-item.result in
    let fits : FitsSigned w128 t.coef = search rules in
    let coef : to_z w128 (of_z w128 t.coef) ≡ t.coef = to_z-of_z w128 t.coef fits in
    let line = ap (λ (z : ℤ). soft_text z c.not.result) coef ∙ ap (soft_text t.coef) c.not.ensures in
    let here : t ≡ get_or items i t = search rules in
    record {
      items = c.loop-term.invariant.items;
      pushed = flat_next cost_line items i t t c.args.out.now.items c.loop-term.out.items _ c.loop-term-test.true here c.loop-term.invariant.pushed (c.in_ok-push_soft.ensures ∙ ap (λ (text : List ℕ). c.loop-term.out.items ++ text) line);
    }

pub returns : goal.returns
returns c =
    let items : List Term = c.terms-terms.result.now in
    flat_last cost_line items c.loop-term.term-index c.args.out.now.items c.loop-term.out.items c.loop-term-test.false c.loop-term.invariant.pushed
    ∙ ap (λ (text : List ℕ). c.args.out.now.items ++ text) (ap (flat_map cost_line) c.loop-term.invariant.items ∙ cost_lines c.args.objective.now.terms)
