use Rattle.std.proofs.Common.{◌≡◌, ◌+◌, ◌++◌, ℕ, List, [], ap, append-nil, drop, get_or, map, rules, take, ◌∙◌}
use Rattle.std.specs.List.{flat_map}
use Rattle.std.proofs.lemmas.List.{take_all}
use Rattle.pb_base.specs.declared.literal.Term.{Term}
use Rattle.pb_norm.specs.Reduction.{opposite}
use Rattle.pb_family.proofs.Taking.{fails_front, fails_same, takes_nothing, takes_same, then_fails, then_takes}
use Rattle.pb_dimacs.specs.WcnfText.{softs_text}
use Rattle.pb_dimacs.proofs.Holding.{text_fault}
use Rattle.pb_dimacs.proofs.Lines.{flat_parts, flat_take_more}
use Rattle.pb_encode.proofs.CostTexts.{cost_line, cost_lines, line_written}
use Rattle.pb_encode.proofs.weighing.send_softs.Goals as goal

pub loop-term-init : goal.loop-term-init
loop-term-init g c = record { items = c.terms-terms.ensures.terms; taken = takes_nothing _ }

pub returns-in_err-soft : goal.returns-in_err-soft
returns-in_err-soft g c =
    let items : List Term = c.terms-terms.result.now in
    let i = c.loop-term.term-index in
    let t : Term = c.term-item.result in
    let line = line_written t c.not.result (search rules) c.not.ensures in
    let rest : List ℕ = flat_map cost_line (drop (i + 1) items) ++ [] in
    let here : t ≡ get_or items i t = search rules in
    let whole = flat_parts cost_line items [] i t c.loop-term-test.true here ∙ append-nil (flat_map cost_line items) ∙ ap (flat_map cost_line) c.loop-term.invariant.items ∙ cost_lines c.args.objective.now.terms in
    let part = fails_front (cost_line t) rest _ _ (fails_same _ _ _ _ line c.in_err-soft.ensures) in
    text_fault c.from_residual.result _ (softs_text (map opposite c.args.objective.now.terms)) _ _ c.from_residual.ensures.1
    (fails_same _ _ _ _ whole (then_fails (flat_map cost_line (take i items)) (cost_line t ++ rest) _ _ _ c.loop-term.invariant.taken part))

pub loop-term-preserved : goal.loop-term-preserved
loop-term-preserved g c =
    let items : List Term = c.terms-terms.result.now in
    let i = c.loop-term.term-index in
    let t : Term = c.term-item.result in
    let line = line_written t c.not.result (search rules) c.not.ensures in
    let here : t ≡ get_or items i t = search rules in
    record {
      items = c.loop-term.invariant.items;
      taken = takes_same _ _ _ _ (flat_take_more cost_line items i t c.loop-term-test.true here)
          (then_takes (flat_map cost_line (take i items)) (cost_line t) _ _ _ c.loop-term.invariant.taken (takes_same _ _ _ _ line c.in_ok-soft.ensures));
    }

pub returns : goal.returns
returns g c =
    let items : List Term = c.terms-terms.result.now in
    let i = c.loop-term.term-index in
    let whole = ap (flat_map cost_line) (take_all i items c.loop-term-test.false) ∙ ap (flat_map cost_line) c.loop-term.invariant.items ∙ cost_lines c.args.objective.now.terms in
    takes_same _ _ _ _ whole c.loop-term.invariant.taken
