use Rattle.std.proofs.Common.{◌≡◌, ◌++◌, ◌+◌, ◌-◌, ℕ, List, ap, sym, ◌∙◌, append_assoc, append-nil, arith}
use Rattle.std.specs.List.{flat_map}
use Rattle.pb_base.specs.declared.problem.Raw.{Raw}
use Rattle.pb_gen.specs.Draws.{state_after}
use Rattle.pb_gen.specs.Drawn.{drawn_statement, statement_draws}
use Rattle.pb_gen.specs.Generated.{drawn_statements, header_text, statement_text}
use Rattle.pb_gen.proofs.Drawing.{statements_more}
use Rattle.pb_gen.proofs.generating.generate.Goals as goal

pub loop-i-init : goal.loop-i-init
loop-i-init c =
    let n = c.args.n in
    let whole : n - 0 ≡ n = omega arith in
    let header = c.in_ok-push_header.ensures ∙ (λ k. c.new-out.ensures.items k ++ header_text (c.from-vars.ensures k + 10) (c.from.ensures k)) in
    (λ k. header k ++ flat_map statement_text (drawn_statements (c.from-vars.ensures k + 10) (whole k) (c.new-draws.ensures k)))

pub loop-i-preserved : goal.loop-i-preserved
loop-i-preserved c =
    let vars = c.from-vars.result + 10 in
    let n = c.args.n in
    let i = c.loop-i._i in
    let s = c.loop-i.draws.state in
    let rest = drawn_statements vars (n - (i + 1)) (state_after (statement_draws s) s) in
    (λ k. c.in_ok-push_statement.ensures.text k ++ flat_map statement_text (drawn_statements vars (n - (i + 1)) (c.in_ok-push_statement.ensures.state k)))
    ∙ append_assoc c.loop-i.out.items (statement_text (drawn_statement vars s)) (flat_map statement_text rest)
    ∙ ap (λ (ss : List Raw). c.loop-i.out.items ++ flat_map statement_text ss) (sym (statements_more vars n i s c.loop-i-test.true))
    ∙ c.loop-i.invariant

pub returns : goal.returns
returns c =
    let vars = c.from-vars.result + 10 in
    let none : c.args.n - c.loop-i._i ≡ 0 = omega arith in
    c.from_vec.ensures ∙ sym (append-nil c.loop-i.out.items) ∙ ap (λ (m : ℕ). c.loop-i.out.items ++ flat_map statement_text (drawn_statements vars m c.loop-i.draws.state)) (sym none) ∙ c.loop-i.invariant
