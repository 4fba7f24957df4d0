use Rattle.std.proofs.Common.{◌≡◌, ◌++◌, ◌+◌, ◌*◌, ℕ, pos, List, ap, sym, ◌∙◌, append_assoc, arith}
use Rattle.std.specs.List.{flat_map}
use Rattle.pb_base.specs.declared.literal.Term.{Term}
use Rattle.pb_base.specs.Problems.{magnitude}
use Rattle.pb_gen.specs.Draws.{state_after}
use Rattle.pb_gen.specs.Drawn.{drawn_term, drawn_terms, drawn_literal, drawn_weight, term_draws, weight_draws}
use Rattle.pb_gen.specs.Generated.{term_text}
use Rattle.pb_gen.proofs.Drawing.{state_more, sum_more, text_more}
use Rattle.pb_gen.proofs.generating.push_terms.Goals as goal

pub loop-i-preserved : goal.loop-i-preserved
loop-i-preserved c =
    let vars = c.args.vars in
    let w = c.args.weighted in
    let i = c.loop-i._i in
    let out = c.args.out.now.items in
    let seed = c.args.draws.now.state in
    let now = c.loop-i.invariant.state in
    let weight : c.draw_weight-weight.result ≡ drawn_weight w (state_after (i * term_draws w) seed) = c.draw_weight-weight.ensures.weight ∙ ap (drawn_weight w) now in
    let behind : c.draw_weight-weight.new.draws.state ≡ state_after (weight_draws w) (state_after (i * term_draws w) seed) = c.draw_weight-weight.ensures.state ∙ ap (state_after (weight_draws w)) now in
    let literal = c.draw_literal-lit.ensures.literal ∙ ap (drawn_literal vars) behind in
    let drawn : Term = record { coef = pos c.draw_weight-weight.result; lit = c.draw_literal-lit.result } in
    let term : drawn ≡ drawn_term vars w (state_after (i * term_draws w) seed) = λ k. record { coef = pos (weight k); lit = literal k } in
    record {
      sum = ap (λ (n : ℕ). n + c.draw_weight-weight.result) c.loop-i.invariant.sum ∙ ap (λ (n : ℕ). magnitude (drawn_terms vars w i seed) + n) weight ∙ sym (sum_more vars w seed i);
      small = omega arith;
      state = c.draw_literal-lit.ensures.state ∙ ap (state_after 2) behind ∙ sym (state_more vars w seed i);
      text = c.in_ok-push_term.ensures ∙ (λ k. c.loop-i.invariant.text k ++ term_text (term k)) ∙ append_assoc out (flat_map term_text (drawn_terms vars w i seed)) _ ∙ ap (λ (xs : List ℕ). out ++ xs) (sym (text_more vars w seed i));
    }
