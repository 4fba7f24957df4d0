use Rattle.std.proofs.Common.{◌≡◌, ◌++◌, ◌*◌, ℕ, List, pos, ap, codes, ◌∙◌, append_assoc}
use Rattle.std.specs.Fmt.{signed_decimal}
use Rattle.std.specs.List.{flat_map}
use Rattle.pb_base.specs.Problems.{magnitude}
use Rattle.pb_gen.specs.Draws.{draw, state_after}
use Rattle.pb_gen.specs.Drawn.{drawn_count, drawn_kind, drawn_right, drawn_terms, is_weighted, kind_by, relation_of, term_draws, weight_draws}
use Rattle.pb_gen.specs.Generated.{relation_text, term_text}
use Rattle.pb_gen.proofs.Drawing.{statement_end}
use Rattle.pb_gen.proofs.generating.push_statement.Goals as goal
use Rattle.pb_gen.proofs.generating.push_statement.Goals.{In_ok-push_end}

module _ (c : In_ok-push_end) where
  count : c.draw_count-count.result ≡ drawn_count c.args.draws.now.state
  count = c.draw_count-count.ensures.count

  kind : c.draw_kind-kind.result ≡ drawn_kind c.args.draws.now.state
  kind = c.draw_kind-kind.ensures.kind ∙ ap (λ (s : ℕ). kind_by (draw s 0)) c.draw_count-count.ensures.state

  weighted : c.is_weighted.result ≡ is_weighted (drawn_kind c.args.draws.now.state)
  weighted = c.is_weighted.ensures ∙ ap is_weighted kind

  first : c.draw_kind-kind.new.draws.state ≡ state_after 2 c.args.draws.now.state
  first = c.draw_kind-kind.ensures.state ∙ ap (state_after 1) c.draw_count-count.ensures.state

  behind : c.push_terms.new.draws.state ≡ state_after (drawn_count c.args.draws.now.state * term_draws (is_weighted (drawn_kind c.args.draws.now.state))) (state_after 2 c.args.draws.now.state)
  behind = c.in_ok-sum.ensures.state ∙ (λ i. state_after (count i * term_draws (weighted i)) (first i))

pub returns-clause-state : goal.returns-clause-state
returns-clause-state c =
    let s = c.args.draws.now.state in
    let w = is_weighted (drawn_kind s) in
    c.draw_right-right.ensures.state ∙ (λ i. state_after (weight_draws (is_weighted (kind c i))) (behind c i)) ∙ statement_end (drawn_count s * term_draws w) (weight_draws w) s

regroup : (out a b c d : List ℕ) → out ++ a ++ b ++ c ++ d ≡ out ++ (a ++ b ++ c ++ d)
regroup out a b c d = simp append_assoc

pub returns-clause-text : goal.returns-clause-text
returns-clause-text c =
    let s = c.args.draws.now.state in
    let out = c.args.out.now.items in
    let k = drawn_kind s in
    let vars = c.args.vars in
    let terms = drawn_terms vars (is_weighted k) (drawn_count s) (state_after 2 s) in
    let right : c.draw_right-right.result ≡ drawn_right k (drawn_count s) (magnitude terms) (state_after (drawn_count s * term_draws (is_weighted k)) (state_after 2 s)) =
    c.draw_right-right.ensures.right ∙ (λ i. drawn_right (kind c i) (count c i) ((c.in_ok-sum.ensures.sum ∙ (λ j. magnitude (drawn_terms vars (weighted c j) (count c j) (first c j)))) i) (behind c i)) in
    let printed : c.push_terms.new.out.items ≡ out ++ flat_map term_text terms =
    c.in_ok-sum.ensures.text ∙ (λ i. out ++ flat_map term_text (drawn_terms vars (weighted c i) (count c i) (first c i))) in
    c.in_ok-push_end.ensures
    ∙ (λ i. printed i ++ relation_text ((c.relation.ensures ∙ ap relation_of (kind c)) i) ++ signed_decimal (pos (right i)) ++ codes " ;\n")
    ∙ regroup out (flat_map term_text terms) (relation_text (relation_of k)) (signed_decimal (pos (drawn_right k (drawn_count s) (magnitude terms) (state_after (drawn_count s * term_draws (is_weighted k)) (state_after 2 s))))) (codes " ;\n")
