-- Draws one after another.
use Rattle.std.proofs.Common.{◌≡◌, ℕ, zero, suc, ◌+◌, ◌-◌, ◌*◌, ◌<◌, Bool, true, false, List, [], ◌∷◌, ◌++◌, sym, ap, ◌∙◌, arith, append-nil}
use Rattle.std.specs.Prelude.{unsigned_abs}
use Rattle.std.specs.List.{flat_map}
use Rattle.std.proofs.lemmas.Grind.{flat_map-append}
use Rattle.std.proofs.lemmas.List.FromFn.{map-range_with_len_more, sum_by-map-range_with_len_more}
use Rattle.pb_base.specs.Problems.{magnitude}
use Rattle.pb_gen.specs.Draws.{next_state, state_after}
use Rattle.pb_gen.specs.Drawn.{drawn_statement, drawn_term, drawn_terms, drawn_weight, statement_draws, term_draws, weight_draws}
use Rattle.pb_gen.specs.Generated.{drawn_statements, term_text}

-- draws that follow draws
pub state_after-plus : (a b seed : ℕ) → state_after (a + b) seed ≡ state_after b (state_after a seed)
state_after-plus a zero seed = ap (λ (n : ℕ). state_after n seed) (let e : a + 0 ≡ a = omega arith in e)
state_after-plus a (suc b) seed = ap (λ (n : ℕ). state_after n seed) (let e : a + suc b ≡ suc (a + b) = omega arith in e) ∙ ap next_state (state_after-plus a b seed)

module _ (vars : ℕ) (weighted : Bool) (seed : ℕ) where
  -- one term more
  pub terms_more : (i : ℕ) → drawn_terms vars weighted (i + 1) seed ≡ drawn_terms vars weighted i seed ++ drawn_term vars weighted (state_after (i * term_draws weighted) seed) ∷ []
  terms_more i = map-range_with_len_more (λ j. drawn_term vars weighted (state_after (j * term_draws weighted) seed)) 0 i i (omega arith)

  pub text_more : (i : ℕ) → flat_map term_text (drawn_terms vars weighted (i + 1) seed) ≡ flat_map term_text (drawn_terms vars weighted i seed) ++ term_text (drawn_term vars weighted (state_after (i * term_draws weighted) seed))
  text_more i = ap (flat_map term_text) (terms_more i) ∙ flat_map-append term_text (drawn_terms vars weighted i seed) _ ∙ ap (λ (xs : List ℕ). flat_map term_text (drawn_terms vars weighted i seed) ++ xs) (append-nil _)

  pub sum_more : (i : ℕ) → magnitude (drawn_terms vars weighted (i + 1) seed) ≡ magnitude (drawn_terms vars weighted i seed) + drawn_weight weighted (state_after (i * term_draws weighted) seed)
  sum_more i = sum_by-map-range_with_len_more (λ t. unsigned_abs t.coef) (λ j. drawn_term vars weighted (state_after (j * term_draws weighted) seed)) 0 i i (omega arith)

  pub state_more : (i : ℕ) → state_after ((i + 1) * term_draws weighted) seed ≡ state_after 2 (state_after (weight_draws weighted) (state_after (i * term_draws weighted) seed))
  state_more i = by_cases weighted
    where
      by_cases : (w : Bool) → state_after ((i + 1) * term_draws w) seed ≡ state_after 2 (state_after (weight_draws w) (state_after (i * term_draws w) seed))
      by_cases true = ap (λ (n : ℕ). state_after n seed) (let e : (i + 1) * 3 ≡ i * 3 + 3 = omega arith in e) ∙ state_after-plus (i * 3) 3 seed
      by_cases false = ap (λ (n : ℕ). state_after n seed) (let e : (i + 1) * 2 ≡ i * 2 + 2 = omega arith in e) ∙ state_after-plus (i * 2) 2 seed

-- one statement more
pub statements_more : (vars n i seed : ℕ) → i < n → drawn_statements vars (n - i) seed ≡ drawn_statement vars seed ∷ drawn_statements vars (n - (i + 1)) (state_after (statement_draws seed) seed)
statements_more vars n i seed h = ap (λ (m : ℕ). drawn_statements vars m seed) (let e : n - i ≡ suc (n - (i + 1)) = omega arith in e)

-- the terms, and the right side behind them
pub statement_end : (a b seed : ℕ) → state_after b (state_after a (state_after 2 seed)) ≡ state_after (2 + (a + b)) seed
statement_end a b seed = sym (state_after-plus 2 (a + b) seed ∙ state_after-plus a b (state_after 2 seed))
