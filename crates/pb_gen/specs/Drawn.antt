-- A statement by its draws. Our own.
use Rattle.std.specs.Prelude.{ℕ, ◌+◌, ◌-◌, ◌*◌, ◌/◌, ◌%◌, ◌==◌, Bool, true, false, List, map, pos, if◌then◌else◌}
use Rattle.std.specs.List.{range_with_len}
use Rattle.pb_base.specs.declared.literal.Lit.{Lit}
use Rattle.pb_base.specs.declared.literal.Term.{Term}
use Rattle.pb_base.specs.declared.problem.Raw.{Raw}
use Rattle.pb_base.specs.declared.problem.Relation.{Relation}
use Rattle.pb_base.specs.declared.problem.Relation.TheVariants as relation
use Rattle.pb_base.specs.Problems.{magnitude}
use Rattle.pb_gen.specs.declared.drawn.Kind.{Kind}
use Rattle.pb_gen.specs.declared.drawn.Kind.TheVariants as kind
use Rattle.pb_gen.specs.Draws.{draw, state_after}

-- ---- a term

-- a coefficient: 1, or where it is drawn, from 1 to 20
abbrev pub drawn_weight : Bool → ℕ → ℕ
drawn_weight weighted seed = if weighted then 1 + draw seed 0 % 20 else 1

abbrev pub weight_draws : Bool → ℕ
weight_draws weighted = if weighted then 1 else 0

-- a literal over so many variables
abbrev pub drawn_literal : ℕ → ℕ → Lit
drawn_literal vars seed = record { var = 1 + draw seed 0 % vars; positive = draw seed 1 % 2 == 0 }

abbrev pub drawn_term : ℕ → Bool → ℕ → Term
drawn_term vars weighted seed = record { coef = pos (drawn_weight weighted seed); lit = drawn_literal vars (state_after (weight_draws weighted) seed) }

abbrev pub term_draws : Bool → ℕ
term_draws weighted = if weighted then 3 else 2

abbrev pub drawn_terms : ℕ → Bool → ℕ → ℕ → List Term
drawn_terms vars weighted count seed = map (λ i. drawn_term vars weighted (state_after (i * term_draws weighted) seed)) (range_with_len 0 count)

-- ---- a statement

abbrev pub drawn_count : ℕ → ℕ
drawn_count seed = 2 + draw seed 0 % 10

abbrev pub kind_by : ℕ → Kind
kind_by d = if d % 4 == 0 then kind.AllButOne else (if d % 4 == 1 then kind.Half else (if d % 4 == 2 then kind.AtLeast else kind.AtMost))

abbrev pub drawn_kind : ℕ → Kind
drawn_kind seed = kind_by (draw seed 1)

-- whether coefficients and the right side are drawn
abbrev pub is_weighted : Kind → Bool
is_weighted kind.AtLeast = true
is_weighted kind.AtMost = true
is_weighted _ = false

abbrev pub relation_of : Kind → Relation
relation_of kind.AtMost = relation.AtMost
relation_of _ = relation.AtLeast

-- by the number of terms and the sum of their coefficients
abbrev pub drawn_right : Kind → ℕ → ℕ → ℕ → ℕ
drawn_right kind.AllButOne count sum seed = count - 1
drawn_right kind.Half count sum seed = (count + 1) / 2
drawn_right _ count sum seed = draw seed 0 % (sum + 1)

-- behind its terms, which begin with this seed
abbrev pub statement_with : ℕ → Kind → ℕ → ℕ → Raw
statement_with vars k count seed = record {
  terms = drawn_terms vars (is_weighted k) count seed;
  relation = relation_of k;
  right = pos (drawn_right k count (magnitude (drawn_terms vars (is_weighted k) count seed)) (state_after (count * term_draws (is_weighted k)) seed));
}

-- the number of terms, the kind, the terms, the right side
abbrev pub drawn_statement : ℕ → ℕ → Raw
drawn_statement vars seed = statement_with vars (drawn_kind seed) (drawn_count seed) (state_after 2 seed)

abbrev pub statement_draws : ℕ → ℕ
statement_draws seed = 2 + (drawn_count seed * term_draws (is_weighted (drawn_kind seed)) + weight_draws (is_weighted (drawn_kind seed)))
