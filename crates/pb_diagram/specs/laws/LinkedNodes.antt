-- Linked nodes, their clauses and the sums of their terms. It serves proofs alone.
use Rattle.std.proofs.Common.{◌≡◌, ◌<◌, ◌≤◌, ◌+◌, ℕ, Bool, true, cond, List, [], ◌∷◌, length, get_or, ap, ◌∙◌, subst, arith}
use Rattle.std.specs.List.{position_or_len}
use Rattle.std.proofs.lemmas.List.Sums.{sum_by-cons}
use Rattle.pb_norm.specs.Constraints.{Weighted, value, weight}
use Rattle.pb_norm.proofs.AdditionValues.{value-cons}
use Rattle.pb_base.specs.Literals.{lit_value}
use Rattle.pb_diagram.specs.declared.interval.Interval.{Interval}
use Rattle.pb_diagram.specs.Levels.{lies_in}
use Rattle.pb_diagram.specs.Clauses.{head_level, node_count}
use Rattle.pb_diagram.specs.inner.Links.{Linked, AreLinked}

abbrev pub place : ℕ → List Interval → ℕ
place residue nodes = position_or_len (lies_in residue) nodes

-- what the links say of the node at a place
pub linked_at : (t : Weighted) (ts : List Weighted) (nodes : List Interval) (levels : List (List Interval)) → AreLinked (t ∷ ts) (nodes ∷ levels) → (p : ℕ) (g : Interval) → p < length nodes → get_or nodes p g ≡ g → Linked t.coef (weight ts) (head_level levels) g
linked_at t ts nodes levels linked p g within is = subst (λ (h : Interval). Linked t.coef (weight ts) (head_level levels) h) is (linked.0 p g within)

pub head_le : (levels : List (List Interval)) → length (head_level levels) ≤ node_count levels
head_le [] = omega arith
head_le (nodes ∷ levels) = omega (arith, sum_by-cons (length {A = Interval}) nodes levels)

-- ---- sums

pub value-cons_true : (v : ℕ → Bool) (t : Weighted) (ts : List Weighted) → lit_value v t.lit ≡ true → value v (t ∷ ts) ≡ t.coef + value v ts
value-cons_true v t ts h = value-cons v t ts ∙ ap (λ (b : Bool). cond b t.coef 0 + value v ts) h
