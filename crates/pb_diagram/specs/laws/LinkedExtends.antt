-- The reification of the nodes, under which the clauses hold. It serves proofs alone.
use Rattle.std.proofs.Common.{◌≡◌, ◌<◌, ◌≤◌, ◌+◌, ◌-◌, ℕ, Bool, true, false, cond, ltb, List, [], ◌∷◌, length, get_or, sym, ap, ◌∙◌, arith}
use Rattle.std.specs.Prelude.{Contains}
use Rattle.std.proofs.lemmas.Bool.{lt-ltb, le-ltb, ltb-true, or_left, not_from_false, false_from_ne_true, cond-true, cond-false}
use Rattle.std.proofs.lemmas.List.Elements.{All-cons, All-nil, All-append, All-contains}
use Rattle.std.proofs.lemmas.List.{get_or_default}
use Rattle.pb_norm.specs.Constraints.{Weighted, value}
use Rattle.pb_norm.proofs.AdditionValues.{value-cons}
use Rattle.pb_base.specs.Literals.{negated, lit_value, clause_value, IsModel, AgreeBelow}
use Rattle.pb_family.specs.Fresh.{positive_of}
use Rattle.pb_base.proofs.LiteralLemmas.{lit_value-negated}
use Rattle.pb_base.proofs.Members.{Contains-here, Contains-there}
use Rattle.pb_family.specs.Families.{VarsBelow}
use Rattle.pb_family.proofs.ShortClauses.{when_one, when_two}
use Rattle.pb_family.proofs.Extended.{extended, extended_below, extended_fresh, extended_literal}
use Rattle.pb_diagram.specs.declared.interval.Interval.{Interval}
use Rattle.pb_diagram.specs.Clauses.{node_at, head_level, node_clauses, clauses_over}
use Rattle.pb_diagram.specs.inner.Links.{AreLinked, IsRootNode}
use Rattle.pb_diagram.specs.laws.ClauseRows.{NodeRows, from_node_rows}
use Rattle.pb_diagram.specs.laws.LinkedNodes.{place, linked_at, value-cons_true}

-- whether the rest's sum is below the end of a node, by the node's number
below_end : (ℕ → Bool) → List Weighted → List (List Interval) → ℕ → Bool
below_end v [] levels k = false
below_end v (t ∷ ts) [] k = false
below_end v (t ∷ ts) (nodes ∷ levels) k =
    cond (ltb k (length nodes)) (ltb (value v (t ∷ ts)) (get_or nodes k (record { low = 0; top = 0 })).top) (below_end v ts levels (k - length nodes))

below_end_here : (v : ℕ → Bool) (t : Weighted) (ts : List Weighted) (nodes : List Interval) (levels : List (List Interval)) (p : ℕ) (g : Interval) → p < length nodes → get_or nodes p g ≡ g → below_end v (t ∷ ts) (nodes ∷ levels) p ≡ ltb (value v (t ∷ ts)) g.top
unfolding below_end
below_end_here v t ts nodes levels p g within is =
    let none : Interval = record { low = 0; top = 0 } in
    cond-true (ltb p (length nodes)) (ltb (value v (t ∷ ts)) (get_or nodes p none).top) (below_end v ts levels (p - length nodes)) (lt-ltb p (length nodes) within)
    ∙ ap (λ (h : Interval). ltb (value v (t ∷ ts)) h.top) (get_or_default nodes p none g within ∙ is)

below_end_later : (v : ℕ → Bool) (t : Weighted) (ts : List Weighted) (nodes : List Interval) (levels : List (List Interval)) (k : ℕ) → below_end v (t ∷ ts) (nodes ∷ levels) (length nodes + k) ≡ below_end v ts levels k
unfolding below_end
below_end_later v t ts nodes levels k =
    cond-false (ltb (length nodes + k) (length nodes)) (ltb (value v (t ∷ ts)) (get_or nodes (length nodes + k) (record { low = 0; top = 0 })).top) (below_end v ts levels (length nodes + k - length nodes)) (le-ltb (length nodes + k) (length nodes) (omega arith))
    ∙ ap (below_end v ts levels) (let e : length nodes + k - length nodes ≡ k = omega arith in e)

below_end_child : (v : ℕ → Bool) (ts : List Weighted) (levels : List (List Interval)) → AreLinked ts levels → (p : ℕ) (g : Interval) → p < length (head_level levels) → get_or (head_level levels) p g ≡ g → value v ts < g.top → below_end v ts levels p ≡ true
below_end_child v [] [] linked p g within is less = absurd (omega arith)
below_end_child v [] (nodes ∷ levels) linked p g within is less = absurd linked
below_end_child v (t ∷ ts) [] linked p g within is less = absurd linked
below_end_child v (t ∷ ts) (nodes ∷ levels) linked p g within is less =
    below_end_here v t ts nodes levels p g within is ∙ lt-ltb (value v (t ∷ ts)) g.top less

-- an assignment that gives each node its reification makes the clauses true
rows_hold : (v w : ℕ → Bool) (first : ℕ) (ts : List Weighted) (levels : List (List Interval)) → AreLinked ts levels
    → ((t : Weighted) → Contains ts t → lit_value v t.lit ≡ lit_value w t.lit)
    → ((k : ℕ) → w (first + k) ≡ below_end v ts levels k)
    → NodeRows (λ c. clause_value w c ≡ true) first ts levels
rows_hold v w first [] levels linked same means = tt
rows_hold v w first (t ∷ ts) [] linked same means = tt
rows_hold v w first (t ∷ ts) (nodes ∷ levels) linked same means =
    let start = first + length nodes in
    let next = head_level levels in
    let later : (k : ℕ) → w (start + k) ≡ below_end v ts levels k = λ k.
    let e : start + k ≡ first + (length nodes + k) = omega arith in
    ap w e ∙ means (length nodes + k) ∙ below_end_later v t ts nodes levels k in
    let rest = rows_hold v w start ts levels linked.1 (λ u h. same u (Contains-there t ts u h)) later in (
      (λ p g within is.
          let links = linked_at t ts nodes levels linked p g within is in
          let x = positive_of (first + p) in
          let true_below : lit_value w x ≡ true → value v (t ∷ ts) < g.top = λ up.
          ltb-true (value v (t ∷ ts)) g.top (sym (below_end_here v t ts nodes levels p g within is) ∙ sym (means p) ∙ up) in
          let on_true : lit_value w t.lit ≡ true → value v (t ∷ ts) ≡ t.coef + value v ts = λ on. value-cons_true v t ts (same t (Contains-here t ts) ∙ on) in
          record {
            off = λ inner. when_one w x (node_at start next g.low) (λ up.
                let child = links.off inner in
                let less = true_below up in
                let ends = child.ends in
                let one = value-cons v t ts in
                later (place g.low next) ∙ below_end_child v ts levels linked.1 (place g.low next) child.interval child.within child.is (omega arith));
            on = λ room. when_two w x t.lit (node_at start next (g.low - t.coef)) (λ up on.
                let child = links.on room in
                let less = true_below up in
                let ends = child.ends in
                let sum = on_true on in
                later (place (g.low - t.coef) next) ∙ below_end_child v ts levels linked.1 (place (g.low - t.coef) next) child.interval child.within child.is (omega arith));
            full = λ full. when_one w x (negated t.lit) (λ up. lit_value-negated w t.lit ∙ not_from_false (lit_value w t.lit) (false_from_ne_true (lit_value w t.lit) (λ on.
                let ends = links.full full in
                let less = true_below up in
                let sum = on_true on in
                omega arith)));
          }),
      rest,
    )

pub linked_extends : (ts : List Weighted) (bound : ℕ) (levels : List (List Interval)) → AreLinked ts levels → IsRootNode bound levels → (first : ℕ) → VarsBelow first ts → (v : ℕ → Bool) → value v ts ≤ bound
    → (w : ℕ → Bool) × AgreeBelow first v w × IsModel w (clauses_over ts levels first)
linked_extends ts bound levels linked root first below v holds =
    let w = extended v first (below_end v ts levels) in
    let same : (t : Weighted) → Contains ts t → lit_value v t.lit ≡ lit_value w t.lit = λ t h.
    extended_literal v first (below_end v ts levels) t.lit (All-contains (λ (u : Weighted). u.lit.var < first) ts t below h) in
    let within : 0 < length (head_level levels) = omega (arith, ap length root.is) in
    let is : get_or (head_level levels) 0 root.root ≡ root.root = ap (λ (l : List Interval). get_or l 0 root.root) root.is in
    let ends = root.ends in
    let zeroth : first ≡ first + 0 = omega arith in
    let up : w first ≡ true = ap w zeroth ∙ extended_fresh v first (below_end v ts levels) 0 ∙ below_end_child v ts levels linked 0 root.root within is (omega arith) in (
      w,
      extended_below v first (below_end v ts levels),
      All-append (λ c. clause_value w c ≡ true) (node_clauses first ts levels) ((positive_of first ∷ []) ∷ [])
          (from_node_rows (λ c. clause_value w c ≡ true) first ts levels (rows_hold v w first ts levels linked same (extended_fresh v first (below_end v ts levels))))
          (All-cons (λ c. clause_value w c ≡ true) (positive_of first ∷ []) [] (or_left (w first) false up) (All-nil (λ c. clause_value w c ≡ true))),
    )
