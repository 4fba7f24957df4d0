-- What unit propagation derives from the clauses of linked nodes, and what follows from that. It serves proofs alone.
use Rattle.std.proofs.Common.{◌≡◌, ◌<◌, ◌≤◌, ◌+◌, ◌-◌, ℕ, Bool, true, cond, List, [], ◌∷◌, length, get_or, refl, sym, ap, subst, arith, inl, inr}
use Rattle.std.specs.Prelude.{Contains, All}
use Rattle.std.proofs.lemmas.Bool.{cases_lt}
use Rattle.std.proofs.lemmas.List.Elements.{All-head, All-contains_itself}
use Rattle.std.proofs.lemmas.List.Sums.{sum_by-le-sum_by}
use Rattle.pb_base.specs.declared.literal.Lit.{Lit}
use Rattle.pb_base.specs.Literals.{negated, is_among, IsModel}
use Rattle.pb_base.proofs.Members.{All-append_both, Contains-nil, Contains-cons_cases, cases_contains, not_among_from}
use Rattle.pb_base.proofs.Sums.{sum_by_gap}
use Rattle.pb_norm.specs.Constraints.{Weighted, weight}
use Rattle.pb_norm.specs.BoundedSums.{BoundedSum, StaysWithin, IsOverDistinct}
use Rattle.pb_norm.specs.ClausePropagation.{ClausesPropagate}
use Rattle.pb_norm.proofs.Derived.{Derived, Refuted, first_of_two, second_of}
use Rattle.pb_norm.proofs.Derived.Derived.{by_given}
use Rattle.pb_norm.proofs.BoundedForcing.{cond_le, given_sum-cons_given, given_sum-cons_new, given_sum}
use Rattle.pb_family.specs.Fresh.{positive_of}
use Rattle.pb_family.proofs.ShortClauses.{left_over, derived_left, twice}
use Rattle.pb_family.proofs.Models.{sound_from_sums}
use Rattle.pb_diagram.specs.laws.Within.{propagates_within}
use Rattle.pb_diagram.specs.declared.interval.Interval.{Interval}
use Rattle.pb_diagram.specs.Clauses.{node_at, head_level, node_clauses, clauses_over}
use Rattle.pb_diagram.specs.inner.Links.{AreLinked, IsRootNode}
use Rattle.pb_diagram.specs.laws.ClauseRows.{NodeRows, node_rows}
use Rattle.pb_diagram.specs.laws.LinkedNodes.{place, linked_at}

-- ---- clauses of three literals

module _ (cs : List (List Lit)) (given : List Lit) (a b c : Lit) (listed : Contains cs (a ∷ b ∷ c ∷ [])) where
  first_of_three : Derived cs given (negated b) → Derived cs given (negated c) → Derived cs given a
  first_of_three db dc = derived_left cs given a (left_over cs given (a ∷ b ∷ c ∷ []) a listed (0, omega arith, refl) (inl refl, (inr db, (inr dc, tt))))

  second_of_three : Derived cs given (negated a) → Derived cs given (negated c) → Derived cs given b
  second_of_three da dc = derived_left cs given b (left_over cs given (a ∷ b ∷ c ∷ []) b listed (1, omega arith, refl) (inr da, (inl refl, (inr dc, tt))))

  third_of_three : Derived cs given (negated a) → Derived cs given (negated b) → Derived cs given c
  third_of_three da db = derived_left cs given c (left_over cs given (a ∷ b ∷ c ∷ []) c listed (2, omega arith, refl) (inr da, (inr db, (inl refl, tt))))

-- ---- the given sum

given_sum-le : (given : List Lit) (ts : List Weighted) → given_sum given ts ≤ weight ts
given_sum-le given ts = sum_by-le-sum_by (λ (t : Weighted). cond (is_among given t.lit) t.coef 0) (λ (t : Weighted). t.coef) ts (λ t. cond_le (is_among given t.lit) true t.coef (λ _. refl))

-- a term that is not given has room beside those that are
given_sum-le_without : (given : List Lit) (u : Weighted) → ¬ Contains given u.lit → (ts : List Weighted) → Contains ts u → given_sum given ts + u.coef ≤ weight ts
given_sum-le_without given u new ts inside =
    let none : cond (is_among given u.lit) u.coef 0 ≡ 0 = ap (λ (b : Bool). cond b u.coef 0) (not_among_from given u.lit new) in
    sum_by_gap (λ (t : Weighted). cond (is_among given t.lit) t.coef 0) (λ (t : Weighted). t.coef) ts u u.coef (λ t. cond_le (is_among given t.lit) true t.coef (λ _. refl)) inside (omega arith)

-- ---- from node to node

module _ (cs : List (List Lit)) (given : List Lit) where
  -- a node that begins below the given sum is false
  falls : (first : ℕ) (ts : List Weighted) (levels : List (List Interval)) → AreLinked ts levels → NodeRows (Contains cs) first ts levels
      → (p : ℕ) (g : Interval) → p < length (head_level levels) → get_or (head_level levels) p g ≡ g → g.low < given_sum given ts → Derived cs given (negated (positive_of (first + p)))
  falls first [] [] linked rows p g within is below = absurd (omega arith)
  falls first [] (nodes ∷ levels) linked rows p g within is below = absurd linked
  falls first (t ∷ ts) [] linked rows p g within is below = absurd linked
  falls first (t ∷ ts) (nodes ∷ levels) linked rows p g within is below =
      let links = linked_at t ts nodes levels linked p g within is in
      let row = rows.0 p g within is in
      let next = head_level levels in
      let start = first + length nodes in
      let x = positive_of (first + p) in
      let later = falls start ts levels linked.1 rows.1 in
      elim (cases_contains given t.lit) as (λ _. Derived cs given (negated x)) [
        | inl among ↦
            let sum = given_sum-cons_given given t ts among in
            let m = twice cs given t.lit (by_given among) in
            elim (cases_lt g.low t.coef) as (λ _. Derived cs given (negated x)) [
              | inl full ↦ first_of_two cs given (negated x) (negated t.lit) (row.full full) m
              | inr room ↦
                  let child = links.on room in
                  let starts = child.starts in
                  first_of_three cs given (negated x) (negated t.lit) (node_at start next (g.low - t.coef)) (row.on room) m
                  (later (place (g.low - t.coef) next) child.interval child.within child.is (omega arith))
            ]
        | inr new ↦
            let sum = given_sum-cons_new given t ts new in
            let most = given_sum-le given ts in
            let inner : g.low < weight ts = omega arith in
            let child = links.off inner in
            let starts = child.starts in
            first_of_two cs given (negated x) (node_at start next g.low) (row.off inner)
            (later (place g.low next) child.interval child.within child.is (omega arith))
      ]

  -- from a true node down to the term that has no room left
  pushed : (first : ℕ) (ts : List Weighted) (levels : List (List Interval)) → AreLinked ts levels → NodeRows (Contains cs) first ts levels
      → (u : Weighted) → Contains ts u → ¬ Contains given u.lit
      → (p : ℕ) (g : Interval) → p < length (head_level levels) → get_or (head_level levels) p g ≡ g
      → Derived cs given (positive_of (first + p)) → given_sum given ts < g.top → g.low < given_sum given ts + u.coef → Derived cs given (negated u.lit)
  pushed first [] levels linked rows u inside new p g within is up met above = absurd (Contains-nil u inside)
  pushed first (t ∷ ts) [] linked rows u inside new p g within is up met above = absurd linked
  pushed first (t ∷ ts) (nodes ∷ levels) linked rows u inside new p g within is up met above =
      let links = linked_at t ts nodes levels linked p g within is in
      let row = rows.0 p g within is in
      let next = head_level levels in
      let start = first + length nodes in
      let x = positive_of (first + p) in
      let on = twice cs given x up in
      elim (Contains-cons_cases t ts u inside) as (λ _. Derived cs given (negated u.lit)) [
        | inl same ↦
            let sum = given_sum-cons_new given t ts (λ among. new (subst (λ (k : Weighted). Contains given k.lit) same among)) in
            let coef = ap (λ (k : Weighted). k.coef) same in
            subst (λ (k : Weighted). Derived cs given (negated k.lit)) same
            (elim (cases_lt g.low t.coef) as (λ _. Derived cs given (negated t.lit)) [
              | inl full ↦ second_of cs given (negated x) (negated t.lit) (row.full full) on
              | inr room ↦
                  let child = links.on room in
                  let starts = child.starts in
                  second_of_three cs given (negated x) (negated t.lit) (node_at start next (g.low - t.coef)) (row.on room) on
                  (falls start ts levels linked.1 rows.1 (place (g.low - t.coef) next) child.interval child.within child.is (omega arith))
            ])
        | inr later ↦ elim (cases_contains given t.lit) as (λ _. Derived cs given (negated u.lit)) [
          | inl among ↦
              let sum = given_sum-cons_given given t ts among in
              elim (cases_lt g.low t.coef) as (λ _. Derived cs given (negated u.lit)) [
                | inl full ↦ let ends = links.full full in absurd (omega arith)
                | inr room ↦
                    let child = links.on room in
                    let starts = child.starts in
                    let ends = child.ends in
                    pushed start ts levels linked.1 rows.1 u later new (place (g.low - t.coef) next) child.interval child.within child.is
                    (third_of_three cs given (negated x) (negated t.lit) (node_at start next (g.low - t.coef)) (row.on room) on (twice cs given t.lit (by_given among)))
                    (omega arith) (omega arith)
              ]
          | inr other ↦
              let sum = given_sum-cons_new given t ts other in
              let most = given_sum-le_without given u new ts later in
              let inner : g.low < weight ts = omega arith in
              let child = links.off inner in
              let starts = child.starts in
              let ends = child.ends in
              pushed start ts levels linked.1 rows.1 u later new (place g.low next) child.interval child.within child.is
              (second_of cs given (negated x) (node_at start next g.low) (row.off inner) on)
              (omega arith) (omega arith)
        ]
      ]

-- ---- the laws

module _ (c : BoundedSum) (levels : List (List Interval)) (linked : AreLinked c.terms levels) (root : IsRootNode c.bound levels) (first : ℕ) where
  abbrev cs : List (List Lit)
  cs = clauses_over c.terms levels first

  parts : All (Contains cs) (node_clauses first c.terms levels) × All (Contains cs) ((positive_of first ∷ []) ∷ [])
  parts = All-append_both (Contains cs) (node_clauses first c.terms levels) ((positive_of first ∷ []) ∷ []) (All-contains_itself cs)

  rows : NodeRows (Contains cs) first c.terms levels
  rows = node_rows (Contains cs) first c.terms levels parts.0

  unit : Contains cs (positive_of first ∷ [])
  unit = All-head (Contains cs) (positive_of first ∷ []) [] parts.1

  within : 0 < length (head_level levels)
  within = omega (arith, ap length root.is)

  is : get_or (head_level levels) 0 root.root ≡ root.root
  is = ap (λ (l : List Interval). get_or l 0 root.root) root.is

  zeroth : first + 0 ≡ first
  zeroth = omega arith

  -- a sum above the bound is refuted at the root
  pub linked_refutes : (given : List Lit) → c.bound < given_sum given c.terms → Refuted cs given
  linked_refutes given above =
      let starts = root.starts in
      let off = subst (λ (n : ℕ). Derived cs given (negated (positive_of n))) zeroth (falls cs given first c.terms levels linked rows 0 root.root within is (omega arith)) in
      record {
        clause = positive_of first ∷ [];
        listed = unit;
        is_false = λ k h.
            elim (Contains-cons_cases (positive_of first) [] k h) as (λ _. Derived cs given (negated k)) [
              | inl e ↦ subst (λ (m : Lit). Derived cs given (negated m)) e off
              | inr none ↦ absurd (Contains-nil k none)
            ];
      }

  pub linked_sound : (v : ℕ → Bool) → IsModel v cs → StaysWithin v c
  linked_sound v model = sound_from_sums cs c linked_refutes v model

  pub linked_propagates : IsOverDistinct c.terms → ClausesPropagate cs (λ a. StaysWithin a c)
  linked_propagates distinct =
      propagates_within cs c distinct linked_refutes
      (λ given t inside new met above.
      let ends = root.ends in
      let x = positive_of (first + 0) in
      let unit_at : Contains cs (x ∷ []) = subst (λ (n : ℕ). Contains cs (positive_of n ∷ [])) (sym zeroth) unit in
      let up = derived_left cs given x (left_over cs given (x ∷ []) x unit_at (0, omega arith, refl) (inl refl, tt)) in
      pushed cs given first c.terms levels linked rows t inside new 0 root.root within is up (omega arith) (omega arith))
