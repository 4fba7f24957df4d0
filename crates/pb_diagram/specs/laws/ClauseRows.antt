-- The clauses of a diagram, one by one. It serves proofs alone.
use Rattle.std.proofs.Common.{◌≡◌, ◌<◌, ◌≤◌, ◌+◌, ◌-◌, ℕ, ltb, leb, List, [], ◌∷◌, length, get_or, refl, subst, arith, zero, suc}
use Rattle.std.specs.Prelude.{All}
use Rattle.std.proofs.lemmas.Bool.{lt-ltb, le-ltb, lt-leb, ltb-true, ltb-false, leb-false, cond-true, cond-false, cond_both}
use Rattle.std.proofs.lemmas.List.Elements.{All-cons, All-head, All-tail, All-nil, All-append}
use Rattle.pb_base.specs.declared.literal.Lit.{Lit}
use Rattle.pb_norm.specs.Constraints.{Weighted, weight}
use Rattle.pb_base.specs.Literals.{negated}
use Rattle.pb_family.specs.Fresh.{positive_of}
use Rattle.pb_base.proofs.Members.{All-append_both}
use Rattle.pb_diagram.specs.declared.interval.Interval.{Interval}
use Rattle.pb_diagram.specs.Clauses.{node_at, false_clause, true_clause, level_clauses, head_level, node_clauses}

-- a property of each clause of a node
pub record NodeRow (P : List Lit → Type 0) (t : Weighted) (whole first : ℕ) (next : List Interval) (x : ℕ) (g : Interval) : Type 0 where
  pub off : g.low < whole → P (negated (positive_of x) ∷ node_at first next g.low ∷ [])
  pub on : t.coef ≤ g.low → P (negated (positive_of x) ∷ negated t.lit ∷ node_at first next (g.low - t.coef) ∷ [])
  pub full : g.low < t.coef → P (negated (positive_of x) ∷ negated t.lit ∷ [])

-- of each node of a level
abbrev pub LevelRows : (List Lit → Type 0) → Weighted → ℕ → ℕ → List Interval → ℕ → List Interval → Type 0
LevelRows P t whole first next x nodes =
    (p : ℕ) (g : Interval) → p < length nodes → get_or nodes p g ≡ g → NodeRow P t whole first next (x + p) g

-- of each node
abbrev pub NodeRows : (List Lit → Type 0) → ℕ → List Weighted → List (List Interval) → Type 0
NodeRows P first [] levels = Unit {0}
NodeRows P first (t ∷ ts) [] = Unit {0}
NodeRows P first (t ∷ ts) (nodes ∷ levels) =
    LevelRows P t (weight ts) (first + length nodes) (head_level levels) first nodes
    × NodeRows P (first + length nodes) ts levels

node_row : (P : List Lit → Type 0) (t : Weighted) (whole first : ℕ) (next : List Interval) (x : ℕ) (g : Interval) → All P (false_clause whole first next x g) → P (true_clause t first next x g) → NodeRow P t whole first next x g
node_row P t whole first next x g off on =
    let clause : List Lit = negated (positive_of x) ∷ node_at first next g.low ∷ [] in
    let child : List Lit = node_at first next (g.low - t.coef) ∷ [] in
    record {
      off = λ below. All-head P clause [] (subst (λ (cs : List (List Lit)). All P cs) (cond-false (leb whole g.low) [] (clause ∷ []) (lt-leb whole g.low below)) off);
      on = λ above. subst (λ (ls : List Lit). P (negated (positive_of x) ∷ negated t.lit ∷ ls)) (cond-false (ltb g.low t.coef) [] child (le-ltb g.low t.coef above)) on;
      full = λ below. subst (λ (ls : List Lit). P (negated (positive_of x) ∷ negated t.lit ∷ ls)) (cond-true (ltb g.low t.coef) [] child (lt-ltb g.low t.coef below)) on;
    }

from_row_off : (P : List Lit → Type 0) (t : Weighted) (whole first : ℕ) (next : List Interval) (x : ℕ) (g : Interval) → NodeRow P t whole first next x g → All P (false_clause whole first next x g)
from_row_off P t whole first next x g row =
    let clause : List Lit = negated (positive_of x) ∷ node_at first next g.low ∷ [] in
    cond_both (leb whole g.low) [] (clause ∷ []) (λ cs. All P cs) (λ _. All-nil P) (λ fails. All-cons P clause [] (row.off (leb-false whole g.low fails)) (All-nil P))

from_row_on : (P : List Lit → Type 0) (t : Weighted) (whole first : ℕ) (next : List Interval) (x : ℕ) (g : Interval) → NodeRow P t whole first next x g → P (true_clause t first next x g)
from_row_on P t whole first next x g row =
    let child : List Lit = node_at first next (g.low - t.coef) ∷ [] in
    cond_both (ltb g.low t.coef) [] child (λ ls. P (negated (positive_of x) ∷ negated t.lit ∷ ls)) (λ passes. row.full (ltb-true g.low t.coef passes)) (λ fails. row.on (ltb-false g.low t.coef fails))

level_rows : (P : List Lit → Type 0) (t : Weighted) (whole first : ℕ) (next : List Interval) (x : ℕ) (nodes : List Interval) → All P (level_clauses t whole first next x nodes) → LevelRows P t whole first next x nodes
level_rows P t whole first next x [] all p g within is = absurd (omega arith)
level_rows P t whole first next x (h ∷ hs) all zero g within is =
    let rest = level_clauses t whole first next (x + 1) hs in
    let parts = All-append_both P (false_clause whole first next x h) (true_clause t first next x h ∷ rest) all in
    let here = node_row P t whole first next x h parts.0 (All-head P (true_clause t first next x h) rest parts.1) in
    let same : x ≡ x + zero = omega arith in
    subst (λ (k : Interval). NodeRow P t whole first next (x + zero) k) is (subst (λ (y : ℕ). NodeRow P t whole first next y h) same here)
level_rows P t whole first next x (h ∷ hs) all (suc p) g within is =
    let rest = level_clauses t whole first next (x + 1) hs in
    let parts = All-append_both P (false_clause whole first next x h) (true_clause t first next x h ∷ rest) all in
    let later = level_rows P t whole first next (x + 1) hs (All-tail P (true_clause t first next x h) rest parts.1) p g (omega arith) is in
    let same : x + 1 + p ≡ x + suc p = omega arith in
    subst (λ (y : ℕ). NodeRow P t whole first next y g) same later

from_level_rows : (P : List Lit → Type 0) (t : Weighted) (whole first : ℕ) (next : List Interval) (x : ℕ) (nodes : List Interval) → LevelRows P t whole first next x nodes → All P (level_clauses t whole first next x nodes)
from_level_rows P t whole first next x [] rows = All-nil P
from_level_rows P t whole first next x (h ∷ hs) rows =
    let zeroth : x + 0 ≡ x = omega arith in
    let here : NodeRow P t whole first next x h = subst (λ (y : ℕ). NodeRow P t whole first next y h) zeroth (rows 0 h (omega arith) refl) in
    let rest = level_clauses t whole first next (x + 1) hs in
    All-append P (false_clause whole first next x h) (true_clause t first next x h ∷ rest)
    (from_row_off P t whole first next x h here)
    (All-cons P (true_clause t first next x h) rest (from_row_on P t whole first next x h here)
    (from_level_rows P t whole first next (x + 1) hs (λ p g within is.
    let same : x + suc p ≡ x + 1 + p = omega arith in
    subst (λ (y : ℕ). NodeRow P t whole first next y g) same (rows (suc p) g (omega arith) is))))

pub node_rows : (P : List Lit → Type 0) (first : ℕ) (ts : List Weighted) (levels : List (List Interval)) → All P (node_clauses first ts levels) → NodeRows P first ts levels
node_rows P first [] levels all = tt
node_rows P first (t ∷ ts) [] all = tt
node_rows P first (t ∷ ts) (nodes ∷ levels) all =
    let parts = All-append_both P (level_clauses t (weight ts) (first + length nodes) (head_level levels) first nodes) (node_clauses (first + length nodes) ts levels) all in
    (level_rows P t (weight ts) (first + length nodes) (head_level levels) first nodes parts.0, node_rows P (first + length nodes) ts levels parts.1)

pub from_node_rows : (P : List Lit → Type 0) (first : ℕ) (ts : List Weighted) (levels : List (List Interval)) → NodeRows P first ts levels → All P (node_clauses first ts levels)
from_node_rows P first [] levels rows = All-nil P
from_node_rows P first (t ∷ ts) [] rows = All-nil P
from_node_rows P first (t ∷ ts) (nodes ∷ levels) rows =
    All-append P (level_clauses t (weight ts) (first + length nodes) (head_level levels) first nodes) (node_clauses (first + length nodes) ts levels)
    (from_level_rows P t (weight ts) (first + length nodes) (head_level levels) first nodes rows.0)
    (from_node_rows P (first + length nodes) ts levels rows.1)
