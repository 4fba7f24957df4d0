-- The rows of a comparator are no longer than its levels are many.
use Rattle.std.proofs.Common.{◌≡◌, ◌≤◌, ◌+◌, ◌*◌, ◌/◌, ◌==◌, ℕ, cond, List, [], ◌∷◌, length, length-append, refl, ap, arith, zero, suc}
use Rattle.std.specs.Prelude.{All, map, Option, Some, None}
use Rattle.std.proofs.lemmas.Bool.{cond_both}
use Rattle.std.proofs.lemmas.List.{length-map}
use Rattle.std.proofs.lemmas.List.Elements.{All-cons, All-nil, All-append, All-map, All-weaker}
use Rattle.pb_base.specs.declared.literal.Lit.{Lit}
use Rattle.pb_norm.specs.Constraints.{Weighted}
use Rattle.pb_adder.specs.declared.gate.Wire.{Wire}
use Rattle.pb_base.specs.Literals.{negated}
use Rattle.pb_adder.specs.Gates.{carry_wire, wire_lit}
use Rattle.pb_adder.specs.Network.{gates_of, queue_at, ends_from}
use Rattle.pb_adder.specs.Comparator.{is_odd, with_end, covering, row_at, row_of, comparator_rows, row_clause, comparator}

FoundShort : ℕ → Option (List Wire) → Type 0
FoundShort n None = Unit {0}
FoundShort n (Some ws) = length ws ≤ n

found_longer : (m n : ℕ) (o : Option (List Wire)) → m ≤ n → FoundShort m o → FoundShort n o
unfolding FoundShort
found_longer m n None le h = tt
found_longer m n (Some ws) le h = omega arith

with_end_short : (n : ℕ) (e : Option Wire) (rest : Option (List Wire)) → FoundShort n rest → FoundShort (suc n) (with_end e rest)
unfolding FoundShort
with_end_short n None rest h = tt
with_end_short n (Some w) None h = tt
with_end_short n (Some w) (Some ws) h = omega arith

covering_short : (k : ℕ) (es : List (Option Wire)) → FoundShort (length es) (covering k es)
unfolding FoundShort
covering_short k [] = cond_both (k == 0) (Some []) None (FoundShort 0) (λ _. omega arith) (λ _. tt)
covering_short k (e ∷ es) =
    let rest = covering_short (k / 2) es in
    cond_both (is_odd k) (with_end e (covering (k / 2) es)) (covering (k / 2) es) (FoundShort (suc (length es)))
    (λ _. with_end_short (length es) e (covering (k / 2) es) rest)
    (λ _. found_longer (length es) (suc (length es)) (covering (k / 2) es) (omega arith) rest)

abbrev Short : ℕ → List Wire → Type 0
Short n row = length row ≤ n

row_short : (n : ℕ) (w : Wire) (found : Option (List Wire)) → FoundShort n found → All (Short (suc n)) (row_of w found)
unfolding FoundShort
row_short n w None h = All-nil (Short (suc n))
row_short n w (Some ws) h = All-cons (Short (suc n)) (w ∷ ws) [] (omega arith) (All-nil (Short (suc n)))

rows_short : (k : ℕ) (es : List (Option Wire)) → All (Short (length es)) (comparator_rows k es)
rows_short k [] = All-nil (Short 0)
rows_short k (None ∷ es) = All-weaker (Short (length es)) (Short (suc (length es))) (λ row h. omega (arith, h)) (comparator_rows (k / 2) es) (rows_short (k / 2) es)
rows_short k (Some w ∷ es) =
    let row = row_of w (covering (k / 2) es) in
    All-append (Short (suc (length es))) (cond (is_odd k) [] row) (comparator_rows (k / 2) es)
    (cond_both (is_odd k) [] row (All (Short (suc (length es)))) (λ _. All-nil (Short (suc (length es)))) (λ _. row_short (length es) w (covering (k / 2) es) (covering_short (k / 2) es)))
    (All-weaker (Short (length es)) (Short (suc (length es))) (λ row h. omega (arith, h)) (comparator_rows (k / 2) es) (rows_short (k / 2) es))

pub comparator_short : (first k : ℕ) (es : List (Option Wire)) → All (λ (c : List Lit). length c ≤ length es) (comparator first k es)
comparator_short first k es =
    All-map (λ (c : List Lit). length c ≤ length es) (row_clause first) (comparator_rows k es)
    (All-weaker (Short (length es)) (λ row. length (row_clause first row) ≤ length es) (λ row h. omega (arith, h, length-map row (λ (w : Wire). negated (wire_lit first w)))) (comparator_rows k es) (rows_short k es))

pub ends_length : (n level : ℕ) (ts : List Weighted) (carried : List Wire) (made : ℕ) → length (ends_from n level ts carried made) ≡ n
ends_length zero level ts carried made = refl
ends_length (suc n) level ts carried made =
    let gates = gates_of (queue_at ts level carried) made in
    ap suc (ends_length n (level + 1) ts (map carry_wire gates) (made + 2 * length gates))

-- no level has more than one
pub row_at_few : (bound : ℕ) (e : Option Wire) (above : List (Option Wire)) → length (row_at bound e above) ≤ 1
row_at_few bound None above = omega arith
row_at_few bound (Some w) above =
    cond_both (is_odd bound) [] (row_of w (covering (bound / 2) above)) (λ (r : List (List Wire)). length r ≤ 1) (λ _. omega arith) (λ _. few (covering (bound / 2) above))
  where
    few : (found : Option (List Wire)) → length (row_of w found) ≤ 1
    few None = omega arith
    few (Some ws) = omega arith

rows_few : (k : ℕ) (es : List (Option Wire)) → length (comparator_rows k es) ≤ length es
rows_few k [] = omega arith
rows_few k (e ∷ es) = omega (arith, length-append (row_at k e es) (comparator_rows (k / 2) es), row_at_few k e es, rows_few (k / 2) es)

pub comparator_few : (first k : ℕ) (es : List (Option Wire)) → length (comparator first k es) ≤ length es
comparator_few first k es = omega (arith, length-map (comparator_rows k es) (row_clause first), rows_few k es)
