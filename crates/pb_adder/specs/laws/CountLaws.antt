-- The lists are as long as the counts say.
use Rattle.std.proofs.Common.{◌≡◌, ◌≢◌, ◌<◌, ◌≤◌, ◌+◌, ◌-◌, ◌*◌, ◌/◌, ◌%◌, ◌==◌, ◌&&◌, ◌||◌, ℕ, Bool, true, false, cond, not, List, [], ◌∷◌, ◌++◌, length, refl, sym, ap, ◌∙◌, arith, inl, inr, zero, suc, length-append}
use Rattle.std.specs.Prelude.{map, sum_by, count_by, Option, Some, None, is_some}
use Rattle.std.specs.List.{filter, flat_map}
use Rattle.std.proofs.lemmas.Bool.{cases_Bool, eqb-true, eqb-false, ne_eqb, cond-true, cond-false}
use Rattle.std.proofs.lemmas.List.{length-map}
use Rattle.std.proofs.Math.Nat.{suc-mul}
use Rattle.std.proofs.lemmas.List.Sums.{sum_by-cons, length-filter, count_by-le-length}
use Rattle.std.proofs.lemmas.Grind.{flat_map-append}
use Rattle.pb_norm.specs.Constraints.{Weighted}
use Rattle.pb_adder.specs.declared.gate.Wire.{Wire}
use Rattle.pb_adder.specs.declared.gate.Wire.TheVariants.{Input, Made}
use Rattle.pb_adder.specs.declared.gate.Gate.{Gate}
use Rattle.pb_adder.specs.declared.gate.Gate.TheVariants.{Full, Half}
use Rattle.pb_adder.specs.Gates.{gate_clauses, carry_wire}
use Rattle.pb_adder.specs.Comparator.{is_odd, with_end, covering, row_of, comparator_rows}
use Rattle.pb_adder.specs.Counts.{sizes_from, level_sizes, full_count, half_count, adder_count, adder_clause_count, is_covered, kept_count, adder_fresh, adder_size, has_end, gate_clause_count}
use Rattle.pb_adder.specs.Network.{has_bit, inputs_at, level_gates, level_left, gates_of, oldest_of, level_end, queue_at, gates_from, ends_from, level_count, network_gates, network_ends}
use Rattle.pb_adder.specs.laws.NetworkLaws.{gates_length}

-- ---- one level

half_is : (b : ℕ) → half_count b ≡ b / 2 - (b - 1) / 2
half_is b =
    elim (cases_Bool (b == 0)) as (λ _. half_count b ≡ b / 2 - (b - 1) / 2) [
      | inl none ↦
          let is_zero = eqb-true b 0 none in
          let count : half_count b ≡ 0 = cond-true (b == 0) 0 (cond (b % 2 == 0) 1 0) none in
          omega arith
      | inr some ↦
          let above : b ≢ 0 = eqb-false b 0 some in
          let count : half_count b ≡ cond (b % 2 == 0) 1 0 = cond-false (b == 0) 0 (cond (b % 2 == 0) 1 0) some in
          elim (cases_Bool (b % 2 == 0)) as (λ _. half_count b ≡ b / 2 - (b - 1) / 2) [
            | inl even ↦
                let bit = eqb-true (b % 2) 0 even in
                let count : half_count b ≡ 1 = count ∙ cond-true (b % 2 == 0) 1 0 even in
                omega arith
            | inr odd ↦
                let bit : b % 2 ≢ 0 = eqb-false (b % 2) 0 odd in
                let count : half_count b ≡ 0 = count ∙ cond-false (b % 2 == 0) 1 0 odd in
                omega arith
          ]
    ]

level_clause_count : (first n : ℕ) (queue : List Wire) (made : ℕ) → 2 * n ≤ length queue → length queue ≤ 2 * n + 1
    → length (flat_map (gate_clauses first) (level_gates n queue made)) ≡ 14 * full_count (length queue) + 7 * half_count (length queue)
level_clause_count first n queue made low high = omega (arith, half_is (length queue), by_parts first n queue made low high)
  where
    by_parts : (first n : ℕ) (queue : List Wire) (made : ℕ) → 2 * n ≤ length queue → length queue ≤ 2 * n + 1
        → length (flat_map (gate_clauses first) (level_gates n queue made)) ≡ 14 * ((length queue - 1) / 2) + 7 * (length queue / 2 - (length queue - 1) / 2)
    by_parts first zero queue made low high = omega arith
    by_parts first (suc n) [] made low high = absurd (omega arith)
    by_parts first (suc n) (a ∷ []) made low high = absurd (omega arith)
    by_parts first (suc n) (a ∷ b ∷ []) made low high = omega arith
    by_parts first (suc n) (a ∷ b ∷ c ∷ rest) made low high =
        let later = rest ++ Made made ∷ [] in
        let size = length-append rest (Made made ∷ []) in
        omega (
          arith,
          by_parts first n later (made + 2) (omega arith) (omega arith),
          length-append (gate_clauses first (Full a b c made)) (flat_map (gate_clauses first) (level_gates n later (made + 2))),
        )

queue_length : (ts : List Weighted) (level : ℕ) (carried : List Wire) → length (queue_at ts level carried) ≡ count_by (has_bit level) ts + length carried
queue_length ts level carried =
    omega (
      arith,
      length-append (inputs_at ts level) carried,
      length-map (filter (has_bit level) ts) (λ (t : Weighted). Input t.lit),
      length-filter (has_bit level) ts,
    )

carries_length : (ts : List Weighted) (level : ℕ) (carried : List Wire) (made : ℕ) → length (map carry_wire (gates_of (queue_at ts level carried) made)) ≡ (count_by (has_bit level) ts + length carried) / 2
carries_length ts level carried made =
    length-map (gates_of (queue_at ts level carried) made) carry_wire ∙ gates_length (queue_at ts level carried) made ∙ ap (λ n. n / 2) (queue_length ts level carried)

-- ---- all levels

gates_count : (n level : ℕ) (ts : List Weighted) (carried : List Wire) (made : ℕ) → length (gates_from n level ts carried made) ≡ adder_count (sizes_from n level ts (length carried))
gates_count zero level ts carried made = refl
gates_count (suc n) level ts carried made =
    let gates = gates_of (queue_at ts level carried) made in
    let size = count_by (has_bit level) ts + length carried in
    let rest = gates_count n (level + 1) ts (map carry_wire gates) (made + 2 * length gates) in
    let same : adder_count (sizes_from n (level + 1) ts (length (map carry_wire gates))) ≡ adder_count (sizes_from n (level + 1) ts (size / 2)) = ap (λ c. adder_count (sizes_from n (level + 1) ts c)) (carries_length ts level carried made) in
    omega (
      arith,
      rest,
      same,
      length-append gates (gates_from n (level + 1) ts (map carry_wire gates) (made + 2 * length gates)),
      sum_by-cons (λ b. full_count b + half_count b) size (sizes_from n (level + 1) ts (size / 2)),
      half_is size,
      gates_length (queue_at ts level carried) made,
      queue_length ts level carried,
    )

gate_clauses_count : (first n level : ℕ) (ts : List Weighted) (carried : List Wire) (made : ℕ)
    → length (flat_map (gate_clauses first) (gates_from n level ts carried made)) ≡ adder_clause_count (sizes_from n level ts (length carried))
gate_clauses_count first zero level ts carried made = refl
gate_clauses_count first (suc n) level ts carried made =
    let queue = queue_at ts level carried in
    let gates = gates_of queue made in
    let size = count_by (has_bit level) ts + length carried in
    let later = gates_from n (level + 1) ts (map carry_wire gates) (made + 2 * length gates) in
    let rest = gate_clauses_count first n (level + 1) ts (map carry_wire gates) (made + 2 * length gates) in
    let same : adder_clause_count (sizes_from n (level + 1) ts (length (map carry_wire gates))) ≡ adder_clause_count (sizes_from n (level + 1) ts (size / 2)) = ap (λ c. adder_clause_count (sizes_from n (level + 1) ts c)) (carries_length ts level carried made) in
    let here : length (flat_map (gate_clauses first) gates) ≡ 14 * full_count size + 7 * half_count size =
    level_clause_count first (length queue / 2) queue made (omega arith) (omega arith) ∙ ap (λ b. 14 * full_count b + 7 * half_count b) (queue_length ts level carried) in
    omega (
      arith,
      rest,
      same,
      here,
      ap length (flat_map-append (gate_clauses first) gates later),
      length-append (flat_map (gate_clauses first) gates) (flat_map (gate_clauses first) later),
      sum_by-cons (λ b. 14 * full_count b + 7 * half_count b) size (sizes_from n (level + 1) ts (size / 2)),
    )

-- ---- the comparator

with_end_there : (e : Option Wire) (o : Option (List Wire)) → is_some (with_end e o) ≡ (has_end e && is_some o)
with_end_there None o = refl
with_end_there (Some w) None = refl
with_end_there (Some w) (Some ws) = refl

covered_count : (k : ℕ) (es : List (Option Wire)) → is_some (covering k es) ≡ is_covered k (map has_end es)
covered_count k [] = at_end (k == 0)
  where
    at_end : (b : Bool) → is_some {T = List Wire} (cond b (Some []) None) ≡ b
    at_end true = refl
    at_end false = refl
covered_count k (e ∷ es) =
    choose (is_odd k) (has_end e) (with_end e (covering (k / 2) es)) (covering (k / 2) es) (is_covered (k / 2) (map has_end es)) (with_end_there e (covering (k / 2) es)) (covered_count (k / 2) es)
  where
    choose : (odd has : Bool) (o r : Option (List Wire)) (covered : Bool) → is_some o ≡ (has && is_some r) → is_some r ≡ covered → is_some (cond odd o r) ≡ ((not odd || has) && covered)
    choose true has o r covered eo er = eo ∙ ap (λ b. has && b) er
    choose false has o r covered eo er = er

comparator_rows_count : (k : ℕ) (es : List (Option Wire)) → length (comparator_rows k es) ≡ kept_count k (map has_end es)
comparator_rows_count k [] = refl
comparator_rows_count k (None ∷ es) = omega (arith, comparator_rows_count (k / 2) es)
comparator_rows_count k (Some w ∷ es) =
    let row = cond (is_odd k) [] (row_of w (covering (k / 2) es)) in
    omega (
      arith,
      comparator_rows_count (k / 2) es,
      length-append row (comparator_rows (k / 2) es),
      one_row (is_odd k) (covering (k / 2) es) (is_covered (k / 2) (map has_end es)) (covered_count (k / 2) es),
    )
  where
    row_length : (o : Option (List Wire)) → length (row_of w o) ≡ cond (is_some o) 1 0
    row_length None = refl
    row_length (Some ws) = refl

    one_row : (odd : Bool) (o : Option (List Wire)) (covered : Bool) → is_some o ≡ covered → length (cond odd [] (row_of w o)) ≡ cond (not odd && covered) 1 0
    one_row true o covered e = refl
    one_row false o covered e = row_length o ∙ ap (λ b. cond b 1 0) e

some_left : (n : ℕ) (queue : List Wire) (made : ℕ) → 0 < length queue → 0 < length (level_left n queue made)
some_left zero queue made some = some
some_left (suc n) [] made some = some
some_left (suc n) (a ∷ []) made some = some
some_left (suc n) (a ∷ b ∷ []) made some = omega arith
some_left (suc n) (a ∷ b ∷ c ∷ rest) made some =
    let size = length-append rest (Made made ∷ []) in
    some_left n (rest ++ Made made ∷ []) (made + 2) (omega arith)

first_there : (ws : List Wire) → 0 < length ws → has_end (oldest_of ws) ≡ true
first_there [] some = absurd (omega arith)
first_there (w ∷ ws) some = refl

end_there : (queue : List Wire) (made : ℕ) → has_end (level_end queue made) ≡ not (length queue == 0)
end_there [] made = none (0 / 2) made
  where
    none : (n made : ℕ) → has_end (oldest_of (level_left n [] made)) ≡ false
    none zero made = refl
    none (suc n) made = refl
end_there (w ∷ queue) made =
    first_there (level_left (length (w ∷ queue) / 2) (w ∷ queue) made) (some_left (length (w ∷ queue) / 2) (w ∷ queue) made (omega arith))
    ∙ sym (ap not (ne_eqb (length (w ∷ queue)) 0 (λ e. omega arith)))

ends_there : (n level : ℕ) (ts : List Weighted) (carried : List Wire) (made : ℕ)
    → map has_end (ends_from n level ts carried made) ≡ map (λ b. not (b == 0)) (sizes_from n level ts (length carried))
ends_there zero level ts carried made = refl
ends_there (suc n) level ts carried made =
    let gates = gates_of (queue_at ts level carried) made in
    let size = count_by (has_bit level) ts + length carried in
    let head : has_end (level_end (queue_at ts level carried) made) ≡ not (size == 0) = end_there (queue_at ts level carried) made ∙ ap (λ b. not (b == 0)) (queue_length ts level carried) in
    let rest : map has_end (ends_from n (level + 1) ts (map carry_wire gates) (made + 2 * length gates)) ≡ map (λ b. not (b == 0)) (sizes_from n (level + 1) ts (size / 2)) =
    ends_there n (level + 1) ts (map carry_wire gates) (made + 2 * length gates) ∙ ap (λ c. map (λ b. not (b == 0)) (sizes_from n (level + 1) ts c)) (carries_length ts level carried made) in
    ap (λ b. b ∷ map has_end (ends_from n (level + 1) ts (map carry_wire gates) (made + 2 * length gates))) head ∙ ap (λ bs. not (size == 0) ∷ bs) rest

-- ---- a whole network

pub network_fresh : (ts : List Weighted) → 2 * length (network_gates ts) ≡ adder_fresh ts
network_fresh ts = ap (λ n. 2 * n) (gates_count (level_count ts) 0 ts [] 0)

pub counted_network_clauses : (first : ℕ) (gs : List Gate) → length (flat_map (gate_clauses first) gs) ≡ sum_by gate_clause_count gs
counted_network_clauses first [] = refl
counted_network_clauses first (g ∷ gs) = omega (arith, length-append (gate_clauses first g) (flat_map (gate_clauses first) gs), counted_network_clauses first gs, sum_by-cons gate_clause_count g gs, one_gate g)
  where
    one_gate : (g : Gate) → length (gate_clauses first g) ≡ gate_clause_count g
    one_gate (Full a b c made) = refl
    one_gate (Half a b made) = refl

-- what the code counts
pub counted_total : (ts : List Weighted) (bound : ℕ) → sum_by gate_clause_count (network_gates ts) + kept_count bound (map has_end (network_ends ts)) ≡ adder_size ts bound
counted_total ts bound =
    let gates = counted_network_clauses 0 (network_gates ts) in
    let adders = gate_clauses_count 0 (level_count ts) 0 ts [] 0 in
    let kept : kept_count bound (map has_end (network_ends ts)) ≡ kept_count bound (map (λ b. not (b == 0)) (level_sizes ts)) = ap (kept_count bound) (ends_there (level_count ts) 0 ts [] 0) in
    omega arith

pub network_clauses : (first : ℕ) (ts : List Weighted) → length (flat_map (gate_clauses first) (network_gates ts)) ≡ adder_clause_count (level_sizes ts)
network_clauses first ts = gate_clauses_count first (level_count ts) 0 ts [] 0

pub comparator_count : (bound : ℕ) (ts : List Weighted) → length (comparator_rows bound (network_ends ts)) ≡ kept_count bound (map (λ b. not (b == 0)) (level_sizes ts))
comparator_count bound ts = comparator_rows_count bound (network_ends ts) ∙ ap (kept_count bound) (ends_there (level_count ts) 0 ts [] 0)

-- ---- how many there are at most

pub gates_few : (n level : ℕ) (ts : List Weighted) (carried : List Wire) (made : ℕ) → length carried ≤ length ts → length (gates_from n level ts carried made) ≤ n * length ts
gates_few zero level ts carried made few = omega arith
gates_few (suc n) level ts carried made few =
    let gates = gates_of (queue_at ts level carried) made in
    let later = gates_from n (level + 1) ts (map carry_wire gates) (made + 2 * length gates) in
    let carries = carries_length ts level carried made in
    let size = gates_length (queue_at ts level carried) made in
    let queue = queue_length ts level carried in
    let inputs = count_by-le-length (has_bit level) ts in
    let rest = gates_few n (level + 1) ts (map carry_wire gates) (made + 2 * length gates) (omega arith) in
    let product : suc n * length ts ≡ n * length ts + length ts = suc-mul n (length ts) in
    omega (arith, length-append gates later)
