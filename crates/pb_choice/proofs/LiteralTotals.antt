-- How many literals clauses have together: those of a constraint four each, and besides what its one clause or an adder's comparator has beyond that.
use Rattle.std.proofs.Common.{◌≡◌, ◌≤◌, ◌<◌, ◌+◌, ◌*◌, ◌^◌, ◌++◌, ℕ, Bool, true, false, cond, List, [], ◌∷◌, length, arith, length-append}
use Rattle.std.specs.Prelude.{map, sum_by}
use Rattle.std.specs.List.{flat_map}
use Rattle.std.proofs.lemmas.List.Elements.{All-head, All-tail}
use Rattle.std.proofs.lemmas.List.Sums.{sum_by-append, sum_by-cons}
use Rattle.pb_base.specs.declared.literal.Lit.{Lit}
use Rattle.pb_norm.specs.BoundedSums.{BoundedSum}
use Rattle.pb_norm.specs.Constraints.{Constraint, IsLinear, weight}
use Rattle.pb_norm.specs.Reduction.{lits_of, rest_of, units_of}
use Rattle.pb_norm.specs.declared.reduction.Rest.{Rest}
use Rattle.pb_norm.specs.declared.reduction.Rest.TheVariants as rest
use Rattle.pb_amo.specs.Pairwise.{pairwise_clauses}
use Rattle.pb_amo.specs.Ladder.{ladder_clauses}
use Rattle.pb_amo.specs.Product.{product_clauses}
use Rattle.pb_counter.specs.Counter.{counter_clauses}
use Rattle.pb_totalizer.specs.Exact.{exact_clauses}
use Rattle.pb_totalizer.specs.Totalizer.{totalizer_clauses}
use Rattle.pb_gentot.specs.Generalized.{generalized_clauses}
use Rattle.pb_diagram.specs.Clauses.{diagram_clauses}
use Rattle.pb_adder.specs.Adder.{adder_clauses}
use Rattle.pb_adder.specs.Comparator.{comparator}
use Rattle.pb_adder.specs.Gates.{gate_clauses}
use Rattle.pb_adder.specs.Network.{level_count, network_ends, network_gates}
use Rattle.pb_adder.specs.laws.NetworkLaws.{digits_few}
use Rattle.pb_adder.specs.laws.RowLengths.{comparator_few, comparator_short, ends_length}
use Rattle.pb_base.specs.declared.options.Options.{Options}
use Rattle.pb_choice.specs.declared.treatment.Treatment.{Treatment}
use Rattle.pb_choice.specs.declared.treatment.Treatment.TheVariants as treatment
use Rattle.pb_choice.specs.Choice.{treatment_of}
use Rattle.pb_choice.specs.Clauses.{constraint_clauses, constraint_fresh, rest_clauses, unit_clause}
use Rattle.pb_choice.specs.EqualityLaws.{IsEquality}
use Rattle.pb_choice.specs.Equals.{equality_clauses, is_joint, literals_asked}
use Rattle.pb_choice.specs.Residual.{rest_terms}
use Rattle.pb_choice.specs.Sums.{sum_clauses as clauses_of_sum}
use Rattle.pb_choice.proofs.FewInEqualities.{exact_short}
use Rattle.pb_choice.proofs.FewLiterals.{FitsIn, HaveFewLiterals, counted_short, diagram_short, flattened, gate_short, generalized_short, grid_short, ladder_short, longer, mapped, pairs_short, rest_fits, totalizer_short}
use Rattle.pb_choice.proofs.RestTerms.{rest_light}

-- how many literals there are
abbrev pub literal_total : List (List Lit) → ℕ
literal_total clauses = sum_by (λ ls. length ls) clauses

pub total_append : (xs ys : List (List Lit)) → literal_total (xs ++ ys) ≡ literal_total xs + literal_total ys
total_append xs ys = sum_by-append (λ (ls : List Lit). length ls) xs ys

pub total_cons : (ls : List Lit) (clauses : List (List Lit)) → literal_total (ls ∷ clauses) ≡ length ls + literal_total clauses
total_cons ls clauses = sum_by-cons (λ (ks : List Lit). length ks) ls clauses

pub total_few : (n : ℕ) (clauses : List (List Lit)) → HaveFewLiterals n clauses → literal_total clauses ≤ n * length clauses
total_few n [] h = omega arith
total_few n (ls ∷ clauses) h =
    let Few : List Lit → Type 0 = λ ks. length ks ≤ n in
    omega (arith, total_cons ls clauses, All-head Few ls clauses h, total_few n clauses (All-tail Few ls clauses h))

-- what the clauses of a constraint of so many terms may have beyond four each
abbrev pub beyond_four : ℕ → Treatment → ℕ
beyond_four n treatment.Clause = n
beyond_four n treatment.Adder = 10000
beyond_four n t = 0

-- ---- sums

-- a sum has no more than 100 digits, and so has its comparator's row for each of them
adder_total : (m : BoundedSum) (first : ℕ) → weight m.terms < 2 ^ 100 → literal_total (adder_clauses m.terms m.bound first) ≤ 4 * length (adder_clauses m.terms m.bound first) + 10000
adder_total m first small =
    let ends = network_ends m.terms in
    let gates = flat_map (gate_clauses first) (network_gates m.terms) in
    let rows = comparator first m.bound ends in
    let few : level_count m.terms ≤ 100 = digits_few 100 (weight m.terms) (weight m.terms) small in
    let levels : length ends ≤ 100 = omega (arith, few, ends_length (level_count m.terms) 0 m.terms [] 0) in
    omega (
      arith,
      total_append gates rows,
      length-append gates rows,
      total_few 4 gates (flattened 4 (gate_clauses first) (gate_short first) (network_gates m.terms)),
      total_few 100 rows (longer (length ends) 100 levels rows (comparator_short first m.bound ends)),
      comparator_few first m.bound ends,
      levels,
    )

sum_total : (n : ℕ) (t : Treatment) (m : BoundedSum) (first : ℕ) → weight m.terms < 2 ^ 100 → literal_total (clauses_of_sum t m first) ≤ 4 * length (clauses_of_sum t m first) + beyond_four n t
sum_total n treatment.Pairwise m first small = omega (arith, total_few 4 (pairwise_clauses (lits_of m.terms)) (pairs_short (lits_of m.terms)))
sum_total n treatment.Ladder m first small = omega (arith, total_few 4 (ladder_clauses (lits_of m.terms) first) (ladder_short (lits_of m.terms) first))
sum_total n treatment.Product m first small = omega (arith, total_few 4 (product_clauses (lits_of m.terms) first) (grid_short (length (lits_of m.terms)) (lits_of m.terms) first))
sum_total n treatment.Counter m first small = omega (arith, total_few 4 (counter_clauses (lits_of m.terms) m.bound first) (counted_short (lits_of m.terms) m.bound first))
sum_total n treatment.Totalizer m first small = omega (arith, total_few 4 (totalizer_clauses m first) (totalizer_short m first))
sum_total n treatment.Diagram m first small = omega (arith, total_few 4 (diagram_clauses m first) (diagram_short m first))
sum_total n treatment.Tree m first small = omega (arith, total_few 4 (generalized_clauses m first) (generalized_short m first))
sum_total n treatment.Adder m first small = adder_total m first small
sum_total n other m first small = omega arith

-- ---- constraints

rest_total : (o : Options) (n : ℕ) (r : Rest) (first : ℕ) → FitsIn n r → weight (rest_terms r) < 2 ^ 100
    → literal_total (rest_clauses (treatment_of o r) r first) ≤ 4 * length (rest_clauses (treatment_of o r) r first) + beyond_four n (treatment_of o r)
unfolding FitsIn
rest_total o n rest.Nothing first few small = omega arith
rest_total o n rest.Empty first few small = omega (arith, total_cons [] [])
rest_total o n (rest.Clause ls) first few small = omega (arith, total_cons ls [], few)
rest_total o n (rest.One m) first few small = sum_total n (treatment_of o (rest.One m)) m first small
rest_total o n (rest.Card m) first few small = sum_total n (treatment_of o (rest.Card m)) m first small
rest_total o n (rest.General m) first few small = sum_total n (treatment_of o (rest.General m)) m first small

pub constraint_total : (o : Options) (c : Constraint) (first : ℕ) → IsLinear c → weight c.terms < 2 ^ 100
    → literal_total (constraint_clauses o c first) ≤ 4 * length (constraint_clauses o c first) + beyond_four (length c.terms) (treatment_of o (rest_of c))
constraint_total o c first linear small =
    let units = map unit_clause (units_of c) in
    let rest = rest_clauses (treatment_of o (rest_of c)) (rest_of c) first in
    omega (
      arith,
      total_append units rest,
      length-append units rest,
      total_few 4 units (mapped 4 unit_clause (λ l. omega arith) (units_of c)),
      rest_total o (length c.terms) (rest_of c) first (rest_fits c) (omega (arith, small, rest_light c linear)),
    )

-- ---- equalities

-- what the clauses of two halves may have beyond four each, which are encoded as one or half by half
abbrev pub both_beyond_four : Options → Constraint → Constraint → ℕ
both_beyond_four o c d = cond (is_joint o c) 0 (beyond_four (length c.terms) (treatment_of o (rest_of c)) + beyond_four (length d.terms) (treatment_of o (rest_of d)))

pub equality_total : (o : Options) (c d : Constraint) (first : ℕ) → IsEquality c d → weight c.terms < 2 ^ 100 → weight d.terms < 2 ^ 100
    → literal_total (equality_clauses o c d first) ≤ 4 * length (equality_clauses o c d first) + both_beyond_four o c d
equality_total o c d first equality lower_light upper_light = by_test (is_joint o c)
  where
    by_test : (b : Bool) → literal_total (cond b (exact_clauses (literals_asked c) first) (constraint_clauses o c first ++ constraint_clauses o d (first + constraint_fresh o c)))
        ≤ 4 * length (cond b (exact_clauses (literals_asked c) first) (constraint_clauses o c first ++ constraint_clauses o d (first + constraint_fresh o c)))
        + cond b 0 (beyond_four (length c.terms) (treatment_of o (rest_of c)) + beyond_four (length d.terms) (treatment_of o (rest_of d)))
    by_test true = omega (arith, total_few 4 (exact_clauses (literals_asked c) first) (exact_short (literals_asked c) first))
    by_test false =
        omega (
          arith,
          total_append (constraint_clauses o c first) (constraint_clauses o d (first + constraint_fresh o c)),
          length-append (constraint_clauses o c first) (constraint_clauses o d (first + constraint_fresh o c)),
          constraint_total o c first equality.lower_linear lower_light,
          constraint_total o d (first + constraint_fresh o c) equality.upper_linear upper_light,
        )
