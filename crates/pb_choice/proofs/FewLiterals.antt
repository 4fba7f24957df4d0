-- Clauses have few literals: those of a family at most 128, and no clause of a constraint has more than the constraint has terms, and 128.
use Rattle.std.proofs.Common.{◌≡◌, ◌≤◌, ◌<◌, ◌+◌, ◌-◌, ◌^◌, ◌++◌, ◌==◌, not, ℕ, zero, suc, Bool, true, false, cond, List, [], ◌∷◌, length, refl, sym, subst, arith, inl, inr, nat_le, nat_lt, length-append}
use Rattle.std.specs.Prelude.{All, map}
use Rattle.std.specs.List.{flat_map, range_with_len, list_all}
use Rattle.std.proofs.lemmas.Bool.{cases_lt, cond_both, leb-true}
use Rattle.std.proofs.lemmas.List.{length-map}
use Rattle.std.proofs.lemmas.List.Sums.{AllPass-from_list_all}
use Rattle.std.proofs.lemmas.List.Elements.{All-nil, All-cons, All-append, All-map, All-weaker}
use Rattle.pb_base.specs.declared.literal.Lit.{Lit}
use Rattle.pb_base.specs.Literals.{negated}
use Rattle.pb_family.specs.Fresh.{positive_of}
use Rattle.pb_norm.specs.Constraints.{Constraint, IsLinear, Weighted, slack, weight}
use Rattle.pb_norm.specs.declared.reduction.Rest.{Rest}
use Rattle.pb_norm.specs.declared.reduction.Rest.TheVariants as rest
use Rattle.pb_norm.proofs.Lengths.{length-core}
use Rattle.pb_norm.specs.BoundedSums.{BoundedSum}
use Rattle.pb_norm.specs.Reduction.{all_weigh, at_most, core, is_too_light, lits_of, rest_of, sorted, units_of, without_units}
use Rattle.pb_amo.specs.Pairwise.{pairwise_clauses}
use Rattle.pb_amo.specs.Ladder.{link, links, none_after, nones_after, some_after, somes_after, ladder_clauses}
use Rattle.pb_amo.specs.Product.{rows, columns, line, cell, cells, fresh_within, clauses_within, product_clauses}
use Rattle.pb_amo.specs.laws.GridClauses.{clauses_last, clauses_few, clauses_many}
use Rattle.pb_counter.specs.declared.place.Place.{Place}
use Rattle.pb_counter.specs.Counter.{clause_at, places, counter_clauses}
use Rattle.pb_tree.specs.Pairs.{unless_none}
use Rattle.pb_tree.specs.Scheme.{Scheme, values, fresh_of, output, clauses_of, tree_clauses}
use Rattle.pb_tree.specs.Tree.{Tree, tree_of}
use Rattle.pb_tree.specs.Tree.Tree.{empty, leaf, node}
use Rattle.pb_totalizer.specs.Totalizer.{sum_clause, partners, totalizer, totalizer_clauses}
use Rattle.pb_gentot.specs.BoundTable.{neighbour_clause, neighbours, table_clauses, table_output, table_values, uncut}
use Rattle.pb_gentot.specs.Generalized.{one_clause, both_clause, generalized, generalized_clauses}
use Rattle.pb_diagram.specs.declared.interval.Interval.{Interval}
use Rattle.pb_diagram.specs.Clauses.{node_at, false_clause, true_clause, level_clauses, head_level, node_clauses, diagram_clauses}
use Rattle.pb_diagram.specs.Levels.{levels_of}
use Rattle.pb_adder.specs.declared.gate.Gate.{Gate}
use Rattle.pb_adder.specs.declared.gate.Gate.TheVariants.{Full, Half}
use Rattle.pb_adder.specs.Adder.{adder_clauses}
use Rattle.pb_adder.specs.Comparator.{comparator}
use Rattle.pb_adder.specs.Gates.{gate_clauses}
use Rattle.pb_adder.specs.Network.{level_count, network_ends, network_gates}
use Rattle.pb_adder.specs.laws.NetworkLaws.{digits_few}
use Rattle.pb_adder.specs.laws.RowLengths.{comparator_short, ends_length}
use Rattle.pb_choice.specs.declared.treatment.Treatment.{Treatment}
use Rattle.pb_choice.specs.declared.treatment.Treatment.TheVariants as treatment
use Rattle.pb_base.specs.declared.options.Options.{Options}
use Rattle.pb_choice.specs.Choice.{treatment_of}
use Rattle.pb_choice.specs.Clauses.{constraint_clauses, rest_clauses, unit_clause}
use Rattle.pb_choice.specs.Sums.{sum_clauses as clauses_of_sum}
use Rattle.pb_choice.specs.Residual.{rest_terms}
use Rattle.pb_choice.proofs.RestTerms.{rest_light}

-- at most so many literals each
abbrev pub HaveFewLiterals : ℕ → List (List Lit) → Type 0
HaveFewLiterals n clauses = All (λ ls. length ls ≤ n) clauses

each : {X : Type 0} (P : X → Type 0) → ((x : X) → P x) → (xs : List X) → All P xs
each P h [] = All-nil P
each P h (x ∷ xs) = All-cons P x xs (h x) (each P h xs)

pub mapped : {X : Type 0} (n : ℕ) (f : X → List Lit) → ((x : X) → length (f x) ≤ n) → (xs : List X) → HaveFewLiterals n (map f xs)
mapped n f h xs = All-map (λ (ls : List Lit). length ls ≤ n) f xs (each (λ x. length (f x) ≤ n) h xs)

pub joined : (n : ℕ) (xs ys : List (List Lit)) → HaveFewLiterals n xs → HaveFewLiterals n ys → HaveFewLiterals n (xs ++ ys)
joined n xs ys = All-append (λ (ls : List Lit). length ls ≤ n) xs ys

pub flattened : {X : Type 0} (n : ℕ) (f : X → List (List Lit)) → ((x : X) → HaveFewLiterals n (f x)) → (xs : List X) → HaveFewLiterals n (flat_map f xs)
flattened n f h [] = All-nil (λ (ls : List Lit). length ls ≤ n)
flattened n f h (x ∷ xs) = joined n (f x) (flat_map f xs) (h x) (flattened n f h xs)

-- read off by computing
from_test : (n : ℕ) (clauses : List (List Lit)) → list_all (λ ls. nat_le (length ls) n) clauses ≡ true → HaveFewLiterals n clauses
from_test n clauses h =
    let Passes : List Lit → Type 0 = λ ls. nat_le (length ls) n ≡ true in
    All-weaker Passes (λ (ls : List Lit). length ls ≤ n) (λ ls e. leb-true (length ls) n e) clauses (AllPass-from_list_all (λ (ls : List Lit). nat_le (length ls) n) clauses h)

pub longer : (m n : ℕ) → m ≤ n → (clauses : List (List Lit)) → HaveFewLiterals m clauses → HaveFewLiterals n clauses
longer m n le clauses h = All-weaker (λ (ls : List Lit). length ls ≤ m) (λ (ls : List Lit). length ls ≤ n) (λ ls short. omega arith) clauses h

pub none : (n : ℕ) → HaveFewLiterals n []
none n = All-nil (λ (ls : List Lit). length ls ≤ n)

first_is : (n : ℕ) (ls : List Lit) (rest : List (List Lit)) → length ls ≤ n → HaveFewLiterals n rest → HaveFewLiterals n (ls ∷ rest)
first_is n ls rest h more = All-cons (λ (ls : List Lit). length ls ≤ n) ls rest h more

one : (n : ℕ) (ls : List Lit) → length ls ≤ n → HaveFewLiterals n (ls ∷ [])
one n ls h = first_is n ls [] h (none n)

pub two : (n : ℕ) (ks ls : List Lit) → length ks ≤ n → length ls ≤ n → HaveFewLiterals n (ks ∷ ls ∷ [])
two n ks ls h k = first_is n ks (ls ∷ []) h (one n ls k)

-- ---- at most one

pub pairs_short : (ms : List Lit) → HaveFewLiterals 4 (pairwise_clauses ms)
pairs_short [] = none 4
pairs_short (m ∷ ms) = joined 4 (map (λ k. negated m ∷ negated k ∷ []) ms) (pairwise_clauses ms) (mapped 4 (λ k. negated m ∷ negated k ∷ []) (λ k. omega arith) ms) (pairs_short ms)

pub ladder_short : (ms : List Lit) (first : ℕ) → HaveFewLiterals 4 (ladder_clauses ms first)
ladder_short ms first =
    joined 4 (links first (length ms)) (nones_after ms first ++ somes_after ms first)
    (mapped 4 (link first) (λ k. omega arith) (range_with_len 0 (length ms - 2)))
    (joined 4 (nones_after ms first) (somes_after ms first)
    (mapped 4 (none_after ms first) (λ k. omega arith) (range_with_len 0 (length ms - 1)))
    (mapped 4 (some_after ms first) (λ k. omega arith) (range_with_len 0 (length ms - 1))))

pub grid_short : (k : ℕ) (ms : List Lit) (first : ℕ) → HaveFewLiterals 4 (clauses_within k ms first)
grid_short zero ms first = subst (HaveFewLiterals 4) (sym (clauses_last ms first)) (pairs_short ms)
grid_short (suc more) ms first =
    elim (cases_lt 4 (length ms)) as (λ _. HaveFewLiterals 4 (clauses_within (suc more) ms first)) [
      | inr few ↦ subst (HaveFewLiterals 4) (sym (clauses_few more ms first few)) (pairs_short ms)
      | inl many ↦
          let r = rows (length ms) in
          let q = columns (length ms) in
          let inner = clauses_within more (line first r) (first + r + q) in
          let last = clauses_within more (line (first + r) q) (first + r + q + fresh_within more r) in
          subst (HaveFewLiterals 4) (sym (clauses_many more ms first many))
          (joined 4 (cells ms first r q) (inner ++ last)
          (flattened 4 (cell ms first r q) (λ e. two 4 _ _ (omega arith) (omega arith)) (range_with_len 0 (length ms)))
          (joined 4 inner last (grid_short more (line first r) (first + r + q)) (grid_short more (line (first + r) q) (first + r + q + fresh_within more r))))
    ]

-- ---- the counter

place_short : (ms : List Lit) (width first : ℕ) (p : Place) → length (clause_at ms width first p) ≤ 4
place_short ms width first p = grind arith

pub counted_short : (ms : List Lit) (width first : ℕ) → HaveFewLiterals 4 (counter_clauses ms width first)
counted_short ms width first = mapped 4 (clause_at ms width first) (place_short ms width first) (places (length ms) width)

-- ---- trees

merged_short : (s : Scheme) → ((us vs : List ℕ) (f g h : ℕ → Lit) → HaveFewLiterals 4 (s.merged us vs f g h)) → (t : Tree) (first : ℕ) → HaveFewLiterals 4 (clauses_of s t first)
merged_short s node_short empty first = none 4
merged_short s node_short (leaf t) first = none 4
merged_short s node_short (node l r) first =
    let lefts = clauses_of s l first in
    let rights = clauses_of s r (first + fresh_of s l) in
    let own = s.merged (values s l) (values s r) (output s l first) (output s r (first + fresh_of s l)) (output s (node l r) first) in
    joined 4 lefts (rights ++ own) (merged_short s node_short l first)
    (joined 4 rights own (merged_short s node_short r (first + fresh_of s l)) (node_short (values s l) (values s r) (output s l first) (output s r (first + fresh_of s l)) (output s (node l r) first)))

tree_short : (s : Scheme) → ((us vs : List ℕ) (f g h : ℕ → Lit) → HaveFewLiterals 4 (s.merged us vs f g h)) → (t : Tree) (first : ℕ) → HaveFewLiterals 4 (tree_clauses s t first)
tree_short s node_short t first =
    joined 4 (clauses_of s t first) ((negated (output s t first s.cap) ∷ []) ∷ []) (merged_short s node_short t first) (one 4 (negated (output s t first s.cap) ∷ []) (omega arith))

unless_short : (f : ℕ → Lit) (i : ℕ) → length (unless_none f i) ≤ 1
unless_short f zero = omega arith
unless_short f (suc i) = omega arith

pub sum_short : (f g h : ℕ → Lit) (i j : ℕ) → length (sum_clause f g h i j) ≤ 4
sum_short f g h i j =
    omega (arith, length-append (unless_none f i) (unless_none g j ++ h (i + j) ∷ []), length-append (unless_none g j) (h (i + j) ∷ []), unless_short f i, unless_short g j)

pub totalizer_short : (m : BoundedSum) (first : ℕ) → HaveFewLiterals 4 (totalizer_clauses m first)
totalizer_short m first =
    tree_short (totalizer m.bound)
    (λ us vs f g h. flattened 4 (λ i. map (sum_clause f g h i) (partners (m.bound + 1) (length vs) i)) (λ i. mapped 4 (sum_clause f g h i) (sum_short f g h i) (partners (m.bound + 1) (length vs) i)) (range_with_len 0 (length us + 1)))
    (tree_of m.terms) first

generalized_own : (bound : ℕ) (us vs : List ℕ) (f g h : ℕ → Lit) → HaveFewLiterals 4 ((generalized bound).merged us vs f g h)
generalized_own bound us vs f g h =
    let cap = bound + 1 in
    let pairs = flat_map (λ u. map (both_clause cap f g h u) vs) us in
    joined 4 (map (one_clause f h) us) (map (one_clause g h) vs ++ pairs) (mapped 4 (one_clause f h) (λ u. omega arith) us)
    (joined 4 (map (one_clause g h) vs) pairs (mapped 4 (one_clause g h) (λ v. omega arith) vs)
    (flattened 4 (λ u. map (both_clause cap f g h u) vs) (λ u. mapped 4 (both_clause cap f g h u) (λ v. omega arith) vs) us))

pub generalized_short : (m : BoundedSum) (first : ℕ) → HaveFewLiterals 4 (generalized_clauses m first)
generalized_short m first = tree_short (generalized m.bound) (generalized_own m.bound) (tree_of m.terms) first

-- the clauses of a table of bounds
pub table_few_literals : (ts : List Weighted) (first : ℕ) → HaveFewLiterals 4 (table_clauses ts first)
table_few_literals ts first =
    joined 4 (clauses_of (uncut ts) (tree_of ts) first) (map (neighbour_clause (table_output ts first)) (neighbours (table_values ts))) (merged_short (uncut ts) (generalized_own (weight ts)) (tree_of ts) first)
    (mapped 4 (neighbour_clause (table_output ts first)) (λ p. omega arith) (neighbours (table_values ts)))

-- ---- diagrams

false_short : (whole first x : ℕ) (next : List Interval) (g : Interval) → HaveFewLiterals 4 (false_clause whole first next x g)
false_short whole first x next g =
    let child : List Lit = negated (positive_of x) ∷ node_at first next g.low ∷ [] in
    cond_both (nat_le whole g.low) [] (child ∷ []) (HaveFewLiterals 4) (λ _. none 4) (λ _. one 4 child (omega arith))

true_short : (t : Weighted) (first x : ℕ) (next : List Interval) (g : Interval) → length (true_clause t first next x g) ≤ 4
true_short t first x next g =
    let child : List Lit = node_at first next (g.low - t.coef) ∷ [] in
    let few : length (cond {A = List Lit} (nat_lt g.low t.coef) [] child) ≤ 1 = cond_both (nat_lt g.low t.coef) [] child (λ (ls : List Lit). length ls ≤ 1) (λ _. omega arith) (λ _. omega arith) in
    omega (arith, few)

level_short : (t : Weighted) (whole first x : ℕ) (next gs : List Interval) → HaveFewLiterals 4 (level_clauses t whole first next x gs)
level_short t whole first x next [] = none 4
level_short t whole first x next (g ∷ gs) =
    joined 4 (false_clause whole first next x g) (true_clause t first next x g ∷ level_clauses t whole first next (x + 1) gs) (false_short whole first x next g)
    (first_is 4 (true_clause t first next x g) (level_clauses t whole first next (x + 1) gs) (true_short t first x next g) (level_short t whole first (x + 1) next gs))

nodes_short : (first : ℕ) (ts : List Weighted) (levels : List (List Interval)) → HaveFewLiterals 4 (node_clauses first ts levels)
nodes_short first [] levels = none 4
nodes_short first (t ∷ ts) [] = none 4
nodes_short first (t ∷ ts) (nodes ∷ levels) =
    joined 4 (level_clauses t (weight ts) (first + length nodes) (head_level levels) first nodes) (node_clauses (first + length nodes) ts levels)
    (level_short t (weight ts) (first + length nodes) first (head_level levels) nodes) (nodes_short (first + length nodes) ts levels)

pub diagram_short : (m : BoundedSum) (first : ℕ) → HaveFewLiterals 4 (diagram_clauses m first)
diagram_short m first =
    joined 4 (node_clauses first m.terms (levels_of m)) ((positive_of first ∷ []) ∷ []) (nodes_short first m.terms (levels_of m)) (one 4 (positive_of first ∷ []) (omega arith))

-- ---- adders

pub gate_short : (first : ℕ) (g : Gate) → HaveFewLiterals 4 (gate_clauses first g)
gate_short first (Full a b c made) = from_test 4 (gate_clauses first (Full a b c made)) refl
gate_short first (Half a b made) = from_test 4 (gate_clauses first (Half a b made)) refl

-- a row has no more literals than the sum's weight has digits
adders_short : (m : BoundedSum) (first : ℕ) → weight m.terms < 2 ^ 100 → HaveFewLiterals 128 (adder_clauses m.terms m.bound first)
adders_short m first small =
    let ends = network_ends m.terms in
    let few : level_count m.terms ≤ 100 = digits_few 100 (weight m.terms) (weight m.terms) small in
    joined 128 (flat_map (gate_clauses first) (network_gates m.terms)) (comparator first m.bound ends)
    (longer 4 128 (omega arith) (flat_map (gate_clauses first) (network_gates m.terms)) (flattened 4 (gate_clauses first) (gate_short first) (network_gates m.terms)))
    (longer (length ends) 128 (omega (arith, few, ends_length (level_count m.terms) 0 m.terms [] 0)) (comparator first m.bound ends) (comparator_short first m.bound ends))

-- ---- sums and constraints

pub sum_few_literals : (t : Treatment) (m : BoundedSum) (first : ℕ) → weight m.terms < 2 ^ 100 → HaveFewLiterals 128 (clauses_of_sum t m first)
sum_few_literals treatment.Pairwise m first small = longer 4 128 (omega arith) (pairwise_clauses (lits_of m.terms)) (pairs_short (lits_of m.terms))
sum_few_literals treatment.Ladder m first small = longer 4 128 (omega arith) (ladder_clauses (lits_of m.terms) first) (ladder_short (lits_of m.terms) first)
sum_few_literals treatment.Product m first small = longer 4 128 (omega arith) (product_clauses (lits_of m.terms) first) (grid_short (length (lits_of m.terms)) (lits_of m.terms) first)
sum_few_literals treatment.Counter m first small = longer 4 128 (omega arith) (counter_clauses (lits_of m.terms) m.bound first) (counted_short (lits_of m.terms) m.bound first)
sum_few_literals treatment.Totalizer m first small = longer 4 128 (omega arith) (totalizer_clauses m first) (totalizer_short m first)
sum_few_literals treatment.Diagram m first small = longer 4 128 (omega arith) (diagram_clauses m first) (diagram_short m first)
sum_few_literals treatment.Tree m first small = longer 4 128 (omega arith) (generalized_clauses m first) (generalized_short m first)
sum_few_literals treatment.Adder m first small = adders_short m first small
sum_few_literals other m first small = none 128

-- a clause that is left has at most so many literals
unfoldable pub FitsIn : ℕ → Rest → Type 0
FitsIn n (rest.Clause ls) = length ls ≤ n
FitsIn n r = Unit {0}

pub rest_fits : (c : Constraint) → FitsIn (length c.terms) (rest_of c)
unfolding FitsIn
rest_fits c = by_tests (is_too_light c) ((without_units c).degree == 0) (not (all_weigh 1 (core c).terms)) ((core c).degree == 1) (slack (core c) == 1)
  where
    by_tests : (light done weighted clause single : Bool) → FitsIn (length c.terms) (cond light rest.Empty (cond done rest.Nothing
        (cond weighted (rest.General (sorted (at_most (core c)))) (cond clause (rest.Clause (lits_of (core c).terms)) (cond single (rest.One (at_most (core c))) (rest.Card (at_most (core c))))))))
    by_tests false false false true single = omega (arith, length-map (core c).terms (λ (t : Weighted). t.lit), length-core c)
    by_tests false false false false true = tt
    by_tests light done weighted clause single = tt

rest_shorter : (n : ℕ) (t : Treatment) (r : Rest) (first : ℕ) → FitsIn n r → weight (rest_terms r) < 2 ^ 100 → HaveFewLiterals (n + 128) (rest_clauses t r first)
unfolding FitsIn
rest_shorter n t rest.Nothing first few small = none (n + 128)
rest_shorter n t rest.Empty first few small = one (n + 128) [] (omega arith)
rest_shorter n t (rest.Clause ls) first few small = one (n + 128) ls (omega (arith, few))
rest_shorter n t (rest.One m) first few small = longer 128 (n + 128) (omega arith) (clauses_of_sum t m first) (sum_few_literals t m first small)
rest_shorter n t (rest.Card m) first few small = longer 128 (n + 128) (omega arith) (clauses_of_sum t m first) (sum_few_literals t m first small)
rest_shorter n t (rest.General m) first few small = longer 128 (n + 128) (omega arith) (clauses_of_sum t m first) (sum_few_literals t m first small)

-- no clause of a constraint has more literals than it has terms, and 128
pub constraint_few_literals : (o : Options) (c : Constraint) (first : ℕ) → IsLinear c → weight c.terms < 2 ^ 100 → HaveFewLiterals (length c.terms + 128) (constraint_clauses o c first)
constraint_few_literals o c first linear small =
    let n = length c.terms + 128 in
    let rest = rest_clauses (treatment_of o (rest_of c)) (rest_of c) first in
    joined n (map unit_clause (units_of c)) rest
    (mapped n unit_clause (λ l. omega arith) (units_of c))
    (rest_shorter (length c.terms) (treatment_of o (rest_of c)) (rest_of c) first (rest_fits c) (omega (arith, small, rest_light c linear)))
