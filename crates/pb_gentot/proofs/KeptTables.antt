-- A table as the code keeps it.
use Rattle.std.proofs.Common.{◌≡◌, ◌<◌, ◌≤◌, ◌+◌, ◌-◌, ◌^◌, ℕ, ℤ, pos, List, [], ◌∷◌, length, get_or, refl, sym, ap, ◌∙◌, arith, Some}
use Rattle.std.specs.List.{slice_get}
use Rattle.std.specs.Option.{option_map}
use Rattle.std.proofs.lemmas.List.Elements.{Contains-get_or}
use Rattle.std.proofs.lemmas.Nat.{mul-le}
use Rattle.std.proofs.lemmas.Option.{slice_get-map, slice_get-get_or}
use Rattle.pb_base.specs.declared.literal.Lit.{Lit}
use Rattle.pb_base.specs.declared.literal.Term.{Term}
use Rattle.pb_norm.specs.Constraints.{Weighted, weight, weights}
use Rattle.pb_tree.specs.Scheme.{values, fresh_of, output, clause_count_of}
use Rattle.pb_tree.specs.Tree.{split_within, tree_of}
use Rattle.pb_tree.proofs.SplitTerms.{leaf_of}
use Rattle.pb_tree.proofs.Splitting.{split-node}
use Rattle.pb_gentot.specs.BoundTable.{IsTable, uncut, table_values, table_output, table_fresh, table_rows}
use Rattle.pb_gentot.specs.Generalized.{generalized}
use Rattle.pb_gentot.specs.declared.measure.Part.{Part}
use Rattle.pb_gentot.specs.declared.outputs.Outputs.TheVariants.{Single, Fresh}
use Rattle.pb_gentot.specs.inner.KeptTables.{IsKeptTable, clauses_by, steps_by}
use Rattle.pb_gentot.specs.inner.Measured.{IsPartMeasured}
use Rattle.pb_gentot.specs.inner.Outputs.{output_in}
use Rattle.pb_gentot.proofs.Bounds.{bounds}
use Rattle.pb_gentot.proofs.Emitting.{node_output}
use Rattle.pb_gentot.proofs.TableValues.{table_value_within}

-- ---- no term

pub no_values : (bound : ℕ) → values (generalized bound) (tree_of []) ≡ []
unfolding split_within
no_values bound = refl

pub no_clauses : (bound : ℕ) (ts : List Term) (first : ℕ) → length ts ≡ 0 → clauses_by bound ts first ≡ []
unfolding split_within
no_clauses bound [] first none = refl
no_clauses bound (t ∷ ts) first none = absurd (omega (arith, none))

pub no_steps : (bound : ℕ) (ts : List Term) (first next : ℕ) → length ts ≡ 0 → steps_by bound ts first next ≡ []
unfolding split_within
no_steps bound [] first next none = refl
no_steps bound (t ∷ ts) first next none = absurd (omega (arith, none))

-- ---- its numbers

pub none_measured : (bound budget : ℕ) (ts : List Term) (part : Part) → length ts ≡ 0 → part.values.items ≡ [] → part.fresh ≡ 0 → part.clauses ≡ 0 → IsPartMeasured bound budget (tree_of (weights ts)) part
unfolding split_within
none_measured bound budget [] part none made fresh clauses = record { values_are = made; fresh_is = fresh; clauses_are = clauses; fits = omega arith }
none_measured bound budget (t ∷ ts) part none made fresh clauses = absurd (omega (arith, none))

-- a fresh variable at least for each term but the first
pub many_fresh : (bound budget : ℕ) (ts : List Term) → 1 ≤ length ts → budget < length ts - 1 → budget < fresh_of (generalized bound) (tree_of (weights ts))
many_fresh bound budget ts some above = omega (arith, (bounds bound ts some).leaves, above)

-- where the fresh variables are within a budget, the clauses are fewer than 2 ^ 60
pub table_modest : (bound : ℕ) (ts : List Term) → fresh_of (generalized bound) (tree_of (weights ts)) < 2 ^ 24
    → clause_count_of (generalized bound) (tree_of (weights ts)) + (length (values (generalized bound) (tree_of (weights ts))) - 1) < 2 ^ 60
unfolding split_within
table_modest bound [] fits = omega arith
table_modest bound (t ∷ ts) fits =
    let all = t ∷ ts in
    let b = bounds bound all (omega arith) in
    let m = fresh_of (generalized bound) (tree_of (weights all)) + length all in
    let small : m ≤ 2 ^ 25 = omega (arith, b.leaves, fits) in
    omega (arith, b.clauses, b.count, mul-le m m (2 ^ 25) (2 ^ 25) small small)

pub kept_of : (ts : List Term) (bound budget : ℕ) (part : Part) (between : ℕ) → IsTable (weights ts) → weight (weights ts) < 2 ^ 100 → bound ≡ weight (weights ts) → budget < 2 ^ 24
    → IsPartMeasured bound budget (tree_of (weights ts)) part → between ≡ length part.values.items - 1 → IsKeptTable ts bound part.values.items part.fresh (part.clauses + between)
kept_of ts bound budget part between table light whole modest measured count =
    let fits = measured.fits in
    let all = table_modest bound ts (omega arith) in
    let same = λ (w : ℕ). clause_count_of (generalized w) (tree_of (weights ts)) + (length (values (generalized w) (tree_of (weights ts))) - 1) in
    let size : part.clauses + between ≡ same bound = omega (arith, measured.clauses_are, count, ap length measured.values_are) in
    record {
      table = table;
      light = light;
      weight_is = whole;
      values_are = measured.values_are ∙ ap (λ (w : ℕ). values (generalized w) (tree_of (weights ts))) whole;
      fresh_is = measured.fresh_is ∙ ap (λ (w : ℕ). fresh_of (generalized w) (tree_of (weights ts))) whole;
      clauses_is = size ∙ ap same whole;
      modest = omega (arith, all, size);
    }

-- ---- the literals of its rows

pub single_output : (ts : List Term) (d : Term) (first : ℕ) (us : List ℕ) → length ts ≡ 1 → output_in (Single (get_or ts 0 d).lit) us ≡ table_output (weights ts) first
single_output ts d first us one = ap (λ t. output (uncut (weights ts)) t first) (sym (leaf_of ts d one))

two_or_more : (ts : List Term) → 1 ≤ length (table_values (weights ts)) → (length ts ≡ 1 → ⊥) → 2 ≤ length (weights ts)
two_or_more [] some other = absurd (omega (arith, some, ap length (no_values (weight []))))
two_or_more (t ∷ []) some other = absurd (other refl)
two_or_more (t ∷ u ∷ us) some other = omega arith

-- with two terms or more, the last fresh variables
pub root_fresh : (ts : List Term) → 1 ≤ length (table_values (weights ts)) → (length ts ≡ 1 → ⊥) → length (table_values (weights ts)) ≤ table_fresh (weights ts)
root_fresh ts some other =
    let s = uncut (weights ts) in
    let tree = split-node (weights ts) (two_or_more ts some other) in
    omega (arith, ap (λ t. length (values s t)) tree, ap (fresh_of s) tree)

pub fresh_output : (ts : List Term) (first base : ℕ) (us : List ℕ) → 1 ≤ length (table_values (weights ts)) → (length ts ≡ 1 → ⊥) → us ≡ table_values (weights ts)
    → base ≡ first + (table_fresh (weights ts) - length (table_values (weights ts))) → output_in (Fresh base) us ≡ table_output (weights ts) first
fresh_output ts first base us some other own is =
    let s = uncut (weights ts) in
    let tree = split-node (weights ts) (two_or_more ts some other) in
    let whole = ap (λ t. length (values s t)) tree in
    let fresh = ap (fresh_of s) tree in
    node_output (weight (weights ts)) _ _ first base us (omega (arith, is, whole, fresh)) (own ∙ ap (values s) tree) ∙ ap (λ t. output s t first) (sym tree)

-- ---- its rows

abbrev as_row : ℤ → Lit → ℤ × Lit
as_row z lit = (z, lit)

pub row_is : (ts : List Weighted) (first i : ℕ) (z : ℤ) (lit : Lit) → i < length (table_values ts) → z ≡ pos (get_or (table_values ts) i 0) → lit ≡ table_output ts first (get_or (table_values ts) i 0)
    → Some (as_row z lit) ≡ slice_get (table_rows ts first) i
row_is ts first i z lit within is named =
    let row = λ (u : ℕ). as_row (pos u) (table_output ts first u) in
    (λ k. Some (as_row (is k) (named k))) ∙ sym (slice_get-map row (table_values ts) i ∙ ap (option_map row) (slice_get-get_or (table_values ts) i 0 within))

pub row_small : (ts : List Weighted) (i : ℕ) → weight ts < 2 ^ 100 → i < length (table_values ts) → get_or (table_values ts) i 0 < 2 ^ 100
row_small ts i light within = omega (arith, table_value_within ts (get_or (table_values ts) i 0) (Contains-get_or (table_values ts) i 0 within), light)
