-- The rows of a table, one after another.
use Rattle.std.proofs.Common.{◌≡◌, ◌<◌, ◌+◌, ◌++◌, ◌^◌, ℕ, zero, suc, Bool, true, false, cond, ℤ, pos, ◌+ℤ◌, List, [], ◌∷◌, Option, Some, None, map, take, length, sym, ap, subst, ◌∙◌, arith, slice_get}
use Rattle.std.specs.Prelude.{Contains}
use Rattle.std.specs.Int.RustNames.{unsigned_abs}
use Rattle.std.proofs.lemmas.List.{length-map}
use Rattle.pb_base.specs.declared.literal.Lit.{Lit}
use Rattle.pb_base.specs.declared.problem.Problem.{Problem}
use Rattle.pb_base.proofs.Members.{Contains-here, Contains-there}
use Rattle.pb_norm.specs.Constraints.{Weighted, weight}
use Rattle.pb_norm.specs.Reduction.{by_weight}
use Rattle.pb_base.specs.declared.options.Options.{Options}
use Rattle.pb_gentot.specs.BoundTable.{table_output, table_rows, table_values}
use Rattle.pb_gentot.proofs.KeptTables.{no_values}
use Rattle.pb_gentot.proofs.TableValues.{table_value_within}
use Rattle.pb_encode.specs.declared.summary.Summary.{Summary}
use Rattle.pb_encode.specs.Bounds.{bound_rows}
use Rattle.pb_encode.specs.Clauses.{table_first}
use Rattle.pb_encode.specs.Costs.{objective_form, offset_of}
use Rattle.pb_encode.specs.Summaries.{summary_of}
use Rattle.pb_encode.specs.Tables.{table_terms}

-- rows whose values are from an offset on
abbrev pub risen : ℤ → List (ℤ × Lit) → List (ℤ × Lit)
risen z rows = map (λ (r : ℤ × Lit). (z +ℤ r.0, r.1)) rows

-- one row more
one_more : (z : ℤ) (rows : List (ℤ × Lit)) (i : ℕ) (r : ℤ × Lit) → slice_get rows i ≡ Some r → risen z (take (suc i) rows) ≡ risen z (take i rows) ++ (z +ℤ r.0, r.1) ∷ []
one_more z [] i r at = cc
one_more z (x ∷ rows) zero r at =
    let same : x ≡ r = cc in
    ap (λ (y : ℤ × Lit). (z +ℤ y.0, y.1) ∷ []) same
one_more z (x ∷ rows) (suc i) r at = ap (λ (later : List (ℤ × Lit)). (z +ℤ x.0, x.1) ∷ later) (one_more z rows i r at)

pub rows_more : (z : ℤ) (rows : List (ℤ × Lit)) (i : ℕ) (r : ℤ × Lit) (now next : List (ℤ × Lit)) (x : ℤ) → slice_get rows i ≡ Some r → now ≡ risen z (take i rows) → next ≡ now ++ (x, r.1) ∷ [] → x ≡ z +ℤ r.0
    → next ≡ risen z (take (i + 1) rows)
rows_more z rows i r now next x at is pushed value =
    let one : suc i ≡ i + 1 = omega arith in
    pushed ∙ ap (λ (made : List (ℤ × Lit)). made ++ (x, r.1) ∷ []) is ∙ ap (λ (v : ℤ). risen z (take i rows) ++ (v, r.1) ∷ []) value
    ∙ sym (one_more z rows i r at) ∙ ap (λ (n : ℕ). risen z (take n rows)) one

-- there is a row at each place
pub row_there : (rows : List (ℤ × Lit)) (i : ℕ) → i < length rows → slice_get rows i ≡ None → ⊥
row_there [] i below none = omega (arith, below)
row_there (x ∷ rows) zero below none = cc
row_there (x ∷ rows) (suc i) below none = row_there rows i (omega (arith, below)) none

pub rows_count : (ts : List Weighted) (first : ℕ) → length (table_rows ts first) ≡ length (table_values ts)
rows_count ts first = length-map (table_values ts) (λ (u : ℕ). (pos u, table_output ts first u))

-- the value of a row is small
row_of : (f : ℕ → Lit) (us : List ℕ) (i : ℕ) (r : ℤ × Lit) → slice_get (map (λ (u : ℕ). (pos u, f u)) us) i ≡ Some r → (u : ℕ) × Contains us u × (r ≡ (pos u, f u))
row_of f [] i r at = cc
row_of f (u ∷ us) zero r at = let same : (pos u, f u) ≡ r = cc in (u, Contains-here u us, sym same)
row_of f (u ∷ us) (suc i) r at = let found = row_of f us i r at in (found.0, Contains-there u us found.0 found.1, found.2)

pub row_small : (ts : List Weighted) (first i : ℕ) (r : ℤ × Lit) → weight ts < 2 ^ 100 → slice_get (table_rows ts first) i ≡ Some r → unsigned_abs r.0 < 2 ^ 126
row_small ts first i r light at =
    let found = row_of (table_output ts first) (table_values ts) i r at in
    let below = table_value_within ts found.0 found.1 in
    subst (λ (q : ℤ × Lit). unsigned_abs q.0 < 2 ^ 126) (sym found.2) (omega (arith, below, light))

-- ---- without a table

none_if : (b : Bool) (ts : List Weighted) (z : ℤ) (first n : ℕ) → cond {A = Option ℕ} b (Some n) None ≡ None → risen z (table_rows (cond b ts []) first) ≡ []
none_if true ts z first n none = cc
none_if false ts z first n none = ap (λ (us : List ℕ). risen z (map (λ (u : ℕ). (pos u, table_output [] first u)) us)) (no_values (weight []))

pub no_rows : (o : Options) (p : Problem) (s : Summary) → s ≡ summary_of o p → s.table ≡ None → bound_rows o p ≡ []
no_rows o p s is none = none_if o.table (by_weight (objective_form p).terms) (offset_of p) (table_first o p) (table_first o p) (sym (ap (λ (t : Summary). t.table) is) ∙ none)

some_if : (b : Bool) (n m : ℕ) → cond {A = Option ℕ} b (Some n) None ≡ Some m → m ≡ n
some_if true n m some = cc
some_if false n m some = cc

pub first_is : (o : Options) (p : Problem) (s : Summary) (first : ℕ) → s ≡ summary_of o p → s.table ≡ Some first → first ≡ table_first o p
first_is o p s first is some = some_if o.table (table_first o p) first (sym (ap (λ (t : Summary). t.table) is) ∙ some)

-- the rows of the problem's table, as they are given
pub rows_are : (o : Options) (p : Problem) (z : ℤ) (ts : List Weighted) (first : ℕ) → z ≡ offset_of p → ts ≡ table_terms o p → first ≡ table_first o p → risen z (table_rows ts first) ≡ bound_rows o p
rows_are o p z ts first z_is ts_are first_at = λ i. risen (z_is i) (table_rows (ts_are i) (first_at i))
