-- The clauses of a problem have its solutions, its counts and its variables.
use Rattle.std.proofs.Common.{◌≡◌, ◌≤◌, ◌<◌, ◌+◌, ◌^◌, ℕ, zero, suc, List, [], ◌∷◌, Bool, false, true, All, map, take, length, length-append, refl, ap, sym, subst, ◌∙◌, arith, inl, inr}
use Rattle.std.specs.Prelude.{◌⊎◌, Contains, leb}
use Rattle.pb_base.proofs.Members.{All-append_both}
use Rattle.std.specs.List.{range_with_len}
use Rattle.std.proofs.lemmas.List.{ext_get_or, length-map, length-take, take-take}
use Rattle.std.proofs.lemmas.List.FromFn.{get_or-map-range_with_len, take-map-range_with_len, length-range_with_len}
use Rattle.std.proofs.lemmas.List.Elements.{All-nil, All-cons, All-contains, All-head, All-map, All-tail, All-append, All-weaker}
use Rattle.pb_base.specs.declared.literal.Lit.{Lit}
use Rattle.pb_base.specs.declared.problem.Raw.{Raw}
use Rattle.pb_base.specs.declared.problem.Problem.{Problem}
use Rattle.pb_base.specs.Literals.{Assignment, AgreeBelow, IsModel, assigned_by, clause_value, lit_value}
use Rattle.pb_base.specs.Problems.{IsSolution, IsSumWithin, IsWithinLimits, StaysBelow, originals}
use Rattle.pb_norm.specs.BoundedSums.{vars_of}
use Rattle.pb_norm.specs.Constraints.{Constraint, IsLinear, Holds, Solves, Weighted, value}
use Rattle.pb_norm.specs.Halves.{loaded, half_of}
use Rattle.pb_norm.specs.Products.{defining, loaded_of}
use Rattle.pb_norm.proofs.Agreement.{IsModel-agree, cut-agrees, lit_value-agree, value-agree}
use Rattle.pb_norm.proofs.Solutions.{are_fronts}
use Rattle.pb_norm.proofs.NetBounds.{made-linear}
use Rattle.pb_norm.proofs.ProductForms.{IsFormOver, defining_over}
use Rattle.pb_norm.proofs.Variables.{OfLit, OfTerm, OfWritten, IsOver, loaded-vars}
use Rattle.pb_base.specs.declared.options.Options.{Options}
use Rattle.pb_choice.proofs.Composition.{IsOneBelow, IsReady, holds-agree}
use Rattle.pb_dimacs.specs.CnfReading.{IsLitWithin}
use Rattle.pb_gentot.specs.BoundTable.{table_clauses, table_fresh, table_output, table_values}
use Rattle.pb_gentot.proofs.TableModels.{row_named, table_counts, table_extends, table_names}
use Rattle.pb_encode.specs.Clauses.{loaded_clauses, loaded_vars, problem_clauses, problem_count, problem_vars, table_first}
use Rattle.pb_encode.specs.Groups.{all_members, groups_of}
use Rattle.pb_encode.specs.Tables.{table_terms}
use Rattle.pb_encode.specs.Models.{IsModelOver, HasSolutionsOf}
use Rattle.pb_encode.proofs.GroupClauses.{IsGroupReady}
use Rattle.pb_encode.proofs.GroupComposition.{all-count, all-extend, all-sound, all-within}
use Rattle.pb_encode.proofs.GroupLists.{groups_by, groups_matched, members_loaded}
use Rattle.pb_encode.proofs.HalfLists.{loaded_each}
use Rattle.pb_encode.proofs.TableTerms.{table_below, table_fits}

-- ---- the loaded constraints are in normal form, over the problem's variables

loaded_linear : (ss : List Raw) → All (StaysBelow (2 ^ 126)) ss → All IsLinear (loaded ss)
loaded_linear ss small = loaded_each IsLinear (StaysBelow (2 ^ 126)) (λ s half h. made-linear half s (half_of half s) h refl) ss small

pub wider : (ss : List Raw) → All (StaysBelow (2 ^ 100)) ss → All (StaysBelow (2 ^ 126)) ss
wider ss small = All-weaker (StaysBelow (2 ^ 100)) (StaysBelow (2 ^ 126)) (λ s h. omega (arith, h)) ss small

written-below : (vars : ℕ) (ss : List Raw) → All (λ s. IsSumWithin vars s.terms) ss → All (λ s. All (OfWritten (IsOneBelow (vars + 1))) s.terms) ss
written-below vars ss h = All-weaker (λ s. IsSumWithin vars s.terms) (λ s. All (OfWritten (IsOneBelow (vars + 1))) s.terms) (λ s k i d l. (k.vars_from i d l, omega (arith, k.vars_within i d l))) ss h

ready_each : (o : Options) (n : ℕ) (cs : List Constraint) → All IsLinear cs → All (IsOver (IsOneBelow n)) cs → All (IsReady o n) cs
ready_each o n [] linear over = All-nil (IsReady o n)
ready_each o n (c ∷ cs) linear over =
    All-cons (IsReady o n) c cs
    (record { linear = All-head IsLinear c cs linear; within = All-head (IsOver (IsOneBelow n)) c cs over })
    (ready_each o n cs (All-tail IsLinear c cs linear) (All-tail (IsOver (IsOneBelow n)) c cs over))

forms_ready : (o : Options) (n : ℕ) (cs : List Constraint) → All (IsFormOver (IsOneBelow n)) cs → All (IsReady o n) cs
forms_ready o n cs forms = All-weaker (IsFormOver (IsOneBelow n)) (IsReady o n) (λ c form. record { linear = form.linear; within = form.over }) cs forms

-- the constraints of products are over those variables too
pub forms_over : (p : Problem) → IsWithinLimits p → All (IsFormOver (IsOneBelow (originals p + 1))) (defining (p.vars + 1) p.products)
forms_over p within = defining_over (IsOneBelow (originals p + 1)) p.vars (p.vars + 1) p.products (omega arith) (λ n low less. (low, omega (arith, less))) within.products

pub loaded_ready : (o : Options) (p : Problem) → IsWithinLimits p → All (IsReady o (originals p + 1)) (loaded_of p)
loaded_ready o p within =
    let n = originals p + 1 in
    All-append (IsReady o n) (defining (p.vars + 1) p.products) (loaded p.statements) (forms_ready o n (defining (p.vars + 1) p.products) (forms_over p within))
    (ready_each o n (loaded p.statements) (loaded_linear p.statements (wider p.statements within.numbers)) (loaded-vars (IsOneBelow n) p.statements (written-below (originals p) p.statements within.sums)))

-- ---- all clauses

-- so are the groups
pub ready_groups : (o : Options) (p : Problem) → All (IsReady o (originals p + 1)) (loaded_of p) → All (IsGroupReady o (originals p + 1)) (groups_of p)
ready_groups o p ready =
    let Ready = IsReady o (originals p + 1) in
    groups_by Ready (groups_of p) (groups_matched p) (subst (All Ready) (sym (members_loaded p)) ready)

loaded_below : (o : Options) (p : Problem) → All (IsReady o (originals p + 1)) (loaded_of p) → All (All (OfLit (IsOneBelow (loaded_vars o p + 1)))) (loaded_clauses o p)
loaded_below o p ready = all-within o (originals p + 1) (groups_of p) (originals p + 1) (loaded_vars o p + 1) (omega arith) (omega arith) (omega arith) (ready_groups o p ready)

-- the variables of a table's literals
abbrev IsNamedBy : List Weighted → ℕ → ℕ → Type 0
IsNamedBy ts first v = Contains (vars_of ts) v ⊎ ((first ≤ v) × (v < first + table_fresh ts))

pub named_below : (o : Options) (p : Problem) → IsWithinLimits p → (v : ℕ) → IsNamedBy (table_terms o p) (table_first o p) v → IsOneBelow (problem_vars o p + 1) v
named_below o p within v named =
    let n = originals p + 1 in
    let ts = table_terms o p in
    elim named as (λ _. IsOneBelow (problem_vars o p + 1) v) [
      | inl own ↦
          let of = All-contains (IsOneBelow n) (vars_of ts) v (All-map (IsOneBelow n) (λ (t : Weighted). t.lit.var) ts (table_fits p within o).over) own in
          (of.0, omega (arith, of.1))
      | inr fresh ↦ (omega (arith, fresh.0), omega (arith, fresh.1))
    ]

wider_clauses : (m n : ℕ) → m ≤ n → (cs : List (List Lit)) → All (All (OfLit (IsOneBelow m))) cs → All (All (OfLit (IsOneBelow n))) cs
wider_clauses m n le cs h =
    All-weaker (All (OfLit (IsOneBelow m))) (All (OfLit (IsOneBelow n))) (λ ls k. All-weaker (OfLit (IsOneBelow m)) (OfLit (IsOneBelow n)) (λ l j. (j.0, omega (arith, j.1, le))) ls k) cs h

table_clauses_below : (o : Options) (p : Problem) → IsWithinLimits p → All (All (OfLit (IsOneBelow (problem_vars o p + 1)))) (table_clauses (table_terms o p) (table_first o p))
table_clauses_below o p within =
    let ts = table_terms o p in
    let first = table_first o p in
    All-weaker (All (λ (l : Lit). IsNamedBy ts first l.var)) (All (OfLit (IsOneBelow (problem_vars o p + 1))))
    (λ ls h. All-weaker (λ (l : Lit). IsNamedBy ts first l.var) (OfLit (IsOneBelow (problem_vars o p + 1))) (λ l k. named_below o p within l.var k) ls h)
    (table_clauses ts first) (table_names ts first)

below_all : (o : Options) (p : Problem) → IsWithinLimits p → All (All (OfLit (IsOneBelow (problem_vars o p + 1)))) (problem_clauses o p)
below_all o p within =
    All-append (All (OfLit (IsOneBelow (problem_vars o p + 1)))) (loaded_clauses o p) (table_clauses (table_terms o p) (table_first o p))
    (wider_clauses (loaded_vars o p + 1) (problem_vars o p + 1) (omega arith) (loaded_clauses o p) (loaded_below o p (loaded_ready o p within)))
    (table_clauses_below o p within)

pub problem-within : (o : Options) (p : Problem) → IsWithinLimits p → All (All (IsLitWithin (problem_vars o p))) (problem_clauses o p)
problem-within o p within =
    let vars = problem_vars o p in
    All-weaker (All (OfLit (IsOneBelow (vars + 1)))) (All (IsLitWithin vars))
    (λ ls h. All-weaker (OfLit (IsOneBelow (vars + 1))) (IsLitWithin vars) (λ l k. record { low = k.0; high = omega (arith, k.1) }) ls h)
    (problem_clauses o p) (below_all o p within)

pub clauses-count : (o : Options) (p : Problem) → IsWithinLimits p → length (problem_clauses o p) ≡ problem_count o p
clauses-count o p within =
    let ts = table_terms o p in
    let first = table_first o p in
    omega (
      arith,
      length-append (loaded_clauses o p) (table_clauses ts first),
      all-count o (originals p + 1) (groups_of p) (originals p + 1) (omega arith) (ready_groups o p (loaded_ready o p within)),
      table_counts ts first,
    )

-- literals of variables below a number
strictly : (n : ℕ) (cs : List (List Lit)) → All (All (OfLit (IsOneBelow n))) cs → All (All (λ l. l.var < n)) cs
strictly n cs h = All-weaker (All (OfLit (IsOneBelow n))) (All (λ l. l.var < n)) (λ ls k. All-weaker (OfLit (IsOneBelow n)) (λ l. l.var < n) (λ l j. j.1) ls k) cs h

-- ---- lists of values

-- the values of the variables from 1 to n
abbrev listed : Assignment → ℕ → List Bool
listed a n = map a (range_with_len 1 n)

listed-agrees : (a : Assignment) (n : ℕ) → a 0 ≡ false → AgreeBelow (n + 1) a (assigned_by (listed a n))
listed-agrees a n none zero below = none
listed-agrees a n none (suc k) below = sym (get_or-map-range_with_len a 1 n k (suc k) false (omega arith) (omega arith))

-- those of the first variables, as a list of them has them
listed_is : (b : Assignment) (values : List Bool) (n : ℕ) → length values ≡ n → AgreeBelow (n + 1) (assigned_by values) b → listed b n ≡ values
listed_is b values n covers agree =
    let size : length (map b (range_with_len 1 n)) ≡ n = length-map (range_with_len 1 n) b ∙ length-range_with_len 1 n in
    ext_get_or false (map b (range_with_len 1 n)) values (size ∙ sym covers)
    (λ i lt. get_or-map-range_with_len b 1 n i (suc i) false (omega (arith, lt, size)) (omega arith) ∙ sym (agree (suc i) (omega (arith, lt, size))))

listed_front : (b : Assignment) (n k : ℕ) → k ≤ n → take k (listed b n) ≡ listed b k
listed_front b n k le = take-map-range_with_len b 1 n k le

listed_covers : (b : Assignment) (n : ℕ) → length (listed b n) ≡ n
listed_covers b n = length-map (range_with_len 1 n) b ∙ length-range_with_len 1 n

-- ---- the problem

solves-agree : (n : ℕ) (a b : Assignment) → AgreeBelow n a b → (cs : List Constraint) → All (IsOver (IsOneBelow n)) cs → Solves a cs → Solves b cs
solves-agree n a b agree [] over holds = All-nil (Holds b)
solves-agree n a b agree (c ∷ cs) over holds =
    All-cons (Holds b) c cs
    (holds-agree n a b agree c (All-weaker (OfTerm (IsOneBelow n)) (λ t. t.lit.var < n) (λ t h. h.1) c.terms (All-head (IsOver (IsOneBelow n)) c cs over)) (All-head (Holds a) c cs holds))
    (solves-agree n a b agree cs (All-tail (IsOver (IsOneBelow n)) c cs over) (All-tail (Holds a) c cs holds))

over_ready : (o : Options) (n : ℕ) (cs : List Constraint) → All (IsReady o n) cs → All (IsOver (IsOneBelow n)) cs
over_ready o n cs ready = All-weaker (IsReady o n) (IsOver (IsOneBelow n)) (λ c h. h.within) cs ready

-- a model in which each row's literal says whether the table's sum reaches its value
pub record RowModel (o : Options) (p : Problem) (all : List Bool) : Type 0 where
  pub model : List Bool
  pub is : IsModelOver (problem_vars o p) (problem_clauses o p) model
  pub front : take (originals p) model ≡ all
  pub rows : (u : ℕ) → Contains (table_values (table_terms o p)) u → lit_value (assigned_by model) (table_output (table_terms o p) (table_first o p) u) ≡ leb u (value (assigned_by all) (table_terms o p))

-- where the loaded constraints hold, there is one
pub model_from : (o : Options) (p : Problem) → IsWithinLimits p → (all : List Bool) → length all ≡ originals p → Solves (assigned_by all) (loaded_of p) → RowModel o p all
model_from o p within all covers solves =
    let first = originals p + 1 in
    let vars = problem_vars o p in
    let ts = table_terms o p in
    let last = table_first o p in
    let fit = table_fits p within o in
    let ready = loaded_ready o p within in
    let hold : Solves (assigned_by all) (all_members (groups_of p)) = subst (Solves (assigned_by all)) (sym (members_loaded p)) solves in
    let found = all-extend o first (groups_of p) first (omega arith) (omega arith) (ready_groups o p ready) (assigned_by all) hold in
    let before = found.0 in
    let table = table_extends ts fit.table last (table_below p within o last (omega arith)) before in
    let b = table.now in
    let agrees : AgreeBelow first (assigned_by all) b = λ v below. found.1 v below ∙ table.agrees v (omega (arith, below)) in
    let none : b 0 ≡ false = sym (agrees 0 (omega arith)) in
    let below = strictly (vars + 1) (problem_clauses o p) (below_all o p within) in
    let fronts = IsModel-agree last before b table.agrees (loaded_clauses o p) (strictly last (loaded_clauses o p) (loaded_below o p ready)) found.2 in
    let whole = All-append (λ (c : List Lit). clause_value b c ≡ true) (loaded_clauses o p) (table_clauses ts last) fronts table.model in
    record {
      model = listed b vars;
      is = record { covers = listed_covers b vars; satisfies = IsModel-agree (vars + 1) b (assigned_by (listed b vars)) (listed-agrees b vars none) (problem_clauses o p) below whole };
      front = listed_front b vars (originals p) (omega arith) ∙ listed_is b all (originals p) covers agrees;
      rows = λ u here.
          let l = table_output ts last u in
          let within_vars = named_below o p within l.var (row_named ts last u here) in
          lit_value-agree (assigned_by (listed b vars)) b l (sym (listed-agrees b vars none l.var within_vars.1))
          ∙ table.rows u here
          ∙ ap (leb u) (sym (value-agree first (assigned_by all) before found.1 ts (table_below p within o first (omega arith))));
    }

-- the clauses of the constraints are true in a model of all
pub loaded_model : (o : Options) (p : Problem) (a : Assignment) → IsModel a (problem_clauses o p) → IsModel a (loaded_clauses o p)
loaded_model o p a model = (All-append_both (λ (c : List Lit). clause_value a c ≡ true) (loaded_clauses o p) (table_clauses (table_terms o p) (table_first o p)) model).0

-- and those of the table
pub table_model : (o : Options) (p : Problem) (a : Assignment) → IsModel a (problem_clauses o p) → IsModel a (table_clauses (table_terms o p) (table_first o p))
table_model o p a model = (All-append_both (λ (c : List Lit). clause_value a c ≡ true) (loaded_clauses o p) (table_clauses (table_terms o p) (table_first o p)) model).1

-- under the first values of a model they hold
pub solves_from : (o : Options) (p : Problem) → All (IsReady o (originals p + 1)) (loaded_of p) → (model : List Bool) → IsModelOver (problem_vars o p) (problem_clauses o p) model → Solves (assigned_by (take (originals p) model)) (loaded_of p)
solves_from o p ready model is =
    let first = originals p + 1 in
    let hold = all-sound o first (groups_of p) first (omega arith) (ready_groups o p ready) (assigned_by model) (loaded_model o p (assigned_by model) is.satisfies) in
    let solves : Solves (assigned_by model) (loaded_of p) = subst (Solves (assigned_by model)) (members_loaded p) hold in
    solves-agree first (assigned_by model) (assigned_by (take (originals p) model)) (cut-agrees model (originals p)) (loaded_of p) (over_ready o first (loaded_of p) ready) solves

-- the problem's variables are among those of the constraints
pub cut_twice : (p : Problem) (model : List Bool) → take p.vars (take (originals p) model) ≡ take p.vars model
cut_twice p model = take-take p.vars (originals p) model (omega arith)

pub have_solutions : (o : Options) (p : Problem) → IsWithinLimits p → HasSolutionsOf p (problem_vars o p) (problem_clauses o p)
have_solutions o p within values covers =
    let fronts = are_fronts p within.products values in
    let ready = loaded_ready o p within in (
      (λ (h : IsSolution p values).
          let front = fronts.0 h in
          let found = model_from o p within front.0 front.1.covers front.1.solves in
          (found.model, found.is, sym (cut_twice p found.model) ∙ ap (take p.vars) found.front ∙ front.1.front)),
      (λ (found : (model : List Bool) × IsModelOver (problem_vars o p) (problem_clauses o p) model × (take p.vars model ≡ values)).
          let model = found.0 in
          let long : length model ≡ problem_vars o p = found.1.covers in
          fronts.1 (
            take (originals p) model,
            record {
              covers = omega (arith, length-take (originals p) model, long);
              solves = solves_from o p ready model found.1;
              front = cut_twice p model ∙ found.2;
            },
          )),
    )
