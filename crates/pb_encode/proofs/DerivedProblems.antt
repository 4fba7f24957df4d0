-- What the steps of a problem show.
use Rattle.std.proofs.Common.{◌≡◌, ◌≤◌, ◌<◌, ◌+◌, ◌*◌, ◌^◌, ◌++◌, ℕ, List, [], ◌∷◌, length, ap, sym, subst, arith, length-append}
use Rattle.std.proofs.Math.Nat.{add-mul}
use Rattle.std.specs.Prelude.{All, sum_by}
use Rattle.std.proofs.lemmas.List.Elements.{All-nil, All-cons, All-head, All-tail, All-append, All-weaker}
use Rattle.std.proofs.lemmas.List.Sums.{sum_by-append, sum_by-cons}
use Rattle.pb_base.specs.declared.problem.Problem.{Problem}
use Rattle.pb_base.specs.Problems.{IsWithinLimits, originals}
use Rattle.pb_norm.specs.Constraints.{Constraint, Weighted}
use Rattle.pb_norm.specs.Halves.{loaded}
use Rattle.pb_norm.specs.Products.{defining, loaded_of}
use Rattle.pb_norm.proofs.Variables.{OfTerm}
use Rattle.pb_steps.specs.declared.step.Step.{Step}
use Rattle.pb_steps.specs.declared.step.Step.TheVariants.{Head, Loaded, End}
use Rattle.pb_steps.specs.Database.{Database, loaded_database}
use Rattle.pb_steps.specs.Runs.{Runs}
use Rattle.pb_steps.specs.Sayable.{IsSayable}
use Rattle.pb_steps.specs.StepSizes.{step_size}
use Rattle.pb_derive.specs.Short.{AreShort, line_size}
use Rattle.pb_derive.proofs.FollowedBy.{runs_next}
use Rattle.pb_derive.proofs.Running.{runs_append}
use Rattle.pb_derive.proofs.Short.{line_sized, lines_sized}
use Rattle.pb_base.specs.declared.options.Options.{Options}
use Rattle.pb_choice.specs.Readiness.{LeavesIds}
use Rattle.pb_gentot.specs.BoundTable.{table_clauses, table_fresh, table_size}
use Rattle.pb_gentot.specs.BoundTableLaws.{IsSmallTable}
use Rattle.pb_gentot.specs.BoundTableSteps.{table_steps}
use Rattle.pb_gentot.proofs.TableDerives.{table_derives, table_few}
use Rattle.pb_gentot.proofs.TableShort.{table_lines_short, table_sayable}
use Rattle.pb_encode.specs.Clauses.{clause_total, fresh_total, loaded_clauses, problem_clauses, problem_count, problem_fresh, problem_vars, table_first}
use Rattle.pb_encode.specs.Derived.{IsDerived}
use Rattle.pb_encode.specs.declared.groups.Group.{Group}
use Rattle.pb_encode.specs.Groups.{all_members, group_count, groups_of, singles, size_total, statement_groups}
use Rattle.pb_encode.specs.Steps.{loaded_steps, problem_steps, steps_from}
use Rattle.pb_encode.specs.Summaries.{IsEncodable}
use Rattle.pb_encode.specs.Tables.{table_terms}
use Rattle.pb_encode.specs.inner.Streams.{steps_at_next}
use Rattle.pb_encode.proofs.ChoiceLaws.{HasFewTerms, bytes_few}
use Rattle.pb_encode.proofs.GroupDerivations.{IsGroupLight, term_total}
use Rattle.pb_encode.proofs.GroupLists.{members_loaded, size_loaded}
use Rattle.pb_encode.proofs.LoadedDatabases.{Stand, loaded_numbered, loaded_stand, loaded_unnamed}
use Rattle.pb_encode.proofs.LoadedRuns.{AreSaid, IsEndOfAll, all-few, all-run, all-said}
use Rattle.pb_choice.proofs.Composition.{IsOneBelow, IsReady}
use Rattle.pb_encode.proofs.ProductSizes.{forms_clauses, terms-defining}
use Rattle.pb_encode.proofs.Solutions.{forms_over, loaded_ready}
use Rattle.pb_encode.proofs.SoundGroups.{all_small, groups_light, loaded_small, IsSmall}
use Rattle.pb_encode.proofs.StepTexts.{text_within}
use Rattle.pb_encode.proofs.StepPositions.{ids-most, ids_in}
use Rattle.pb_encode.proofs.TableTerms.{AreFit, table_fits}
use Rattle.pb_encode.proofs.TallyLemmas.{length-loaded}

-- ---- the loaded constraints

pub terms_most : (most : ℕ) (cs : List Constraint) → All (HasFewTerms most) cs → term_total cs ≤ most * length cs
terms_most most [] short = omega arith
terms_most most (c ∷ cs) short = omega (arith, sum_by-cons (λ (d : Constraint). length d.terms) c cs, All-head (HasFewTerms most) c cs short, terms_most most cs (All-tail (HasFewTerms most) c cs short))

module _ (o : Options) (p : Problem) (within : IsWithinLimits p) (encodable : IsEncodable o p) where
  abbrev cs : List Constraint
  cs = loaded_of p

  abbrev gs : List Group
  gs = groups_of p

  abbrev n : ℕ
  n = length cs

  abbrev first : ℕ
  first = originals p + 1

  abbrev products : List Constraint
  products = defining (p.vars + 1) p.products

  -- the steps of the constraints, and then those of the table
  abbrev constraints : List Step
  constraints = steps_from o first 1 gs (n + 1)

  abbrev behind : ℕ
  behind = n + 1 + ids_in constraints

  abbrev terms : List Weighted
  terms = table_terms o p

  abbrev last : ℕ
  last = table_first o p

  abbrev table : List Step
  table = table_steps terms last behind

  abbrev between : List Step
  between = loaded_steps o p

  fit : AreFit first terms
  fit = table_fits p within o

  ready : All (IsReady o first) cs
  ready = loaded_ready o p within

  light : All (IsGroupLight o first) gs
  light = groups_light o p within

  sizes : size_total gs ≡ n
  sizes = size_loaded p

  terms_are : term_total (all_members gs) ≡ term_total cs
  terms_are = ap term_total (members_loaded p)

  parts : n ≡ length products + length (loaded p.statements)
  parts = length-append products (loaded p.statements)

  counts : clause_total o gs ≡ clause_total o (singles products) + clause_total o (statement_groups p.statements)
  counts = sum_by-append (group_count o) (singles products) (statement_groups p.statements)

  pub loaded_count : n ≤ 2 ^ 36 + 2 ^ 25 + 2
  loaded_count = omega (arith, parts, counts, forms_clauses o (IsOneBelow first) products (forms_over p within), encodable.clauses, length-loaded p.statements, within.count)

  loaded_terms : term_total cs ≤ 2 ^ 47
  loaded_terms =
      omega (
        arith,
        sum_by-append (λ (c : Constraint). length c.terms) products (loaded p.statements),
        terms-defining (p.vars + 1) p.products,
        terms_most (2 ^ 20 + 1) (loaded p.statements) (All-weaker IsSmall (HasFewTerms (2 ^ 20 + 1)) (λ c h. h.few) (loaded p.statements) (loaded_small (originals p) p.statements within.numbers within.sums)),
        parts,
        loaded_count,
        length-loaded p.statements,
        within.count,
      )

  few_fresh : fresh_total o gs < 2 ^ 31
  few_fresh = omega (arith, encodable.vars)

  few_constraints : length constraints ≤ 8 * (fresh_total o gs + clause_total o gs) + 4 * n
  few_constraints = omega (arith, all-few o first first 1 gs (n + 1) light, sizes)

  few_between : length between ≤ 8 * (problem_fresh o p + problem_count o p) + 4 * n
  few_between = omega (arith, length-append constraints table, few_constraints, table_few terms fit.table last behind)

  -- there are ids for all steps
  pub loaded_leave : LeavesIds (steps_from o first 1 gs) (n + 1)
  loaded_leave = omega (arith, few_constraints, few_fresh, loaded_count, encodable.clauses, ids-most constraints)

  pub whole_leave : LeavesIds (steps_at_next o p) (n + 1)
  whole_leave = omega (arith, few_between, encodable.vars, loaded_count, encodable.clauses, ids-most between)

  -- the table's steps can be said
  small_table : IsSmallTable terms last behind
  small_table = record {
    table = fit.table;
    light = fit.light;
    modest = omega (arith, encodable.clauses);
    original = All-weaker (OfTerm (IsOneBelow first)) (λ (t : Weighted). (1 ≤ t.lit.var) × (t.lit.var < last)) (λ t h. (h.0, omega (arith, h.1))) terms fit.over;
    begins = record { low = omega arith; fits = omega (arith, encodable.vars); some = omega arith; few = omega (arith, loaded_leave) };
  }

  table_said : All IsSayable table
  table_said = table_sayable terms last behind small_table

  table_short : AreShort (length terms) (table_fresh terms) (table_size terms) table
  table_short = table_lines_short terms last behind small_table (omega (arith, fit.few))

  before : List Step
  before = Head ∷ Loaded n ∷ []

  after : List Step
  after = End ∷ []

  before_sayable : All IsSayable (Head ∷ Loaded n ∷ [])
  before_sayable = All-cons IsSayable Head (Loaded n ∷ []) tt (All-cons IsSayable (Loaded n) [] (omega (arith, loaded_count)) (All-nil IsSayable))

  after_sayable : All IsSayable (End ∷ [])
  after_sayable = All-cons IsSayable End [] tt (All-nil IsSayable)

  abbrev Fits : Step → Type 0
  Fits s = line_size s ≤ 2 ^ 28

  abbrev Short : Step → Type 0
  Short s = step_size s ≤ 2 ^ 28

  before_short : All Fits (Head ∷ Loaded n ∷ [])
  before_short = line_sized (2 ^ 28) (Head ∷ Loaded n ∷ []) before_sayable (All-cons Short Head (Loaded n ∷ []) (omega arith) (All-cons Short (Loaded n) [] (omega arith) (All-nil Short)))

  after_short : All Fits (End ∷ [])
  after_short = line_sized (2 ^ 28) (End ∷ []) after_sayable (All-cons Short End [] (omega arith) (All-nil Short))

  abbrev start : Database
  start = loaded_database (originals p) (problem_vars o p) cs

  loaded_run : (end : Database) × Runs start constraints (loaded_clauses o p) end × IsEndOfAll o first gs start end
  loaded_run = all-run o first first 1 gs start (omega arith) light (record {
    original = omega arith;
    vars = omega arith;
    numbered = loaded_numbered (originals p) (problem_vars o p) cs;
    stands = subst (Stand start.live 1) (sym (members_loaded p)) (loaded_stand (originals p) (problem_vars o p) cs);
    known = omega (arith, sizes);
    unnamed = λ v low. loaded_unnamed (originals p) (problem_vars o p) cs o first v low ready;
  })

  -- the table's steps run where those of the constraints ended
  whole_run : (end : Database) × Runs start between (problem_clauses o p) end
  whole_run =
      let mid : Database = loaded_run.0 in
      let ended = loaded_run.2 in
      let below = All-weaker (OfTerm (IsOneBelow first)) (λ (t : Weighted). t.lit.var < last) (λ t h. omega (arith, h.1)) terms fit.over in
      let derived = table_derives terms fit.table fit.light last mid below (record {
        original = omega (arith, ended.original);
        vars = omega (arith, ended.vars);
        numbered = ended.numbered;
        unnamed = λ v low high. ended.unnamed v (omega (arith, low));
      }) in (
        derived.end,
        subst (λ (m : ℕ). Runs start (constraints ++ table_steps terms last m) (problem_clauses o p) derived.end) (runs_next start constraints (loaded_clauses o p) mid loaded_run.1)
            (runs_append start mid derived.end constraints (table_steps terms last mid.next) (loaded_clauses o p) (table_clauses terms last) loaded_run.1 derived.runs),
      )

  -- the lines of all steps, where neither a constraint nor the table has more than `most` terms
  module _ (most : ℕ) (short : All (HasFewTerms most) cs) (few : length terms ≤ most) where
    abbrev rest : List Step
    rest = between ++ End ∷ []

    said : AreSaid o most gs constraints
    said =
        all-said o most first first 1 gs (n + 1) light (subst (All (HasFewTerms most)) (sym (members_loaded p)) short) (omega arith) (omega arith) (omega (arith, encodable.vars)) (omega (arith, encodable.clauses)) (omega arith)
        (omega (arith, sizes)) loaded_leave

    pub problem_sayable : All IsSayable (problem_steps o p)
    problem_sayable = All-append IsSayable (Head ∷ Loaded n ∷ []) rest before_sayable (All-append IsSayable between (End ∷ []) (All-append IsSayable constraints table said.sayable table_said) after_sayable)

    pub problem_each : All Fits (problem_steps o p)
    problem_each = All-append Fits (Head ∷ Loaded n ∷ []) rest before_short (All-append Fits between (End ∷ []) (All-append Fits constraints table said.each table_short.each) after_short)

    table_bytes : sum_by line_size table ≤ 512 * (table_fresh terms * most) + 512 * length terms + 2 ^ 20 * (table_fresh terms + table_size terms + 3)
    table_bytes = omega (arith, bytes_few most (length terms) 1 (table_fresh terms) (2 ^ 20 * (table_fresh terms + table_size terms + 3)) (sum_by line_size table) few table_short.all)

    pub problem_bytes : sum_by line_size (problem_steps o p) ≤ 512 * (problem_fresh o p * most) + 512 * (term_total cs + length terms) + 2 ^ 20 * (problem_fresh o p + problem_count o p + 4 * n + 4)
    problem_bytes =
        let begin : sum_by line_size (Head ∷ Loaded n ∷ []) ≤ 58 = omega (arith, lines_sized (Head ∷ Loaded n ∷ []) before_sayable) in
        let stop : sum_by line_size (End ∷ []) ≤ 4 = omega (arith, lines_sized (End ∷ []) after_sayable) in
        omega (
          arith,
          sum_by-append line_size (Head ∷ Loaded n ∷ []) rest,
          sum_by-append line_size between (End ∷ []),
          sum_by-append line_size constraints table,
          begin,
          stop,
          said.all,
          table_bytes,
          add-mul (fresh_total o gs) (table_fresh terms) most,
          terms_are,
          sizes,
        )

  pub problem_derived : IsDerived o p
  problem_derived =
      let most : ℕ = 2 ^ 20 + 1 in
      let short : All (HasFewTerms most) cs = All-weaker IsSmall (HasFewTerms most) (λ c h. h.few) cs (all_small o p within) in
      let few : length terms ≤ most = omega (arith, fit.few) in
      let sayable = problem_sayable most short few in
      let count : length (problem_steps o p) ≡ length between + 3 = omega (arith, length-append between (End ∷ [])) in
      record {
        end = whole_run.0;
        runs = whole_run.1;
        few = omega (arith, few_between, count);
        sayable = sayable;
        within = text_within (problem_steps o p) sayable (problem_each most short few)
            (omega (arith, few_between, count, encodable.vars, loaded_count, encodable.clauses))
            (omega (arith, problem_bytes most short few, fit.few, encodable.vars, loaded_count, loaded_terms, encodable.clauses));
      }
