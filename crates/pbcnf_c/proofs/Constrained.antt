-- What is put of the problem of statements in columns, as what is put of the columns, and why nothing is.
use Rattle.std.proofs.Common.{◌≡◌, ◌≤◌, ◌-◌, ◌∙◌, ℕ, ℤ, Bool, List, Some, ap, arith, flat_map, length, refl, subst, sym, take}
use Rattle.std.specs.Prelude.{◌↔◌, All}
use Rattle.pb_base.specs.declared.literal.Lit.{Lit}
use Rattle.pb_base.specs.declared.options.Options.{Options}
use Rattle.pb_base.specs.declared.problem.Problem.{Problem}
use Rattle.pb_base.specs.declared.problem.Raw.{Raw}
use Rattle.pb_base.specs.Literals.{assigned_by}
use Rattle.pb_base.specs.Problems.{IsWithinLimits, Satisfies}
use Rattle.pb_check.specs.Walk.{Accepts}
use Rattle.pb_check.proofs.Writing.{written_runs_are_accepted}
use Rattle.pb_columns.specs.declared.fault.ColumnFault.{ColumnFault}
use Rattle.pb_columns.specs.declared.fault.ColumnFault.TheVariants as fault
use Rattle.pb_columns.specs.Columns.{conditions_in, problem_of, ArePosedOf, Columns, StopsColumns}
use Rattle.pb_columns.specs.Conditions.{HoldUnder}
use Rattle.pb_columns.proofs.Conditioned.{asked_all}
use Rattle.pb_dimacs.specs.CnfReading.{clause_numbers}
use Rattle.pb_dimacs.specs.CnfText.{cnf_text}
use Rattle.pb_dimacs.specs.CnfWholeLaws.{Tells}
use Rattle.pb_encode.specs.Clauses.{clauses_from, problem_clauses, problem_vars}
use Rattle.pb_encode.specs.Encodings.{derivation_text}
use Rattle.pb_encode.specs.Groups.{statement_groups}
use Rattle.pb_encode.specs.Models.{IsModelOver}
use Rattle.pb_encode.specs.Steps.{loaded_steps}
use Rattle.pb_encode.specs.Summaries.{IsEncodable, IsOver}
use Rattle.pb_encode.proofs.CnfTexts.{problem_told}
use Rattle.pb_encode.proofs.DerivedProblems.{problem_derived}
use Rattle.pb_encode.proofs.Solutions.{clauses-count}
use Rattle.pb_family.specs.StepSinks.{steps_text}
use Rattle.pb_suite.specs.declared.outcome.Outcome.{Outcome}
use Rattle.pbcnf_c.specs.declared.options.PbcnfOptions.{PbcnfOptions}
use Rattle.pbcnf_c.specs.declared.ready.Ready.{Ready}
use Rattle.pbcnf_c.specs.declared.size.PbcnfSize.{PbcnfSize}
use Rattle.pbcnf_c.specs.Choices.{options_of}
use Rattle.pbcnf_c.specs.Constraints.{AreAdmitted, AreClausesOf, ConstrainsInto, ConstraintsDeriveInto, IsDerivationOf, IsReadyOf, IsUnblamed, StopsConstraints}
use Rattle.pbcnf_c.specs.Constraints.StopsConstraints.{limited, no_memory, over, unfit}
use Rattle.pbcnf_c.specs.inner.Blames.{blame_of}
use Rattle.pbcnf_c.specs.Put.{IsSized, IsWanting, PutsOf}
use Rattle.pbcnf_c.specs.Ready.{IsReady, StopsSizing}
use Rattle.pbcnf_c.specs.Ready.StopsSizing.{no_memory as sizing_no_memory, over as sizing_over}
use Rattle.pbcnf_c.specs.Sizes.{no_size, problem_size}
use Rattle.pbcnf_c.proofs.Endings.{ends_as}
use Rattle.pbcnf_c.proofs.Statements.{forces_of, its_clauses, its_vars, models_of}

-- ---- why nothing is put

-- the columns give no statements
pub columns_stop : (chosen : PbcnfOptions) (c : Columns) (o : Options) (f : ColumnFault) → options_of chosen ≡ Some o → StopsColumns c f → StopsConstraints chosen c (blame_of f).at (blame_of f).outcome
columns_stop chosen c o fault.NoMemory are stops = no_memory
columns_stop chosen c o (fault.Unfit at) are stops = unfit o at are stops
columns_stop chosen c o (fault.Limit which at) are stops = limited o which at are stops

-- their problem is not sized up
pub not_sized : (chosen : PbcnfOptions) (c : Columns) (o : Options) (ss : List Raw) (p : Problem) (answer : Outcome) → options_of chosen ≡ Some o → ArePosedOf c ss → IsWithinLimits (problem_of c.first ss) → p ≡ problem_of c.first ss → StopsSizing o p answer → StopsConstraints chosen c 0 answer
not_sized chosen c o ss p _ are given within same (sizing_over which passes) = over o ss which are given within (subst (IsOver which o) same passes)
not_sized chosen c o ss p _ are given within same sizing_no_memory = no_memory

-- ---- what is put

-- the text of the derivation is accepted beside each that tells the clauses
accepted_beside : (o : Options) (p : Problem) (cnf : List ℕ) → IsWithinLimits p → IsEncodable o p → Tells cnf (problem_vars o p) (problem_clauses o p) → Accepts p cnf (derivation_text o p)
unfolding steps_text
accepted_beside o p cnf within encodable told =
    let derived = problem_derived o p within encodable in
    written_runs_are_accepted p cnf (derivation_text o p) _ (problem_clauses o p) (loaded_steps o p) derived.end
    told.1 (omega arith) derived.within derived.sayable refl derived.runs

abbrev Fronts : Columns → Options → List Raw → List Bool → Type 0
Fronts c o ss values = (model : List Bool) × IsModelOver (problem_vars o (problem_of c.first ss)) (clauses_from o c.first (statement_groups ss)) model × (take (c.first - 1) model ≡ values)

-- the values under which each constraint holds whose condition is true are the fronts of models
fronts : (c : Columns) (o : Options) (ss : List Raw) (given : ArePosedOf c ss) → IsWithinLimits (problem_of c.first ss) → problem_clauses o (problem_of c.first ss) ≡ clauses_from o c.first (statement_groups ss) → (values : List Bool) → length values ≡ c.first - 1 → HoldUnder (assigned_by values) (conditions_in c.sums) given.asked ↔ Fronts c o ss values
fronts c o ss given within same values covers =
    let a = assigned_by values in
    let law = asked_all a (conditions_in c.sums) given.asked in
    let models = models_of c.first ss o (clauses_from o c.first (statement_groups ss)) within same values covers in (
      λ holds. models.0 (subst (All (Satisfies a)) (sym given.posed_are) (law.1 holds)),
      λ found. law.0 (subst (All (Satisfies a)) given.posed_are (models.1 found)),
    )

are_clauses : (chosen : PbcnfOptions) (c : Columns) (o : Options) (ss : List Raw) (zs : List ℤ) (count : ℕ) → AreAdmitted chosen c o ss
    → zs ≡ flat_map clause_numbers (problem_clauses o (problem_of c.first ss)) → count ≡ length zs → AreClausesOf chosen c zs (problem_size o (problem_of c.first ss) count)
are_clauses chosen c o ss zs count admitted are counted =
    let low = admitted.given.given.fit.first_from in
    let within = admitted.within in
    let same = its_clauses c.first ss o low in
    record {
      options = o;
      statements = ss;
      clauses = clauses_from o c.first (statement_groups ss);
      admitted = admitted;
      clauses_are = refl;
      integers_are = are ∙ ap (flat_map clause_numbers) same;
      fresh_are = its_vars c.first ss o;
      original_are = omega (arith, low);
      vars_fit = admitted.encodable.vars;
      count_is = sym (clauses-count o (problem_of c.first ss) within) ∙ ap (λ (cs : List (List Lit)). length cs) same;
      length_is = counted;
      models = fronts c o ss admitted.given within same;
      forces = forces_of c.first ss o (clauses_from o c.first (statement_groups ss)) low within same;
    }

is_derivation : (chosen : PbcnfOptions) (c : Columns) (o : Options) (ss : List Raw) (proof : List ℕ) (size : PbcnfSize) → AreAdmitted chosen c o ss
    → proof ≡ derivation_text o (problem_of c.first ss) → size ≡ problem_size o (problem_of c.first ss) (length proof) → IsDerivationOf chosen c proof size
is_derivation chosen c o ss proof size admitted exact sized =
    let p = problem_of c.first ss in
    let clauses = clauses_from o c.first (statement_groups ss) in
    let same = its_clauses c.first ss o admitted.given.given.fit.first_from in
    let vars : size.vars ≡ problem_vars o p = ap (λ (n : PbcnfSize). n.vars) sized in
    record {
      options = o;
      statements = ss;
      clauses = clauses;
      admitted = admitted;
      clauses_are = refl;
      told = subst (λ (n : ℕ). Tells (cnf_text n clauses) n clauses) (sym vars)
          (subst (λ (cs : List (List Lit)). Tells (cnf_text (problem_vars o p) cs) (problem_vars o p) cs) same (problem_told o p admitted.within admitted.encodable));
      accepted = λ cnf told. subst (λ (xs : List ℕ). Accepts p cnf xs) (sym exact)
          (accepted_beside o p cnf admitted.within admitted.encodable (subst (λ (cs : List (List Lit)). Tells cnf (problem_vars o p) cs) (sym same) (subst (λ (n : ℕ). Tells cnf n clauses) vars told)));
      exact = exact;
      size_is = sized;
    }

-- ---- what the calls answer

wanting : (chosen : PbcnfOptions) (c : Columns) (answer : Outcome) → IsWanting answer → StopsConstraints chosen c 0 answer
wanting chosen c answer is = subst (StopsConstraints chosen c 0) (sym is) no_memory

admitted : (chosen : PbcnfOptions) (c : Columns) (r : Ready) → IsReady r → (of : IsReadyOf chosen c r) → AreAdmitted chosen c r.options of.statements
admitted chosen c r ready of = record {
  chosen_are = of.chosen_are;
  given = of.given;
  within = subst IsWithinLimits of.problem_is ready.within;
  encodable = subst (IsEncodable r.options) of.problem_is ready.encodable;
}

made_clauses : (chosen : PbcnfOptions) (c : Columns) (r : Ready) (zs : List ℤ) (size : PbcnfSize) → IsReady r → IsReadyOf chosen c r → IsSized (flat_map clause_numbers (problem_clauses r.options r.problem)) r zs size → IsUnblamed (AreClausesOf chosen c) 0 zs size
made_clauses chosen c r zs size ready of is = record {
  made = subst (AreClausesOf chosen c zs) (sym (is.1 ∙ ap (λ (q : Problem). problem_size r.options q (length zs)) of.problem_is))
      (are_clauses chosen c r.options of.statements zs (length zs) (admitted chosen c r ready of) (is.0 ∙ ap (λ (q : Problem). flat_map clause_numbers (problem_clauses r.options q)) of.problem_is) refl);
  nobody = refl;
}

made_derivation : (chosen : PbcnfOptions) (c : Columns) (r : Ready) (proof : List ℕ) (size : PbcnfSize) → IsReady r → IsReadyOf chosen c r → IsSized (derivation_text r.options r.problem) r proof size → IsUnblamed (IsDerivationOf chosen c) 0 proof size
made_derivation chosen c r proof size ready of is = record {
  made = is_derivation chosen c r.options of.statements proof size (admitted chosen c r ready of)
      (is.0 ∙ ap (derivation_text r.options) of.problem_is) (is.1 ∙ ap (λ (q : Problem). problem_size r.options q (length proof)) of.problem_is);
  nobody = refl;
}

pub constrained : (chosen : PbcnfOptions) (c : Columns) (r : Ready) (old new : List ℤ) (size : PbcnfSize) (answer : Outcome) → IsReady r → IsReadyOf chosen c r → PutsOf (flat_map clause_numbers (problem_clauses r.options r.problem)) r old new size answer → ConstrainsInto chosen c old new size 0 answer
constrained chosen c r old new size answer ready of puts =
    ends_as (IsSized (flat_map clause_numbers (problem_clauses r.options r.problem)) r) (IsUnblamed (AreClausesOf chosen c) 0) IsWanting (StopsConstraints chosen c 0) no_size old new size answer
    (λ items is. made_clauses chosen c r items size ready of is) (wanting chosen c) puts

pub constraints_derived : (chosen : PbcnfOptions) (c : Columns) (r : Ready) (old new : List ℕ) (size : PbcnfSize) (answer : Outcome) → IsReady r → IsReadyOf chosen c r → PutsOf (derivation_text r.options r.problem) r old new size answer → ConstraintsDeriveInto chosen c old new size 0 answer
constraints_derived chosen c r old new size answer ready of puts =
    ends_as (IsSized (derivation_text r.options r.problem) r) (IsUnblamed (IsDerivationOf chosen c) 0) IsWanting (StopsConstraints chosen c 0) no_size old new size answer
    (λ items is. made_derivation chosen c r items size ready of is) (wanting chosen c) puts
