-- Texts with their answers, worked.
use Rattle.std.proofs.Common.{◌≡◌, ◌≤◌, inl, inr, ℕ, true, false, List, [], ◌∷◌, refl, arith, ap}
use Rattle.std.specs.Prelude.{◌≢◌, Some, None, Ok, Err, pos, codes, is_some}
use Rattle.std.proofs.lemmas.List.Elements.{All-nil, All-cons}
use Rattle.pb_base.specs.declared.literal.Lit.{Lit}
use Rattle.pb_base.specs.declared.literal.Term.{Term}
use Rattle.pb_base.specs.declared.problem.Problem.{Problem}
use Rattle.pb_base.specs.declared.problem.Relation.TheVariants.{AtLeast, Equal}
use Rattle.pb_base.specs.declared.file.File.TheVariants.{Cnf, Proof}
use Rattle.pb_base.specs.declared.expected.Expected.TheVariants as expected
use Rattle.pb_norm.specs.Constraints.{Constraint}
use Rattle.pb_norm.specs.ClauseForm.{clause_form}
use Rattle.pb_norm.specs.Propagation.{Needs, Conflict}
use Rattle.std.proofs.lemmas.List.Kept.{AllPairs-cons}
use Rattle.pb_base.proofs.Pairs.{AllPairs-nil}
use Rattle.pb_base.proofs.Members.{Contains-here, Contains-there}
use Rattle.pb_steps.specs.declared.op.PolOp.TheVariants.{Push, Saturate, Weaken}
use Rattle.pb_steps.specs.declared.step.Step.{Step}
use Rattle.pb_steps.specs.declared.step.Step.TheVariants.{Pol, Rup, Del, Out}
use Rattle.pb_steps.specs.Steps.{HasFactor}
use Rattle.pb_steps.specs.Operations.{negation, implies}
use Rattle.pb_steps.specs.Database.{Database, constraint_at, IsLive, is_out, loaded_database, grown, marked, reduced}
use Rattle.pb_steps.specs.Allowed.{Allowed}
use Rattle.pb_steps.specs.declared.denied.Denied.TheVariants.{UnknownVar, UnknownId, SetsOriginal, NoClause, NotImplied, OutDeleted, ClausesLeft}
use Rattle.pb_check.specs.declared.verdict.Verdict.TheVariants.{Rejected}
use Rattle.pb_check.specs.declared.verdict.CheckFault.TheVariants.{Refused}
use Rattle.pb_check.specs.Walk.{Walk, Accepts}

abbrev x : ℕ → Lit
x v = record { var = v; positive = true }

abbrev term : ℕ → ℕ → Term
term n v = record { coef = pos n; lit = x v }

-- x1 + x2 = 1
abbrev equation : Problem
equation = record { vars = 2; numbered = 2; names = []; products = []; objective = None; statements = record { terms = term 1 1 ∷ term 1 2 ∷ []; relation = Equal; right = pos 1 } ∷ [] }

-- x1 x2 >= 1
abbrev product : Problem
product = record { vars = 2; numbered = 2; names = []; products = (x 1 ∷ x 2 ∷ []) ∷ []; objective = None; statements = record { terms = term 1 3 ∷ []; relation = AtLeast; right = pos 1 } ∷ [] }

abbrev two_clauses : List ℕ
two_clauses = codes "p cnf 2 2\n1 2 0\n-1 -2 0\n"

-- ---- faults

no_head : Walk equation two_clauses (codes "f 2\n") (Err (Refused Proof (record { line = 1; column = 1 }) expected.Head))
no_head = refl

-- a line is read before its place is tested
read_first : Walk equation two_clauses (codes "foo\n") (Err (Refused Proof (record { line = 1; column = 1 }) expected.StepWord))
read_first = refl

another_count : Walk equation two_clauses (codes "pseudo-Boolean derivation profile 1\nf 3\n") (Err (Refused Proof (record { line = 2; column = 3 }) expected.LoadedCount))
another_count = refl

too_few_variables : Walk equation (codes "c\np cnf 1 0\n") (codes "") (Err (Refused Cnf (record { line = 2; column = 7 }) expected.VarCount))
too_few_variables = refl

no_end : Walk equation two_clauses (codes "pseudo-Boolean derivation profile 1\nf 2\n* note\n") (Err (Refused Proof (record { line = 4; column = 1 }) expected.StepWord))
no_end = refl

head_again : Walk equation two_clauses (codes "pseudo-Boolean derivation profile 1\nf 2\n pseudo-Boolean derivation profile 1\n") (Err (Refused Proof (record { line = 3; column = 2 }) expected.StepWord))
head_again = refl

behind_the_end : Walk equation (codes "p cnf 2 0") (codes "pseudo-Boolean derivation profile 1\nf 2\nend\n\nout 1") (Err (Refused Proof (record { line = 5; column = 1 }) expected.DerivationEnd))
behind_the_end = refl

steps_too_early : Walk equation two_clauses (codes "pseudo-Boolean derivation profile 1\nout 1\n") (Err (Refused Proof (record { line = 2; column = 1 }) expected.Loaded))
steps_too_early = refl

-- a fault inside a line comes before that of its place
read_before_placed : Walk equation two_clauses (codes "rup") (Err (Refused Proof (record { line = 1; column = 4 }) expected.Term))
read_before_placed = refl

no_word_behind_the_end : Walk equation (codes "p cnf 2 0") (codes "pseudo-Boolean derivation profile 1\nf 2\nend\nfoo") (Err (Refused Proof (record { line = 4; column = 1 }) expected.StepWord))
no_word_behind_the_end = refl

-- the rest of the CNF is read at the end
cnf_goes_on : Walk equation (codes "p cnf 2 0\n1 0\n") (codes "pseudo-Boolean derivation profile 1\nf 2\nend\nfoo") (Err (Refused Cnf (record { line = 2; column = 1 }) expected.CnfEnd))
cnf_goes_on = refl

clauses_left : Walk equation two_clauses (codes "pseudo-Boolean derivation profile 1\nf 2\nend\n") (Ok (Rejected 3 ClausesLeft))
clauses_left = refl

nothing_to_show : Accepts equation (codes "p cnf 2 0") (codes "pseudo-Boolean derivation profile 1\nf 2\nend")
nothing_to_show = refl

-- ---- denials

sets_an_original : Walk equation two_clauses (codes "pseudo-Boolean derivation profile 1\nf 2\nred +1 x1 >= 1 ; x1 -> 1\n") (Ok (Rejected 3 (SetsOriginal 1)))
sets_an_original = inr (SetsOriginal 1, inl refl, refl)

-- the variable of a product is an original one too, and its constraints are loaded
sets_a_product : Walk product (codes "p cnf 3 0\n") (codes "pseudo-Boolean derivation profile 1\nf 4\nred +1 x1 >= 1 ; x3 -> 1\n") (Ok (Rejected 3 (SetsOriginal 3)))
sets_a_product = inr (SetsOriginal 3, inl refl, refl)

no_variable_for_a_product : Walk product (codes "p cnf 2 0\n") (codes "") (Err (Refused Cnf (record { line = 1; column = 7 }) expected.VarCount))
no_variable_for_a_product = refl

not_implied : Walk equation two_clauses (codes "pseudo-Boolean derivation profile 1\nf 2\nout 2\n") (Ok (Rejected 3 (NotImplied 2)))
not_implied = inr (NotImplied 2, inl refl, refl)

-- lines that say nothing count
blank_lines_count : Walk equation two_clauses (codes "\npseudo-Boolean derivation profile 1\n* note\nf 2\n \nout 2\n") (Ok (Rejected 6 (NotImplied 2)))
blank_lines_count = inr (NotImplied 2, inl refl, refl)

unknown_variable : Walk equation two_clauses (codes "pseudo-Boolean derivation profile 1\nf 2\nrup +1 x3 >= 1 ;\n") (Ok (Rejected 3 (UnknownVar 3)))
unknown_variable = inr (UnknownVar 3, inl refl, refl)

-- a clause is read before the step is tested
clause_first : Walk equation (codes "p cnf 2 2\n1 3 0\n") (codes "pseudo-Boolean derivation profile 1\nf 2\nout 7\n") (Err (Refused Cnf (record { line = 2; column = 3 }) expected.ClauseWord))
clause_first = refl

-- ---- acceptance

-- a step that puts out a clause which stands as a constraint
put_out : (db : Database) (id : ℕ) (ls : List Lit) (c : Constraint) → constraint_at db.live id ≡ Some c → implies c (clause_form ls) ≡ true → Allowed db (Out id) (Some ls) (marked db id)
put_out db id ls c found implied = record {
  vars = All-nil (λ v. v ≤ db.vars);
  ids = All-cons (IsLive db.live) id [] (ap is_some found) (All-nil (IsLive db.live));
  rule = record { literals = ls; is_next = refl; constraint = c; found = found; implied = implied; after = refl };
}

abbrev not_x : ℕ → Lit
not_x v = record { var = v; positive = false }

abbrev half : (ℕ → Lit) → Constraint
half l = record { terms = record { coef = 1; lit = l 1 } ∷ record { coef = 1; lit = l 2 } ∷ []; degree = 1 }

abbrev loaded_halves : Database
loaded_halves = loaded_database 2 2 (half x ∷ half not_x ∷ [])

both_halves : Accepts equation two_clauses (codes "pseudo-Boolean derivation profile 1\nf 2\nout 1\nout 2\nend\n")
both_halves =
    inl (
      marked loaded_halves 1,
      put_out loaded_halves 1 (x 1 ∷ x 2 ∷ []) (half x) refl refl,
      inl (marked (marked loaded_halves 1) 2, put_out (marked loaded_halves 1) 2 (not_x 1 ∷ not_x 2 ∷ []) (half not_x) refl refl, refl),
    )

-- and once more is once too often
no_third_clause : Walk equation two_clauses (codes "pseudo-Boolean derivation profile 1\nf 2\nout 1\nout 2\nout 1\n") (Ok (Rejected 5 NoClause))
no_third_clause =
    inl (
      marked loaded_halves 1,
      put_out loaded_halves 1 (x 1 ∷ x 2 ∷ []) (half x) refl refl,
      inl (marked (marked loaded_halves 1) 2, put_out (marked loaded_halves 1) 2 (not_x 1 ∷ not_x 2 ∷ []) (half not_x) refl refl, inr (NoClause, inl refl, refl)),
    )

-- 5 x1 + 3 x2 + 2 x3 >= 6 forces x1
abbrev heavy_one : Problem
heavy_one = record { vars = 3; numbered = 3; names = []; products = []; objective = None; statements = record { terms = term 5 1 ∷ term 3 2 ∷ term 2 3 ∷ []; relation = AtLeast; right = pos 6 } ∷ [] }

abbrev unit_and_clause : List ℕ
unit_and_clause = codes "p cnf 3 2\n1 0\n2 3 0\n"

abbrev heavy : Constraint
heavy = record { terms = record { coef = 5; lit = x 1 } ∷ record { coef = 3; lit = x 2 } ∷ record { coef = 2; lit = x 3 } ∷ []; degree = 6 }

abbrev unit : Constraint
unit = record { terms = record { coef = 1; lit = x 1 } ∷ []; degree = 1 }

abbrev rest : Constraint
rest = record { terms = record { coef = 1; lit = x 2 } ∷ record { coef = 1; lit = x 3 } ∷ []; degree = 1 }

abbrev no_unit : Constraint
no_unit = negation unit

negation_joins : Needs (no_unit ∷ heavy ∷ []) [] (not_x 1)
negation_joins = record {
  by = no_unit;
  coef = 1;
  known = Contains-here no_unit (heavy ∷ []);
  term = Contains-here (record { coef = 1; lit = not_x 1 }) [];
  short = omega arith;
  absent = refl;
  undecided = refl;
}

unit_conflict : Conflict (no_unit ∷ heavy ∷ []) []
unit_conflict = inr (not_x 1 ∷ [], heavy, (inr negation_joins, tt), Contains-there no_unit (heavy ∷ []) heavy (Contains-here heavy []), omega arith)

abbrev db0 : Database
db0 = loaded_database 3 3 (heavy ∷ [])

abbrev db1 : Database
db1 = grown db0 unit

abbrev db2 : Database
db2 = marked db1 2

abbrev db3 : Database
db3 = grown db2 rest

abbrev rup_unit : Step
rup_unit = Rup (term 1 1 ∷ []) (pos 1) (1 ∷ [])

abbrev pol_rest : Step
pol_rest = Pol (Push 1 ∷ Weaken 1 ∷ Saturate ∷ [])

unit_allowed : Allowed db0 rup_unit None db1
unit_allowed = record {
  vars = All-cons (λ v. v ≤ 3) 1 [] (omega arith) (All-nil (λ v. v ≤ 3));
  ids = All-cons (IsLive db0.live) 1 [] refl (All-nil (IsLive db0.live));
  rule = record { slim = omega arith; conflict = unit_conflict; after = refl };
}

rest_allowed : Allowed db2 pol_rest None db3
rest_allowed = record {
  vars = All-cons (λ v. v ≤ 3) 1 [] (omega arith) (All-nil (λ v. v ≤ 3));
  ids = All-cons (IsLive db2.live) 1 [] refl (All-nil (IsLive db2.live));
  rule = record {
    factors = All-cons HasFactor (Push 1) (Weaken 1 ∷ Saturate ∷ []) tt (All-cons HasFactor (Weaken 1) (Saturate ∷ []) tt (All-cons HasFactor Saturate [] tt (All-nil HasFactor)));
    stacked = refl;
    sum = rest;
    result = refl;
    after = refl;
  };
}

-- a unit by propagation, and the rest by weakening and saturation
unit_and_rest : Accepts heavy_one unit_and_clause (codes "pseudo-Boolean derivation profile 1\nf 1\nrup +1 x1 >= 1 ; 1\nout 2\npol 1 x1 w s\nout 3\nend\n")
unit_and_rest =
    inl (
      db1,
      unit_allowed,
      inl (
        db2,
        put_out db1 2 (x 1 ∷ []) unit refl refl,
        inl (
          db3,
          rest_allowed,
          inl (marked db3 3, put_out db3 3 (x 2 ∷ x 3 ∷ []) rest refl refl, refl),
        ),
      ),
    )

-- what was put out stays
deletes_an_output : Walk heavy_one unit_and_clause (codes "pseudo-Boolean derivation profile 1\nf 1\nrup +1 x1 >= 1 ; 1\nout 2\npol 1 x1 w s\nout 3\ndel 2\nend\n") (Ok (Rejected 7 (OutDeleted 2)))
deletes_an_output =
    inl (
      db1,
      unit_allowed,
      inl (
        db2,
        put_out db1 2 (x 1 ∷ []) unit refl refl,
        inl (
          db3,
          rest_allowed,
          inl (marked db3 3, put_out db3 3 (x 2 ∷ x 3 ∷ []) rest refl refl, inr (OutDeleted 2, inl refl, refl)),
        ),
      ),
    )

-- what was deleted is not used
abbrev db4 : Database
db4 = reduced db2 (1 ∷ [])

heavy_deleted : Allowed db2 (Del (1 ∷ [])) None db4
heavy_deleted = record {
  vars = All-nil (λ v. v ≤ 3);
  ids = All-cons (IsLive db2.live) 1 [] refl (All-nil (IsLive db2.live));
  rule = record {
    once = AllPairs-cons (λ i j. i ≢ j) 1 [] (All-nil (λ j. 1 ≢ j)) (AllPairs-nil (λ i j. i ≢ j));
    kept = All-cons (λ id. is_out db2.live id ≡ false) 1 [] refl (All-nil (λ id. is_out db2.live id ≡ false));
    after = refl;
  };
}

uses_a_deleted_one : Walk heavy_one unit_and_clause (codes "pseudo-Boolean derivation profile 1\nf 1\nrup +1 x1 >= 1 ; 1\nout 2\ndel 1\npol 1 x1 w s\nout 3\nend\n") (Ok (Rejected 6 (UnknownId 1)))
uses_a_deleted_one = inl (db1, unit_allowed, inl (db2, put_out db1 2 (x 1 ∷ []) unit refl refl, inl (db4, heavy_deleted, inr (UnknownId 1, inl refl, refl))))

one_clause_left : Walk heavy_one unit_and_clause (codes "pseudo-Boolean derivation profile 1\nf 1\nrup +1 x1 >= 1 ; 1\nout 2\npol 1 x1 w s\nend\n") (Ok (Rejected 6 ClausesLeft))
one_clause_left = inl (db1, unit_allowed, inl (db2, put_out db1 2 (x 1 ∷ []) unit refl refl, inl (db3, rest_allowed, refl)))
