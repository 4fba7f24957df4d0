-- Where a derivation is accepted, every solution of the problem extends to a model of the CNF.
use Rattle.std.proofs.Common.{◌≡◌, ◌≤◌, ◌<◌, ◌+◌, ℕ, Bool, true, false, List, [], ◌∷◌, map, take, refl, ap, sym, ◌∙◌, arith, leb}
use Rattle.std.specs.Prelude.{All}
use Rattle.std.proofs.lemmas.Bool.{leb-true}
use Rattle.std.proofs.lemmas.List.{take-take}
use Rattle.std.proofs.lemmas.List.Elements.{All-nil, All-cons, All-append, All-weaker}
use Rattle.pb_base.specs.declared.literal.Lit.{Lit}
use Rattle.pb_base.specs.declared.problem.Problem.{Problem}
use Rattle.pb_base.specs.declared.problem.Raw.{Raw}
use Rattle.pb_base.specs.Literals.{Assignment, assigned_by}
use Rattle.pb_base.specs.Problems.{IsSolution, originals}
use Rattle.pb_norm.specs.declared.halves.Half.{Half}
use Rattle.pb_norm.specs.Constraints.{Constraint, IsAscending}
use Rattle.pb_norm.specs.Halves.{half_terms, half_of, halves_of, constraints_of, loaded}
use Rattle.pb_norm.specs.Products.{defining, loaded_of}
use Rattle.pb_norm.specs.Solutions.{HasProducts}
use Rattle.pb_norm.proofs.Agreement.{IsModel-agree}
use Rattle.pb_norm.proofs.ProductForms.{IsFormOver, defining_over}
use Rattle.pb_norm.proofs.Solutions.{are_fronts}
use Rattle.pb_norm.proofs.WrittenForm.{normal_terms-ascending}
use Rattle.pb_dimacs.specs.declared.head.CnfHead.{CnfHead}
use Rattle.pb_dimacs.specs.CnfReading.{IsLitWithin}
use Rattle.pb_dimacs.specs.CnfRows.{rows_of}
use Rattle.pb_dimacs.specs.CnfSymbols.{CnfSymbol, Start, start_of}
use Rattle.pb_dimacs.specs.CnfSymbols.Start.{told, wrong}
use Rattle.pb_dimacs.specs.CnfWhole.{told_after, told_of}
use Rattle.pb_dimacs.specs.CnfWhole.CnfTold.{says}
use Rattle.pb_dimacs.proofs.Whole.{told_is_said}
use Rattle.pb_steps.proofs.Running.{accepted_extends}
use Rattle.pb_check.specs.Turns.{Clauses}
use Rattle.pb_check.specs.Walk.{task_of, WalksFrom, WalksBy}
use Rattle.pb_check.specs.WalkLaws.{AcceptedCnfExtends}
use Rattle.pb_check.specs.Models.{IsModelFrom, ExtendsSolutions}
use Rattle.pb_check.proofs.Accepted.{IsRun, accepted, no-fault, no-cnf, started, head-run}
use Rattle.pb_check.proofs.Values.{listed, listed-agrees, listed_covers, listed_front}

-- ---- the loaded constraints are in order

abbrev IsOrdered : Constraint → Type 0
IsOrdered c = IsAscending c.terms

halves-ordered : (s : Raw) (halves : List Half) → All IsOrdered (map (λ half. half_of half s) halves)
halves-ordered s [] = All-nil IsOrdered
halves-ordered s (half ∷ halves) = All-cons IsOrdered (half_of half s) (map (λ half. half_of half s) halves) (normal_terms-ascending (half_terms half s.terms)) (halves-ordered s halves)

statements-ordered : (ss : List Raw) → All IsOrdered (loaded ss)
statements-ordered [] = All-nil IsOrdered
statements-ordered (s ∷ ss) = All-append IsOrdered (constraints_of s) (loaded ss) (halves-ordered s (halves_of s.relation)) (statements-ordered ss)

loaded-ordered : (p : Problem) → HasProducts p → All IsOrdered (loaded_of p)
loaded-ordered p within =
    let forms = defining_over (λ v. Unit {0}) p.vars (p.vars + 1) p.products (omega arith) (λ n low less. tt) within in
    All-append IsOrdered (defining (p.vars + 1) p.products) (loaded p.statements)
    (All-weaker (IsFormOver (λ v. Unit {0})) IsOrdered (λ c form. form.linear.ascending) (defining (p.vars + 1) p.products) forms) (statements-ordered p.statements)

-- ---- from a run

-- a model that begins with the values of all variables of the constraints begins with those of the problem's variables
cut_twice : (p : Problem) (model all values : List Bool) → take (originals p) model ≡ all → take p.vars all ≡ values → take p.vars model ≡ values
cut_twice p model all values whole front = sym (take-take p.vars (originals p) model (omega arith)) ∙ ap (take p.vars) whole ∙ front

model_from : (p : Problem) → HasProducts p → (head : CnfHead) (clauses : Clauses) (r : IsRun head (started (task_of p head)) clauses) → originals p ≤ head.vars → All (All (IsLitWithin head.vars)) r.told →
    (values : List Bool) → IsSolution p values → (model : List Bool) × IsModelFrom head.vars r.told p.vars values model
model_from p products head clauses r enough within values solution =
    let front = (are_fronts p products values).0 solution in
    let all : List Bool = front.0 in
    let found = accepted_extends (originals p) head.vars (loaded_of p) r.steps r.told r.last (loaded-ordered p products) r.runs (assigned_by all) front.1.solves in
    let b : Assignment = found.0 in
    let none : b 0 ≡ false = sym (found.1 0 (omega arith)) in
    let below = All-weaker (All (IsLitWithin head.vars)) (All (λ (l : Lit). l.var < head.vars + 1)) (λ ls h. All-weaker (IsLitWithin head.vars) (λ l. l.var < head.vars + 1) (λ l k. omega (arith, k.high)) ls h) r.told within in (
      listed b head.vars,
      record {
        covers = listed_covers b head.vars;
        satisfies = IsModel-agree (head.vars + 1) b (assigned_by (listed b head.vars)) (listed-agrees b head.vars none) r.told below found.2;
        front = cut_twice p (listed b head.vars) all values (listed_front b all head.vars (originals p) enough front.1.covers found.1) front.1.front;
      },
    )

from_run : (p : Problem) → HasProducts p → (cnf : List ℕ) (head : CnfHead) (symbols : List CnfSymbol) → start_of (rows_of cnf) ≡ told head symbols → originals p ≤ head.vars →
    IsRun head (started (task_of p head)) (record { left = head.clauses; symbols = symbols }) → ExtendsSolutions p cnf
from_run p products cnf head symbols starts enough r =
    let tells : told_of cnf ≡ says head r.told = ap told_after starts ∙ r.tells in
    let said = told_is_said cnf head r.told tells in
    record {
      vars = head.vars;
      clauses = r.told;
      reads = said.0;
      extends = model_from p products head (record { left = head.clauses; symbols = symbols }) r enough said.0.within;
    }

from_head : (p : Problem) → HasProducts p → (cnf proof : List ℕ) (head : CnfHead) (symbols : List CnfSymbol) → start_of (rows_of cnf) ≡ told head symbols →
    (b : Bool) → leb (originals p) head.vars ≡ b → WalksFrom p (rows_of proof) head symbols b accepted → ExtendsSolutions p cnf
from_head p products cnf proof head symbols starts true e w =
    from_run p products cnf head symbols starts (leb-true (originals p) head.vars e) (head-run (task_of p head) head refl (rows_of proof) (record { left = head.clauses; symbols = symbols }) w)
from_head p products cnf proof head symbols starts false e w = absurd (no-fault _ w)

from_start : (p : Problem) → HasProducts p → (cnf proof : List ℕ) (s : Start) → start_of (rows_of cnf) ≡ s → WalksBy p (rows_of proof) s accepted → ExtendsSolutions p cnf
from_start p products cnf proof (told head symbols) starts w = from_head p products cnf proof head symbols starts (leb (originals p) head.vars) refl w
from_start p products cnf proof (wrong fault) starts w = absurd (no-cnf fault w)

pub accepted_cnf_extends : AcceptedCnfExtends
accepted_cnf_extends p cnf proof products w = from_start p products cnf proof (start_of (rows_of cnf)) refl w
