-- Laws of the walk over the texts (our own).
use Rattle.std.specs.Prelude.{◌≡◌, ◌≤◌, ℕ, List, [], ◌∷◌, ◌++◌, length, Ok, All, codes}
use Rattle.pb_base.specs.declared.literal.Lit.{Lit}
use Rattle.pb_base.specs.declared.problem.Problem.{Problem}
use Rattle.pb_base.specs.Problems.{originals}
use Rattle.std.specs.List.{AllZip, flat_map}
use Rattle.pb_desk.specs.Lines.{lines_of}
use Rattle.pb_norm.specs.Products.{loaded_of}
use Rattle.pb_norm.specs.Solutions.{HasProducts}
use Rattle.pb_dimacs.specs.declared.head.CnfHead.{CnfHead}
use Rattle.pb_dimacs.specs.CnfWhole.{told_of, IsTextWithin}
use Rattle.pb_dimacs.specs.CnfWhole.CnfTold.{says}
use Rattle.pb_steps.specs.declared.step.Step.{Step}
use Rattle.pb_steps.specs.declared.step.Step.TheVariants.{Head, Loaded, End}
use Rattle.pb_steps.specs.Database.{Database, loaded_database}
use Rattle.pb_steps.specs.LineSteps.{step_of}
use Rattle.pb_steps.specs.Runs.{Runs}
use Rattle.pb_steps.specs.Sayable.{IsSayable}
use Rattle.pb_steps.specs.StepText.{step_line}
use Rattle.pb_check.specs.Turns.{Answer}
use Rattle.pb_check.specs.Walk.{Walk, Accepts}
use Rattle.pb_check.specs.Models.{ExtendsSolutions}

-- an accepted derivation gives that the solutions extend to models of the clauses, whatever the texts, where the products are over the problem's variables
abbrev pub AcceptedCnfExtends : Type 0
AcceptedCnfExtends = (p : Problem) (cnf proof : List ℕ) → HasProducts p → Accepts p cnf proof → ExtendsSolutions p cnf

-- there is an answer for any texts, and no other
pub record WalkHasOneAnswer : Type 0 where
  pub some : (p : Problem) (cnf proof : List ℕ) → (answer : Answer) × Walk p cnf proof answer
  pub only : (p : Problem) (cnf proof : List ℕ) (answer other : Answer) → Walk p cnf proof answer → Walk p cnf proof other → answer ≡ other

-- the lines of the text say the steps, one after another
abbrev pub SaySteps : List ℕ → List Step → Type 0
SaySteps text steps = AllZip (λ line step. step_of line ≡ Ok step) (lines_of text) steps

-- steps with the lines that stand around them
abbrev pub framed : ℕ → List Step → List Step
framed count steps = Head ∷ Loaded count ∷ (steps ++ End ∷ [])

-- a run over the loaded constraints that puts out the clauses which the CNF tells is accepted, however its lines are written, within the limits of a text
abbrev pub RunsAreAccepted : Type 0
RunsAreAccepted =
    (p : Problem) (cnf proof : List ℕ) (head : CnfHead) (clauses : List (List Lit)) (steps : List Step) (end : Database) →
    told_of cnf ≡ says head clauses → originals p ≤ head.vars → IsTextWithin proof → SaySteps proof (framed (length (loaded_of p)) steps)
    → Runs (loaded_database (originals p) head.vars (loaded_of p)) steps clauses end → Accepts p cnf proof

-- the same of a text that is written of the steps, a line each
abbrev pub WrittenRunsAreAccepted : Type 0
WrittenRunsAreAccepted =
    (p : Problem) (cnf proof : List ℕ) (head : CnfHead) (clauses : List (List Lit)) (steps : List Step) (end : Database) →
    told_of cnf ≡ says head clauses → originals p ≤ head.vars → IsTextWithin proof → All IsSayable (framed (length (loaded_of p)) steps)
    → proof ≡ flat_map (λ s. step_line s ++ codes "\n") (framed (length (loaded_of p)) steps)
    → Runs (loaded_database (originals p) head.vars (loaded_of p)) steps clauses end → Accepts p cnf proof
