-- A text of written lines says their steps.
use Rattle.std.proofs.Common.{◌≡◌, ℕ, List, [], ◌∷◌, ◌++◌, length, sym, subst, ap, ◌∙◌, append_assoc}
use Rattle.std.specs.Prelude.{All, Ok, flat_map}
use Rattle.std.specs.List.{AllZip}
use Rattle.std.proofs.lemmas.List.Elements.{All-head, All-tail, All-weaker}
use Rattle.pb_desk.specs.Lines.{IsUnbroken, lines_of}
use Rattle.pb_desk.proofs.LineLemmas.{lines_break}
use Rattle.pb_steps.specs.declared.step.Step.{Step}
use Rattle.pb_norm.specs.Products.{loaded_of}
use Rattle.pb_steps.specs.LineSteps.{step_of}
use Rattle.pb_steps.specs.Sayable.{IsSayable}
use Rattle.pb_steps.specs.StepText.{step_line}
use Rattle.pb_steps.proofs.LineLaws.{written_line_reads}
use Rattle.pb_steps.proofs.Unbroken.{line_unbroken}
use Rattle.pb_check.specs.WalkLaws.{SaySteps, framed, WrittenRunsAreAccepted}
use Rattle.pb_check.proofs.Running.{runs_are_accepted}

-- a line that reads as its step
pub record Reads (write : Step → List ℕ) (s : Step) : Type 0 where
  pub unbroken : IsUnbroken (write s)
  pub reads : step_of (write s) ≡ Ok s

abbrev pub written_lines : (Step → List ℕ) → List Step → List ℕ
written_lines write ss = flat_map (λ s. write s ++ 10 ∷ []) ss

pub written_say : (write : Step → List ℕ) (ss : List Step) → All (Reads write) ss → SaySteps (written_lines write ss) ss
written_say write [] h = tt
written_say write (s ∷ ss) h =
    let first : Reads write s = All-head (Reads write) s ss h in
    let rest = written_lines write ss in
    let lines : lines_of ((write s ++ 10 ∷ []) ++ rest) ≡ write s ∷ lines_of rest = ap lines_of (append_assoc (write s) (10 ∷ []) rest) ∙ lines_break (write s) rest first.unbroken in
    subst (λ (ls : List (List ℕ)). AllZip (λ line t. step_of line ≡ Ok t) ls (s ∷ ss)) (sym lines) (first.reads, written_say write ss (All-tail (Reads write) s ss h))

-- ---- lines that are written of steps

line_reads : (s : Step) → IsSayable s → Reads step_line s
line_reads s ok = record { unbroken = line_unbroken s ok; reads = written_line_reads s ok }

pub written_runs_are_accepted : WrittenRunsAreAccepted
written_runs_are_accepted p cnf proof head clauses steps end tells enough within sayable is runs =
    let all = framed (length (loaded_of p)) steps in
    let say : SaySteps (written_lines step_line all) all = written_say step_line all (All-weaker IsSayable (Reads step_line) line_reads all sayable) in
    runs_are_accepted p cnf proof head clauses steps end tells enough within (subst (λ (text : List ℕ). SaySteps text all) (sym is) say) runs
