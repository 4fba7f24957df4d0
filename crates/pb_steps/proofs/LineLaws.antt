-- The laws of lines.
use Rattle.std.proofs.Common.{◌≡◌, ◌+◌, ℕ, List, length, ap, ◌∙◌}
use Rattle.std.specs.Prelude.{Result, Ok, Err, IfOk}
use Rattle.pb_base.specs.Words.{words_of}
use Rattle.pb_steps.specs.declared.fault.StepFault.{StepFault}
use Rattle.pb_steps.specs.declared.step.Step.{Step}
use Rattle.pb_steps.specs.declared.step.Step.TheVariants.{Blank, Head, Loaded, Pol, Rup, Red, Del, Out, End}
use Rattle.pb_steps.specs.LineSteps.{step_of}
use Rattle.pb_steps.specs.StepText.{step_line}
use Rattle.pb_steps.specs.StepGrammar.{texts, WordsSay}
use Rattle.pb_steps.specs.StepLines.{ReadsWhatIsSaid, WrittenLineReads, LinesDiffer, StepFaultsSayNothing}
use Rattle.pb_steps.specs.Sayable.{IsSayable}
use Rattle.pb_steps.proofs.SaidSteps.{said_is}
use Rattle.pb_steps.proofs.ReadSteps.{said_from}
use Rattle.pb_steps.proofs.Canonical.{line_says}

pub reads_what_is_said : ReadsWhatIsSaid
reads_what_is_said line s = (said_from (length line + 1) (words_of line) s, said_is (length line + 1) (words_of line) s)

pub written_line_reads : WrittenLineReads
written_line_reads s ok = said_is (length (step_line s) + 1) (words_of (step_line s)) s (line_says s ok)

one_answer : (r : Result Step StepFault) (s t : Step) → r ≡ Ok s → r ≡ Ok t → s ≡ t
one_answer r s t first second = cc

pub lines_differ : LinesDiffer
lines_differ s t s_ok t_ok same = one_answer (step_of (step_line s)) s t (written_line_reads s s_ok) (ap step_of same ∙ written_line_reads t t_ok)

one_or_other : (r : Result Step StepFault) (fault : StepFault) (s : Step) → r ≡ Err fault → r ≡ Ok s → ⊥
one_or_other r fault s first second = cc

pub faults_say_nothing : StepFaultsSayNothing
faults_say_nothing line fault is s says = one_or_other (step_of line) fault s is (said_is (length line + 1) (words_of line) s says)

sayable_by : (ws : List (List ℕ)) (s : Step) → WordsSay ws s → IsSayable s
sayable_by ws Blank says = tt
sayable_by ws Head says = says.1
sayable_by ws (Loaded n) says = says.1
sayable_by ws (Pol ops) says = says.1
sayable_by ws (Rup ts right ids) says = says.1
sayable_by ws (Red ts right sets) says = says.1
sayable_by ws (Del ids) says = says.1
sayable_by ws (Out id) says = says.1
sayable_by ws End says = says.1

pub read_is_sayable : (line : List ℕ) (s : Step) → step_of line ≡ Ok s → IsSayable s
read_is_sayable line s is = sayable_by (texts (words_of line)) s (said_from (length line + 1) (words_of line) s is)

pub all_sayable : (r : Result Step StepFault) (line : List ℕ) → IfOk r (λ s. step_of line ≡ Ok s) → IfOk r IsSayable
all_sayable (Ok s) line is = read_is_sayable line s is
all_sayable (Err fault) line is = tt
