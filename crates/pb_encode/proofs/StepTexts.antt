-- The text of steps that lines can say.
use Rattle.std.proofs.Common.{◌≡◌, ◌≤◌, ◌^◌, ℕ, List, [], ◌∷◌, length, map, refl, sym, ap, subst, ◌∙◌, arith, length-append, append_assoc}
use Rattle.std.specs.Prelude.{All, sum_by, codes}
use Rattle.std.proofs.lemmas.List.{length-map}
use Rattle.std.proofs.lemmas.List.Elements.{All-head, All-tail, All-map, All-weaker}
use Rattle.std.proofs.lemmas.List.Sums.{sum_by-cons}
use Rattle.pb_desk.specs.Lines.{lines_of}
use Rattle.pb_desk.proofs.LineLemmas.{lines_break}
use Rattle.pb_steps.specs.declared.step.Step.{Step}
use Rattle.pb_steps.specs.Sayable.{IsSayable}
use Rattle.pb_steps.specs.StepText.{step_line}
use Rattle.pb_steps.proofs.Unbroken.{line_unbroken}
use Rattle.pb_derive.specs.Short.{line_size}
use Rattle.pb_family.specs.StepSinks.{step_text, steps_text}
use Rattle.pb_dimacs.specs.CnfWhole.{IsTextWithin}

text_lines : (steps : List Step) → All IsSayable steps → lines_of (steps_text steps) ≡ map step_line steps
unfolding steps_text
text_lines [] sayable = refl
text_lines (s ∷ steps) sayable =
    ap lines_of (append_assoc (step_line s) (codes "\n") (steps_text steps))
    ∙ lines_break (step_line s) (steps_text steps) (line_unbroken s (All-head IsSayable s steps sayable))
    ∙ ap (λ (ls : List (List ℕ)). step_line s ∷ ls) (text_lines steps (All-tail IsSayable s steps sayable))

pub text_size : (steps : List Step) → length (steps_text steps) ≡ sum_by line_size steps
unfolding steps_text
text_size [] = refl
text_size (s ∷ steps) = omega (arith, sum_by-cons line_size s steps, length-append (step_text s) (steps_text steps), length-append (step_line s) (codes "\n"), text_size steps)

-- short lines of which there are not too many are a text within the limits
pub text_within : (steps : List Step) → All IsSayable steps → All (λ s. line_size s ≤ 2 ^ 28) steps → length steps ≤ 2 ^ 40 → sum_by line_size steps ≤ 2 ^ 62 → IsTextWithin (steps_text steps)
text_within steps sayable each few all =
    let lines = text_lines steps sayable in
    record {
      bytes = omega (arith, text_size steps, all);
      lines = omega (arith, ap (λ (ls : List (List ℕ)). length ls) lines, length-map steps step_line, few);
      line = subst (All (λ line. length line ≤ 2 ^ 28)) (sym lines)
          (All-map (λ line. length line ≤ 2 ^ 28) step_line steps (All-weaker (λ (s : Step). line_size s ≤ 2 ^ 28) (λ (s : Step). length (step_line s) ≤ 2 ^ 28) (λ s h. omega (arith, h)) steps each));
    }
