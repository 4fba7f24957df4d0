-- A first part of lines is the first lines and a part of the next.
use Rattle.std.proofs.Common.{◌≡◌, ◌≤◌, ◌<◌, ◌+◌, ◌-◌, ◌++◌, ℕ, List, [], ◌∷◌, length, take, refl, ap, subst, sym, ◌∙◌, inl, inr, arith, append_assoc}
use Rattle.std.specs.Prelude.{◌⊎◌}
use Rattle.std.proofs.lemmas.List.{take-append-le}
use Rattle.std.proofs.Math.Seq.{take-append-add}
use Rattle.std.proofs.lemmas.Bool.{cases_lt}
use Rattle.pb_steps.specs.declared.step.Step.{Step}
use Rattle.pb_family.specs.StepSinks.{first_line, step_text, steps_text}
use Rattle.pb_suite.specs.Standing.{AreFirstLines}

-- none of no lines
no_lines : (n : ℕ) → AreFirstLines [] (take n (steps_text []))
unfolding steps_text
no_lines n = record { front = []; left = []; whole = refl; count = n; are = refl }

-- a part of the first line alone
within_first : (s : Step) (steps : List Step) (n : ℕ) → n ≤ length (step_text s) → AreFirstLines (s ∷ steps) (take n (steps_text (s ∷ steps)))
unfolding steps_text
within_first s steps n le = record { front = []; left = s ∷ steps; whole = refl; count = n; are = take-append-le n (step_text s) (steps_text steps) le }

-- the first line, and first lines of the others
behind_first : (s : Step) (steps : List Step) (n : ℕ) → AreFirstLines steps (take n (steps_text steps)) → AreFirstLines (s ∷ steps) (take (length (step_text s) + n) (steps_text (s ∷ steps)))
unfolding steps_text
behind_first s steps n h = record {
  front = s ∷ h.front;
  left = h.left;
  whole = ap (λ (ss : List Step). s ∷ ss) h.whole;
  count = h.count;
  are = take-append-add (step_text s) (steps_text steps) n ∙ ap (λ (xs : List ℕ). step_text s ++ xs) h.are ∙ sym (append_assoc (step_text s) (steps_text h.front) (take h.count (first_line h.left)));
}

pub first_lines : (steps : List Step) (n : ℕ) → AreFirstLines steps (take n (steps_text steps))
first_lines [] n = no_lines n
first_lines (s ∷ steps) n = by_length (first_lines steps (n - length (step_text s))) (cases_lt (length (step_text s)) n)
  where
    by_length : AreFirstLines steps (take (n - length (step_text s)) (steps_text steps)) → (length (step_text s) < n) ⊎ (n ≤ length (step_text s)) → AreFirstLines (s ∷ steps) (take n (steps_text (s ∷ steps)))
    by_length rest (inr le) = within_first s steps n le
    by_length rest (inl gt) =
        let m = n - length (step_text s) in
        let all : length (step_text s) + m ≡ n = omega (arith, gt) in
        subst (λ (k : ℕ). AreFirstLines (s ∷ steps) (take k (steps_text (s ∷ steps)))) all (behind_first s steps m rest)
