-- What is left of a constraint, as a plan keeps it. Our own.
use Rattle.std.specs.Prelude.{◌≡◌, ℕ, List, []}
use Rattle.pb_base.specs.declared.literal.Lit.{Lit}
use Rattle.pb_norm.specs.declared.reduction.Rest.{Rest}
use Rattle.pb_norm.specs.declared.reduction.Rest.TheVariants as rest
use Rattle.pb_norm.specs.Constraints.{Weighted}
use Rattle.pb_steps.specs.declared.step.Step.{Step}
use Rattle.pb_choice.specs.declared.residual.Residual.{Residual}
use Rattle.pb_choice.specs.declared.residual.Residual.TheVariants.{Nothing, Empty, Clause, Sum}
use Rattle.pb_base.specs.declared.options.Options.{Options}
use Rattle.pb_choice.specs.declared.treatment.Treatment.{Treatment}
use Rattle.pb_choice.specs.declared.treatment.Treatment.TheVariants as treatment
use Rattle.pb_choice.specs.Choice.{treatment_of}
use Rattle.pb_choice.specs.Chosen.{sum_at, treatment_at}
use Rattle.pb_choice.specs.Clauses.{by_rest, rest_clauses, rest_count, rest_fresh}
use Rattle.pb_choice.specs.ConstraintSteps.{rest_steps}

abbrev pub left_treatment : Residual → Treatment
left_treatment Nothing = treatment.Nothing
left_treatment Empty = treatment.Empty
left_treatment (Clause ls) = treatment.Clause
left_treatment (Sum f) = treatment_at f

-- as a rest; of which class its sum is makes no difference to what is asked below
abbrev pub left_rest : Residual → Rest
left_rest Nothing = rest.Nothing
left_rest Empty = rest.Empty
left_rest (Clause ls) = rest.Clause ls
left_rest (Sum f) = rest.General (sum_at f)

abbrev pub left_clauses : Residual → ℕ → List (List Lit)
left_clauses l first = rest_clauses (left_treatment l) (left_rest l) first

abbrev pub left_fresh : Residual → ℕ
left_fresh l = rest_fresh (left_treatment l) (left_rest l)

abbrev pub left_count : Residual → ℕ
left_count l = rest_count (left_treatment l) (left_rest l)

abbrev pub left_steps : Step → Residual → ℕ → ℕ → ℕ → List Step
left_steps reduces l first id next = rest_steps reduces (left_treatment l) (left_rest l) first id next

-- the terms of the sum, if it is one
abbrev pub rest_terms : Rest → List Weighted
rest_terms r = by_rest [] [] (λ ls. []) (λ m. m.terms) r

abbrev pub left_terms : Residual → List Weighted
left_terms l = rest_terms (left_rest l)

-- it is this rest, treated as it is to be
pub record IsLeft (o : Options) (r : Rest) (left : Residual) : Type 0 where
  pub treatment_is : left_treatment left ≡ treatment_of o r
  pub terms_are : left_terms left ≡ rest_terms r
  pub clauses_are : (first : ℕ) → left_clauses left first ≡ rest_clauses (treatment_of o r) r first
  pub fresh_is : left_fresh left ≡ rest_fresh (treatment_of o r) r
  pub count_is : left_count left ≡ rest_count (treatment_of o r) r
  pub steps_are : (reduces : Step) (first id next : ℕ) → left_steps reduces left first id next ≡ rest_steps reduces (treatment_of o r) r first id next
