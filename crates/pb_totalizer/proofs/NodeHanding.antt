-- The clauses of a node with the lines about its parts, as they are handed over: those lines, what goes over them, and their deletion.
use Rattle.std.proofs.Common.{◌≡◌, ◌+◌, ◌-◌, ◌∙◌, ◌++◌, ℕ, List, [], ◌∷◌, sym, ap, append_assoc, subst, arith}
use Rattle.std.specs.Prelude.{Result, IsErrAnd}
use Rattle.std.specs.List.{range_with_len}
use Rattle.pb_steps.specs.declared.step.Step.{Step}
use Rattle.pb_steps.specs.declared.step.Step.TheVariants.{Del}
use Rattle.pb_derive.specs.Deletions.{deletion_steps}
use Rattle.pb_family.specs.StepSinks.{StepState, TakesSteps, StopsInSteps, HandsSteps}
use Rattle.pb_family.specs.declared.sink.SinkFault.{SinkFault}
use Rattle.pb_family.proofs.Deriving.{Deriving, deriving_from, deriving_as, deriving_step, steps_fault, steps_last}

-- the lines about both parts, and what goes over them by where they begin
pub record NodeForm (X : Type 0) : Type 0 where
  pub left_size : ℕ
  pub right_size : ℕ
  pub lefts : ℕ → List Step
  pub rights : ℕ → List Step
  pub place : ℕ → ℕ → X
  pub body : X → ℕ → List Step

abbrev pub form_steps : {X : Type 0} → NodeForm X → ℕ → List Step
form_steps f next =
    let size = f.left_size + f.right_size in
    (f.lefts next ++ f.rights (next + f.left_size)) ++ (f.body (f.place next (next + f.left_size)) (next + size) ++ deletion_steps size next 1)

module _ {R X : Type 0} (f : NodeForm X) (old : StepState R) where
  abbrev size : ℕ
  size = f.left_size + f.right_size

  abbrev lefts : List Step
  lefts = f.lefts old.next

  abbrev gone : List Step
  gone = deletion_steps size old.next 1

  abbrev rest : List Step
  rest = f.body (f.place old.next (old.next + f.left_size)) (old.next + size) ++ gone

  starts : Deriving (form_steps f old.next) (lefts ++ (f.rights (old.next + f.left_size) ++ rest)) old old
  starts = deriving_from old (append_assoc lefts (f.rights (old.next + f.left_size)) rest)

  pub lefts_stopped : {T : Type 0} (result : Result T SinkFault) (g : SinkFault) (after : StepState R) → IsErrAnd result (λ k. k ≡ g) → StopsInSteps (f.lefts old.next) old after g → HandsSteps (form_steps f old.next) result old after
  lefts_stopped result g after is part = steps_fault result g lefts (f.rights (old.next + f.left_size) ++ rest) after is starts part

  module _ (mid : StepState R) (taken : TakesSteps (f.lefts old.next) old mid) (mid_is : mid.next ≡ old.next + f.left_size) where
    after_lefts : Deriving (form_steps f old.next) (f.rights mid.next ++ rest) old mid
    after_lefts = deriving_as (ap (λ (at : ℕ). f.rights at ++ rest) (sym mid_is)) (deriving_step {left = f.rights (old.next + f.left_size) ++ rest} lefts mid starts taken)

    pub rights_stopped : {T : Type 0} (result : Result T SinkFault) (g : SinkFault) (after : StepState R) → IsErrAnd result (λ k. k ≡ g) → StopsInSteps (f.rights mid.next) mid after g → HandsSteps (form_steps f old.next) result old after
    rights_stopped result g after is part = steps_fault result g (f.rights mid.next) rest after is after_lefts part

    module _ (mid_2 : StepState R) (taken_2 : TakesSteps (f.rights mid.next) mid mid_2) (mid_2_is : mid_2.next ≡ mid.next + f.right_size) (next middle : ℕ) (next_is : next ≡ old.next) (middle_is : middle ≡ mid.next) (x : X) (x_is : x ≡ f.place next middle) where
      body_as : f.body (f.place old.next (old.next + f.left_size)) (old.next + size) ≡ f.body x mid_2.next
      body_as =
          let at : old.next + size ≡ mid_2.next = omega (arith, mid_is, mid_2_is) in
          let there : old.next + f.left_size ≡ middle = omega (arith, mid_is, middle_is) in
          let placed : f.place old.next (old.next + f.left_size) ≡ x = (λ k. f.place (sym next_is k) (there k)) ∙ sym x_is in
          λ k. f.body (placed k) (at k)

      after_rights : Deriving (form_steps f old.next) (f.body x mid_2.next ++ gone) old mid_2
      after_rights = deriving_as (ap (λ (ss : List Step). ss ++ gone) body_as) (deriving_step {left = rest} (f.rights mid.next) mid_2 after_lefts taken_2)

      pub body_stopped : {T : Type 0} (result : Result T SinkFault) (g : SinkFault) (after : StepState R) → IsErrAnd result (λ k. k ≡ g) → StopsInSteps (f.body x mid_2.next) mid_2 after g → HandsSteps (form_steps f old.next) result old after
      body_stopped result g after is part = steps_fault result g (f.body x mid_2.next) gone after is after_rights part

      pub form_handed : {T : Type 0} (last : StepState R) → TakesSteps (f.body x mid_2.next) mid_2 last → (result : Result T SinkFault) (after : StepState R) (end : ℕ) → end ≡ mid_2.next → HandsSteps (Del (range_with_len next (end - next)) ∷ []) result last after
          → HandsSteps (form_steps f old.next) result old after
      form_handed last taken_3 result after end end_is h =
          let long : end - next ≡ size = omega (arith, end_is, next_is, mid_is, mid_2_is) in
          steps_last result gone after (deriving_step {left = gone} (f.body x mid_2.next) last after_rights taken_3)
          (subst (λ (ss : List Step). HandsSteps ss result last after) (λ k. Del (range_with_len (next_is k) (long k)) ∷ []) h)
