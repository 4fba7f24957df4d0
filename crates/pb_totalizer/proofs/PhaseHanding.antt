-- The steps along a tree, as they are handed over: of the left part, of the right part, and of the node.
use Rattle.std.proofs.Common.{◌≡◌, ◌<◌, ◌+◌, ◌-◌, ◌*◌, ◌^◌, ◌∙◌, ◌++◌, ℕ, List, [], sym, ap, append-nil, subst, arith}
use Rattle.std.specs.Prelude.{Result, IsErrAnd, count_by}
use Rattle.pb_steps.specs.declared.step.Step.{Step}
use Rattle.pb_steps.specs.Steps.{takes_id}
use Rattle.pb_family.specs.StepSinks.{StepState, TakesSteps, StopsInSteps, HandsSteps}
use Rattle.pb_family.specs.declared.sink.SinkFault.{SinkFault}
use Rattle.pb_family.proofs.Deriving.{Deriving, deriving_starts, deriving_as, deriving_step, deriving_ends, steps_fault}
use Rattle.pb_tree.specs.Scheme.{fresh_of}
use Rattle.pb_tree.specs.Tree.{Tree, node}
use Rattle.pb_totalizer.specs.Totalizer.{totalizer}
use Rattle.pb_totalizer.specs.declared.joint.Joint.{Joint}
use Rattle.pb_totalizer.specs.declared.phase.Phase.{Phase}
use Rattle.pb_totalizer.specs.inner.Phases.{joint_in, joint_ids_in, node_in, phase_steps, phase_ids}
use Rattle.pb_totalizer.proofs.JointHanding.{joint_same, joint_ids_same}
use Rattle.pb_totalizer.proofs.PhaseSteps.{phase_ids_node, phase_counted}
use Rattle.pb_totalizer.proofs.SidesOf.{IsJoint}

module _ {R : Type 0} (phase : Phase) (bound : ℕ) (t l r : Tree) (tree : t ≡ node l r) (first id : ℕ) (old : StepState R) where
  abbrev pub all : List Step
  all = phase_steps phase bound t first id old.next

  abbrev lefts : List Step
  lefts = phase_steps phase bound l first id old.next

  abbrev rights : ℕ → List Step
  rights n = phase_steps phase bound r (first + fresh_of (totalizer bound) l) (id + 2 * fresh_of (totalizer bound) l) n

  abbrev own : ℕ → ℕ → List Step
  own middle next = node_in phase bound l r first id (middle - 1) (next - 1) next

  abbrev rest : ℕ → List Step
  rest n = rights n ++ own n (n + count_by takes_id (rights n))

  starts : Deriving all (lefts ++ rest (old.next + count_by takes_id lefts)) old old
  starts = deriving_as (ap (λ (u : Tree). phase_steps phase bound u first id old.next) tree) (deriving_starts all old)

  pub left_room : old.next + phase_ids phase bound t < 2 ^ 62 → old.next + phase_ids phase bound l < 2 ^ 62
  left_room room = omega (arith, room, ap (phase_ids phase bound) tree, phase_ids_node phase bound l r)

  pub left_stopped : {T : Type 0} (result : Result T SinkFault) (f : SinkFault) (after : StepState R) → IsErrAnd result (λ g. g ≡ f) → StopsInSteps lefts old after f → HandsSteps all result old after
  left_stopped result f after is part = steps_fault result f lefts (rest (old.next + count_by takes_id lefts)) after is starts part

  module _ (mid : StepState R) (taken : TakesSteps lefts old mid) (f i : ℕ) (first_is : f ≡ first + fresh_of (totalizer bound) l) (id_is : i ≡ id + 2 * fresh_of (totalizer bound) l) where
    abbrev handed : List Step
    handed = phase_steps phase bound r f i mid.next

    same : handed ≡ rights mid.next
    same = λ k. phase_steps phase bound r (first_is k) (id_is k) mid.next

    after_left : Deriving all (rest mid.next) old mid
    after_left = deriving_as (ap rest (sym taken.ids)) (deriving_step {left = rest (old.next + count_by takes_id lefts)} lefts mid starts taken)

    pub right_room : old.next + phase_ids phase bound t < 2 ^ 62 → mid.next + phase_ids phase bound r < 2 ^ 62
    right_room room = omega (arith, room, ap (phase_ids phase bound) tree, phase_ids_node phase bound l r, taken.ids, phase_counted phase bound l first id old.next)

    pub right_stopped : {T : Type 0} (result : Result T SinkFault) (g : SinkFault) (after : StepState R) → IsErrAnd result (λ k. k ≡ g) → StopsInSteps handed mid after g → HandsSteps all result old after
    right_stopped result g after is part = steps_fault result g (rights mid.next) (own mid.next (mid.next + count_by takes_id (rights mid.next))) after is after_left (subst (λ (ss : List Step). StopsInSteps ss mid after g) same part)

    module _ (mid_2 : StepState R) (taken_2 : TakesSteps handed mid mid_2) where
      after_right : Deriving all (own mid.next mid_2.next) old mid_2
      after_right =
          let there : TakesSteps (rights mid.next) mid mid_2 = subst (λ (ss : List Step). TakesSteps ss mid mid_2) same taken_2 in
          deriving_as (ap (own mid.next) (sym there.ids)) (deriving_step {left = own mid.next (mid.next + count_by takes_id (rights mid.next))} (rights mid.next) mid_2 after_left there)

      module _ (n : Joint) (joint : IsJoint bound l r first id n) where
        pub own_room : old.next + phase_ids phase bound t < 2 ^ 62 → mid_2.next + joint_ids_in phase n < 2 ^ 62
        own_room room =
            omega (
              arith,
              room,
              ap (phase_ids phase bound) tree,
              phase_ids_node phase bound l r,
              taken.ids,
              phase_counted phase bound l first id old.next,
              taken_2.ids,
              phase_counted phase bound r f i mid.next,
              joint_ids_same bound l r first id n joint phase,
            )

        module _ (one other : ℕ) (one_is : one ≡ mid.next - 1) (other_is : other ≡ mid_2.next - 1) (after : StepState R) where
          own_as : joint_in phase n one other mid_2.next ≡ own mid.next mid_2.next
          own_as = joint_same bound l r first id n joint phase one other mid_2.next ∙ (λ k. node_in phase bound l r first id (one_is k) (other_is k) mid_2.next)

          ending : Deriving all (own mid.next mid_2.next ++ []) old mid_2
          ending = deriving_as (sym (append-nil (own mid.next mid_2.next))) after_right

          pub own_stopped : {T : Type 0} (result : Result T SinkFault) (g : SinkFault) → IsErrAnd result (λ k. k ≡ g) → StopsInSteps (joint_in phase n one other mid_2.next) mid_2 after g → HandsSteps all result old after
          own_stopped result g is part = steps_fault result g (own mid.next mid_2.next) [] after is ending (subst (λ (ss : List Step). StopsInSteps ss mid_2 after g) own_as part)

          pub own_taken : TakesSteps (joint_in phase n one other mid_2.next) mid_2 after → TakesSteps all old after
          own_taken taken_3 = deriving_ends (deriving_step {left = []} (own mid.next mid_2.next) after ending (subst (λ (ss : List Step). TakesSteps ss mid_2 after) own_as taken_3))
