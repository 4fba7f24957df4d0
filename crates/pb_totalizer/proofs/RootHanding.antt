-- The whole derivation of a totalizer, as it is handed over: the sums, the clauses, and what is deleted.
use Rattle.std.proofs.Common.{◌≡◌, ◌≤◌, ◌+◌, ◌-◌, ◌*◌, ◌/◌, ◌^◌, ◌∙◌, ◌++◌, ℕ, List, [], ◌∷◌, pos, length, take, drop, refl, sym, ap, subst, arith}
use Rattle.std.specs.Prelude.{Result, IsErrAnd, count_by}
use Rattle.std.proofs.lemmas.List.{length-map}
use Rattle.pb_base.specs.declared.literal.Term.{Term}
use Rattle.pb_norm.specs.Constraints.{Weighted, weighted, weights}
use Rattle.pb_steps.specs.declared.op.PolOp.TheVariants.{Push, Add, Div}
use Rattle.pb_steps.specs.declared.step.Step.{Step}
use Rattle.pb_steps.specs.declared.step.Step.TheVariants.{Pol, Out}
use Rattle.pb_steps.specs.Steps.{takes_id}
use Rattle.pb_derive.specs.Claims.{claim_steps}
use Rattle.pb_derive.specs.Deletions.{deletion_steps}
use Rattle.pb_derive.specs.FollowedBy.{followed_by}
use Rattle.pb_derive.specs.Reifications.{Reification, reification_steps}
use Rattle.pb_family.specs.StepSinks.{StepState, TakesSteps, StopsInSteps, HandsSteps}
use Rattle.pb_family.specs.declared.sink.SinkFault.{SinkFault}
use Rattle.pb_family.proofs.Deriving.{Deriving, deriving_starts, deriving_from, deriving_as, deriving_step, steps_fault, steps_last}
use Rattle.pb_family.proofs.Sequence.{deletions_ids, reifications_ids}
use Rattle.pb_tree.specs.Halves.{Halves}
use Rattle.pb_tree.specs.Scheme.{fresh_of, own_count_of, clause_count_of}
use Rattle.pb_tree.specs.Tree.{Tree, node, tree_of}
use Rattle.pb_tree.proofs.PairCounts.{count-append}
use Rattle.pb_tree.proofs.SplitTerms.{halves_of}
use Rattle.pb_tree.proofs.Splitting.{split_sum}
use Rattle.pb_totalizer.specs.OutputSteps.{before, meanings}
use Rattle.pb_totalizer.specs.TotalizerSteps.{nodes_steps, nodes_in, sum_at, sum_lines, root_claim, totalizer_steps_of}
use Rattle.pb_totalizer.specs.Totalizer.{totalizer}
use Rattle.pb_totalizer.specs.declared.phase.Phase.TheVariants.{Meanings, Sums, Clauses}
use Rattle.pb_totalizer.specs.declared.root.Root.{Root}
use Rattle.pb_totalizer.specs.inner.Phases.{phase_steps}
use Rattle.pb_totalizer.specs.inner.Roots.{root_given, root_sums, IsRoot, clauses_within, root_within}
use Rattle.pb_totalizer.specs.inner.Sides.{IsSide}
use Rattle.pb_totalizer.specs.inner.Wholes.{IsWhole}
use Rattle.pb_totalizer.specs.laws.Counting.{own_in_grid}
use Rattle.pb_totalizer.specs.laws.WholeCounts.{nodes-within}
use Rattle.pb_totalizer.specs.laws.NodesFine.{ids_of, ids-few, nodes-ids}
use Rattle.pb_totalizer.specs.laws.OutputFine.{claims-ids}
use Rattle.pb_totalizer.specs.laws.OutputKnown.{length-meanings}
use Rattle.pb_totalizer.specs.laws.OutputParts.{full_tree, ones-sum}
use Rattle.pb_totalizer.specs.laws.Shares.{few_shared}
use Rattle.pb_totalizer.specs.laws.TotalizerLaws.{leaf_count}
use Rattle.pb_totalizer.proofs.PhaseSteps.{all_meanings, all_sums, all_clauses, sums_counted, phase_counted}

-- ---- the tree of the terms has two parts, and the ids that all steps take have room

pub halved_whole : {ts : List Term} {bound first : ℕ} → IsWhole ts bound first → Halves ts (take (length ts / 2) ts) (drop (length ts / 2) ts)
halved_whole {ts} whole = halves_of ts (take (length ts / 2) ts) (drop (length ts / 2) ts) (omega (arith, whole.from, whole.more)) refl refl

pub whole_room : {ts : List Term} {bound first : ℕ} → IsWhole ts bound first
    → (let t = tree_of (weights ts) in (nodes_in t ≤ 2 ^ 31) × (fresh_of (totalizer bound) t ≤ 2 ^ 31) × (ids_of bound t ≤ 2 ^ 61 - 2 ^ 56))
whole_room {ts} {bound} whole =
    let t : Tree = tree_of (weights ts) in
    let long = length-map ts weighted in
    let few : fresh_of (totalizer bound) t ≤ 2 ^ 31 = omega (arith, whole.fits) in
    let full = full_tree (weights ts) (omega (arith, long, whole.more)) in
    let leaves : leaf_count t ≡ length (weights ts) = split_sum (λ (u : Weighted). 1) (weights ts) ∙ ones-sum (weights ts) in
    let clauses : clause_count_of (totalizer bound) t ≤ 3 * 2 ^ 58 = few_shared bound (own_count_of (totalizer bound)) (own_in_grid bound) t whole.from few in
    (omega (arith, nodes-within bound t full, few), few, omega (arith, ids-few bound t full, leaves, long, whole.few, clauses, few))

-- ---- the sums of both parts

module _ {R : Type 0} (bound : ℕ) (t l r : Tree) (tree : t ≡ node l r) (id : ℕ) (old : StepState R) where
  abbrev right_id : ℕ
  right_id = id + 2 * fresh_of (totalizer bound) l

  abbrev lefts : List Step
  lefts = sum_lines bound l id old.next

  abbrev rights : ℕ → List Step
  rights n = sum_lines bound r right_id n

  both : Deriving (root_sums bound t id old.next) (lefts ++ rights (old.next + nodes_in l)) old old
  both = deriving_from old (ap (λ (u : Tree). root_sums bound u id old.next) tree)

  module _ (first id_l : ℕ) (id_is : id_l ≡ id) where
    left_as : phase_steps Sums bound l first id_l old.next ≡ lefts
    left_as = all_sums bound l first id_l old.next ∙ ap (λ (i : ℕ). sum_lines bound l i old.next) id_is

    pub left_sums_stopped : {T : Type 0} (result : Result T SinkFault) (f : SinkFault) (after : StepState R) → IsErrAnd result (λ g. g ≡ f) → StopsInSteps (phase_steps Sums bound l first id_l old.next) old after f
        → HandsSteps (root_sums bound t id old.next) result old after
    left_sums_stopped result f after is part = steps_fault result f lefts (rights (old.next + nodes_in l)) after is both (subst (λ (ss : List Step). StopsInSteps ss old after f) left_as part)

    module _ (mid : StepState R) (taken : TakesSteps (phase_steps Sums bound l first id_l old.next) old mid) where
      left_taken : TakesSteps lefts old mid
      left_taken = subst (λ (ss : List Step). TakesSteps ss old mid) left_as taken

      pub left_next : mid.next ≡ old.next + nodes_in l
      left_next = omega (arith, left_taken.ids, sums_counted bound l id old.next)

      module _ (first_r id_r : ℕ) (right_is : id_r ≡ id + 2 * fresh_of (totalizer bound) l) where
        right_as : phase_steps Sums bound r first_r id_r mid.next ≡ rights mid.next
        right_as = all_sums bound r first_r id_r mid.next ∙ ap (λ (i : ℕ). sum_lines bound r i mid.next) right_is

        after_left : Deriving (root_sums bound t id old.next) (rights mid.next) old mid
        after_left = deriving_as (ap rights (sym left_next)) (deriving_step {left = rights (old.next + nodes_in l)} lefts mid both left_taken)

        pub right_sums_handed : {T : Type 0} (result : Result T SinkFault) (after : StepState R) → HandsSteps (phase_steps Sums bound r first_r id_r mid.next) result mid after → HandsSteps (root_sums bound t id old.next) result old after
        right_sums_handed result after h = steps_last result (rights mid.next) after after_left (subst (λ (ss : List Step). HandsSteps ss result mid after) right_as h)

        module _ (last : StepState R) (taken_2 : TakesSteps (phase_steps Sums bound r first_r id_r mid.next) mid last) where
          right_taken : TakesSteps (rights mid.next) mid last
          right_taken = subst (λ (ss : List Step). TakesSteps ss mid last) right_as taken_2

          pub is_root : {f g i j : ℕ} (own : ℕ) (root : Root) → IsSide bound l f i root.left → IsSide bound r g j root.right → root.left_sum ≡ mid.next - 1 → root.right_sum ≡ last.next - 1
              → root.bound ≡ bound → root.output ≡ id + 2 * before bound l r + 2 * bound → root.own ≡ own → IsRoot bound t id own old.next root
          is_root own root left right one other b o s =
              let at_left : root.left_sum ≡ sum_at l old.next = omega (arith, one, left_next) in
              let at_right : root.right_sum ≡ sum_at r (old.next + nodes_in l) = omega (arith, other, right_taken.ids, sums_counted bound r right_id mid.next, left_next) in
              subst (λ (u : Tree). IsRoot bound u id own old.next root) (sym tree) ((λ k. left.gives k (at_left k)), (λ k. right.gives k (at_right k)), b, o, s)

-- ---- the clauses

module _ {R : Type 0} (bound : ℕ) (t : Tree) (first id : ℕ) (root : Root) (old : StepState R) where
  abbrev nodes : List Step
  nodes = phase_steps Clauses bound t first id old.next

  abbrev last_clause : ℕ → List Step
  last_clause at = claim_steps at (root_given root ∷ [])

  starts : Deriving (clauses_within bound t first id root old.next) (nodes ++ last_clause (old.next + count_by takes_id nodes)) old old
  starts = deriving_starts (clauses_within bound t first id root old.next) old

  pub nodes_stopped : {T : Type 0} (result : Result T SinkFault) (f : SinkFault) (after : StepState R) → IsErrAnd result (λ g. g ≡ f) → StopsInSteps nodes old after f → HandsSteps (clauses_within bound t first id root old.next) result old after
  nodes_stopped result f after is part = steps_fault result f nodes (last_clause (old.next + count_by takes_id nodes)) after is starts part

  pub root_handed : {T : Type 0} (result : Result T SinkFault) (mid after : StepState R) → TakesSteps nodes old mid → HandsSteps (last_clause mid.next) result mid after → HandsSteps (clauses_within bound t first id root old.next) result old after
  root_handed result mid after taken h =
      steps_last result (last_clause mid.next) after (deriving_as (ap last_clause (sym taken.ids)) (deriving_step {left = last_clause (old.next + count_by takes_id nodes)} nodes mid starts taken)) h

  pub clauses_counted : count_by takes_id (clauses_within bound t first id root old.next) ≤ ids_of bound t + 1
  clauses_counted =
      omega (
        arith,
        count-append takes_id nodes (last_clause (old.next + count_by takes_id nodes)),
        phase_counted Clauses bound t first id old.next,
        claims-ids (old.next + count_by takes_id nodes) (root_given root ∷ []),
      )

-- ---- all that follows from what the variables mean

module _ {R : Type 0} (bound : ℕ) (t l r : Tree) (tree : t ≡ node l r) (first own id : ℕ) (old : StepState R) where
  abbrev count : ℕ
  count = nodes_in l + nodes_in r

  abbrev sums : List Step
  sums = root_sums bound t id old.next

  abbrev body : ℕ → List Step
  body = followed_by (nodes_steps bound (node l r) first id) (λ at. claim_steps at (root_claim bound l r first own id old.next ∷ []))

  abbrev gone : List Step
  gone = deletion_steps 1 old.next count

  begins : Deriving (root_within bound t first own id old.next) (sums ++ (body (old.next + count) ++ gone)) old old
  begins =
      deriving_from old
      (ap (λ (u : Tree). root_within bound u first own id old.next) tree ∙ ap (λ (u : Tree). root_sums bound u id old.next ++ (body (old.next + count) ++ gone)) (sym tree))

  pub sums_stopped : {T : Type 0} (result : Result T SinkFault) (f : SinkFault) (after : StepState R) → IsErrAnd result (λ g. g ≡ f) → StopsInSteps sums old after f → HandsSteps (root_within bound t first own id old.next) result old after
  sums_stopped result f after is part = steps_fault result f sums (body (old.next + count) ++ gone) after is begins part

  module _ (mid : StepState R) (taken : TakesSteps sums old mid) (root : Root) (is_root : IsRoot bound t id own old.next root) where
    pub sums_next : mid.next ≡ old.next + (nodes_in l + nodes_in r)
    sums_next =
        let whole : count_by takes_id (root_sums bound t id old.next) ≡ count_by takes_id (sum_lines bound l id old.next ++ sum_lines bound r (id + 2 * fresh_of (totalizer bound) l) (old.next + nodes_in l)) =
        ap (λ (u : Tree). count_by takes_id (root_sums bound u id old.next)) tree in
        omega (
          arith,
          taken.ids,
          whole,
          count-append takes_id (sum_lines bound l id old.next) (sum_lines bound r (id + 2 * fresh_of (totalizer bound) l) (old.next + nodes_in l)),
          sums_counted bound l id old.next,
          sums_counted bound r (id + 2 * fresh_of (totalizer bound) l) (old.next + nodes_in l),
        )

    is_so : IsRoot bound (node l r) id own old.next root
    is_so = subst (λ (u : Tree). IsRoot bound u id own old.next root) tree is_root

    pub root_bound : root.bound ≡ bound
    root_bound = is_so.2

    pub sums_few : mid.next ≤ old.next + nodes_in t
    sums_few = let whole : nodes_in t ≡ nodes_in l + nodes_in r + 1 = ap nodes_in tree in omega (arith, sums_next, whole)

    clauses_as : clauses_within bound t first id root mid.next ≡ body mid.next
    clauses_as = λ k.
        let nodes = (all_clauses bound t first id mid.next ∙ ap (λ (u : Tree). nodes_steps bound u first id mid.next) tree) k in
        nodes
        ++ (Pol (Push (is_so.3 k) ∷ is_so.0 k ++ (is_so.1 k ++ Push (is_so.4 k) ∷ Add ∷ Div (pos (is_so.2 k + 1)) ∷ []))
        ∷ Out (mid.next + count_by takes_id nodes) ∷ [])

    after_sums : Deriving (root_within bound t first own id old.next) (clauses_within bound t first id root mid.next ++ gone) old mid
    after_sums =
        deriving_as (ap (λ (n : ℕ). body n ++ gone) (sym sums_next) ∙ ap (λ (ss : List Step). ss ++ gone) (sym clauses_as))
        (deriving_step {left = body (old.next + count) ++ gone} sums mid begins taken)

    pub clauses_stopped : {T : Type 0} (result : Result T SinkFault) (f : SinkFault) (after : StepState R) → IsErrAnd result (λ g. g ≡ f) → StopsInSteps (clauses_within bound t first id root mid.next) mid after f
        → HandsSteps (root_within bound t first own id old.next) result old after
    clauses_stopped result f after is part = steps_fault result f (clauses_within bound t first id root mid.next) gone after is after_sums part

    pub within_handed : {T : Type 0} (result : Result T SinkFault) (last after : StepState R) → TakesSteps (clauses_within bound t first id root mid.next) mid last → (start n : ℕ) → start ≡ old.next → n ≡ nodes_in l + nodes_in r
        → HandsSteps (deletion_steps 1 start n) result last after → HandsSteps (root_within bound t first own id old.next) result old after
    within_handed result last after taken_2 start n start_is n_is h =
        steps_last result gone after (deriving_step {left = gone} (clauses_within bound t first id root mid.next) last after_sums taken_2)
        (subst (λ (ss : List Step). HandsSteps ss result last after) (λ k. deletion_steps 1 (start_is k) (n_is k)) h)

  pub within_counted : count_by takes_id (root_within bound t first own id old.next) ≤ nodes_in t + ids_of bound t + 1
  within_counted =
      let nodes = nodes_steps bound (node l r) first id (old.next + count) in
      let at : ℕ = old.next + count + count_by takes_id nodes in
      let last = claim_steps at (root_claim bound l r first own id old.next ∷ []) in
      let one = sum_lines bound l id old.next in
      let other = sum_lines bound r (id + 2 * fresh_of (totalizer bound) l) (old.next + nodes_in l) in
      let whole : count_by takes_id (root_within bound t first own id old.next) ≡ count_by takes_id ((one ++ other) ++ ((nodes ++ last) ++ gone)) = ap (λ (u : Tree). count_by takes_id (root_within bound u first own id old.next)) tree in
      let within : nodes_in t ≡ nodes_in l + nodes_in r + 1 = ap nodes_in tree in
      omega (
        arith,
        whole,
        within,
        ap (ids_of bound) tree,
        count-append takes_id (one ++ other) ((nodes ++ last) ++ gone),
        count-append takes_id one other,
        sums_counted bound l id old.next,
        sums_counted bound r (id + 2 * fresh_of (totalizer bound) l) (old.next + nodes_in l),
        count-append takes_id (nodes ++ last) gone,
        count-append takes_id nodes last,
        nodes-ids bound (node l r) first id (old.next + count),
        claims-ids at (root_claim bound l r first own id old.next ∷ []),
        deletions_ids 1 old.next count,
      )

-- ---- the whole

module _ {R : Type 0} (bound : ℕ) (t l r : Tree) (tree : t ≡ node l r) (first own : ℕ) (old : StepState R) where
  abbrev ms : List Reification
  ms = meanings bound t first

  abbrev steps : List Step
  steps = totalizer_steps_of bound t first own old.next

  abbrev behind : ℕ → List Step
  behind n = root_within bound t first own old.next n ++ deletion_steps 2 old.next (length ms)

  opens : Deriving steps (reification_steps old.next ms ++ behind (old.next + 2 * length ms)) old old
  opens =
      deriving_from old
      (ap (λ (u : Tree). totalizer_steps_of bound u first own old.next) tree
      ∙ ap (λ (u : Tree). reification_steps old.next (meanings bound u first) ++ (root_within bound u first own old.next (old.next + 2 * length (meanings bound u first)) ++ deletion_steps 2 old.next (length (meanings bound u first)))) (sym tree))

  meant_as : (id : ℕ) → phase_steps Meanings bound t first id old.next ≡ reification_steps old.next ms
  meant_as id = all_meanings bound t first id old.next

  pub meanings_stopped : {T : Type 0} (result : Result T SinkFault) (f : SinkFault) (id : ℕ) (after : StepState R) → IsErrAnd result (λ g. g ≡ f) → StopsInSteps (phase_steps Meanings bound t first id old.next) old after f → HandsSteps steps result old after
  meanings_stopped result f id after is part =
      steps_fault result f (reification_steps old.next ms) (behind (old.next + 2 * length ms)) after is opens (subst (λ (ss : List Step). StopsInSteps ss old after f) (meant_as id) part)

  module _ (id : ℕ) (mid : StepState R) (taken : TakesSteps (phase_steps Meanings bound t first id old.next) old mid) where
    meant : TakesSteps (reification_steps old.next ms) old mid
    meant = subst (λ (ss : List Step). TakesSteps ss old mid) (meant_as id) taken

    pub meant_next : mid.next ≡ old.next + 2 * fresh_of (totalizer bound) t
    meant_next = omega (arith, meant.ids, reifications_ids old.next ms, length-meanings bound t first)

    after_meanings : Deriving steps (behind mid.next) old mid
    after_meanings =
        deriving_as (ap behind (let e : old.next + 2 * length ms ≡ mid.next = omega (arith, meant_next, length-meanings bound t first) in e)) (deriving_step {left = behind (old.next + 2 * length ms)} (reification_steps old.next ms) mid opens meant)

    module _ (base : ℕ) (base_is : base ≡ old.next) where
      within_as : root_within bound t first own base mid.next ≡ root_within bound t first own old.next mid.next
      within_as = ap (λ (b : ℕ). root_within bound t first own b mid.next) base_is

      pub within_stopped : {T : Type 0} (result : Result T SinkFault) (f : SinkFault) (after : StepState R) → IsErrAnd result (λ g. g ≡ f) → StopsInSteps (root_within bound t first own base mid.next) mid after f → HandsSteps steps result old after
      within_stopped result f after is part =
          steps_fault result f (root_within bound t first own old.next mid.next) (deletion_steps 2 old.next (length ms)) after is after_meanings (subst (λ (ss : List Step). StopsInSteps ss mid after f) within_as part)

      pub all_handed : {T : Type 0} (result : Result T SinkFault) (last after : StepState R) → TakesSteps (root_within bound t first own base mid.next) mid last → (n : ℕ) → n ≡ fresh_of (totalizer bound) t → HandsSteps (deletion_steps 2 base n) result last after
          → HandsSteps steps result old after
      all_handed result last after taken_2 n n_is h =
          let size : n ≡ length ms = omega (arith, n_is, length-meanings bound t first) in
          steps_last result (deletion_steps 2 old.next (length ms)) after
          (deriving_step {left = deletion_steps 2 old.next (length ms)} (root_within bound t first own old.next mid.next) last after_meanings (subst (λ (ss : List Step). TakesSteps ss mid last) within_as taken_2))
          (subst (λ (ss : List Step). HandsSteps ss result last after) (λ k. deletion_steps 2 (base_is k) (size k)) h)
