-- Clauses of a level's nodes that are handed over one after another.
use Rattle.std.proofs.Common.{◌≡◌, ◌≤◌, ◌<◌, ◌+◌, ◌-◌, ◌*◌, ◌++◌, ℕ, Bool, true, false, cond, leb, List, [], ◌∷◌, length, get_or, drop, map, sym, ap, ◌∙◌, subst, arith, length-append}
use Rattle.std.specs.Prelude.{Result, IsErrAnd}
use Rattle.std.proofs.lemmas.List.{drop_all, drop_more}
use Rattle.std.proofs.lemmas.Bool.{lt-ltb, le-ltb, le-leb, lt-leb, cond-true, cond-false}
use Rattle.pb_base.specs.Literals.{negated}
use Rattle.pb_norm.specs.Constraints.{Weighted, weight}
use Rattle.pb_norm.specs.BoundedSums.{vars_of}
use Rattle.pb_steps.specs.declared.step.Step.{Step}
use Rattle.pb_derive.specs.Claims.{claim_steps}
use Rattle.pb_derive.specs.Justifications.{Justification, by_justification}
use Rattle.pb_family.specs.Derivations.{claimed}
use Rattle.pb_family.specs.Fresh.{positive_of}
use Rattle.pb_family.specs.StepSinks.{StepState, TakesSteps, StopsInSteps, HandsSteps}
use Rattle.pb_family.specs.declared.sink.SinkFault.{SinkFault}
use Rattle.pb_family.proofs.Deriving.{Deriving, deriving_from, deriving_as, deriving_step, deriving_ends, takes_no_steps, steps_fault}
use Rattle.pb_family.proofs.Sequence.{justifications_ids, justifications_split}
use Rattle.pb_diagram.specs.declared.interval.Interval.{Interval}
use Rattle.pb_diagram.specs.Clauses.{node_at}
use Rattle.pb_diagram.specs.DiagramSteps.{Below, child_id, false_justifications, true_justification, level_justifications}
use Rattle.pb_diagram.specs.inner.NodesAt.{below_at, false_at, true_at, level_at}

-- ---- some of the justifications that are left

module _ {R : Type 0} {all : List Step} (xs ys : List Justification) (old now : StepState R) (e : Deriving all (claim_steps now.next (map by_justification (xs ++ ys))) old now) where
  split : Deriving all (claim_steps now.next (map by_justification xs) ++ claim_steps (now.next + length xs) (map by_justification ys)) old now
  split = deriving_as (justifications_split now.next xs ys) e

  -- they were taken
  pub justifications_taken : (after : StepState R) → TakesSteps (claim_steps now.next (map by_justification xs)) now after → Deriving all (claim_steps after.next (map by_justification ys)) old after
  justifications_taken after h =
      deriving_as (ap (λ (n : ℕ). claim_steps n (map by_justification ys)) (let same : now.next + length xs ≡ after.next = omega (arith, h.ids, justifications_ids now.next xs) in same))
      (deriving_step {left = claim_steps (now.next + length xs) (map by_justification ys)} (claim_steps now.next (map by_justification xs)) after split h)

  -- the fault in them is handed on
  pub justifications_stop : {T : Type 0} (r : Result T SinkFault) (f : SinkFault) (after : StepState R) → IsErrAnd r (λ g. g ≡ f) → StopsInSteps (claim_steps now.next (map by_justification xs)) now after f → HandsSteps all r old after
  justifications_stop r f after is h = steps_fault r f (claim_steps now.next (map by_justification xs)) (claim_steps (now.next + length xs) (map by_justification ys)) after is split h

-- ---- a node's clauses

one_at_most : (b : Bool) (r : Justification) → length (cond {A = List Justification} b [] (r ∷ [])) ≤ 1
one_at_most true r = omega arith
one_at_most false r = omega arith

module _ (t : Weighted) (whole : ℕ) (nodes : List Interval) (next id place : ℕ) (g : Interval) where
  abbrev off : Justification
  off = record {
    clause = negated (positive_of place) ∷ node_at 0 nodes g.low ∷ [];
    ids = (id + 2 * place) ∷ child_id (below_at nodes next) g.low ∷ [];
    weakened = t.lit.var ∷ [];
  }

  -- where the false child is the true end there is no clause
  pub false_none : {R : Type 0} (a : StepState R) → whole ≤ g.low → TakesSteps (claim_steps a.next (map by_justification (false_at t whole nodes next id place g))) a a
  false_none a past =
      subst (λ (rs : List Justification). TakesSteps (claim_steps a.next (map by_justification rs)) a a) (sym (cond-true (leb whole g.low) [] (off ∷ []) (le-leb whole g.low past))) (takes_no_steps a)

  pub false_some : (n own under : ℕ) → own ≡ id + 2 * place → under ≡ child_id (below_at nodes next) g.low → g.low < whole
      → claimed n (own ∷ under ∷ []) (t.lit.var ∷ []) ≡ claim_steps n (map by_justification (false_at t whole nodes next id place g))
  false_some n own under is also below =
      (λ x. claimed n (is x ∷ also x ∷ []) (t.lit.var ∷ [])) ∙ ap (λ (rs : List Justification). claim_steps n (map by_justification rs)) (sym (cond-false (leb whole g.low) [] (off ∷ []) (lt-leb whole g.low below)))

  false_next : {R : Type 0} (a b : StepState R) → TakesSteps (claim_steps a.next (map by_justification (false_at t whole nodes next id place g))) a b → b.next ≤ a.next + 1
  false_next a b h = omega (arith, h.ids, justifications_ids a.next (false_at t whole nodes next id place g), one_at_most (leb whole g.low) off)

module _ (t : Weighted) (rest : List Weighted) (nodes : List Interval) (next id place : ℕ) (g : Interval) where
  abbrev ids_by : Bool → List ℕ
  ids_by b = (id + 2 * place) ∷ cond {A = List ℕ} b [] (child_id (below_at nodes next) (g.low - t.coef) ∷ [])

  abbrev steps_by : ℕ → Bool → List Step
  steps_by n b = claimed n (ids_by b) (cond {A = List ℕ} b (vars_of rest) [])

  -- at the false end the node's constraint does it alone
  pub true_full : (n own : ℕ) → own ≡ id + 2 * place → g.low < t.coef → claimed n (own ∷ []) (vars_of rest) ≡ claim_steps n (map by_justification (true_at t rest nodes next id place g))
  true_full n own is below = (λ x. claimed n (is x ∷ []) (vars_of rest)) ∙ ap (steps_by n) (sym (lt-ltb g.low t.coef below))

  pub true_some : (n own under : ℕ) → own ≡ id + 2 * place → under ≡ child_id (below_at nodes next) (g.low - t.coef) → t.coef ≤ g.low
      → claimed n (own ∷ under ∷ []) [] ≡ claim_steps n (map by_justification (true_at t rest nodes next id place g))
  true_some n own under is also above = (λ x. claimed n (is x ∷ also x ∷ []) []) ∙ ap (steps_by n) (sym (le-ltb g.low t.coef above))

-- ---- the nodes of a level

-- the justifications from a place on
abbrev pub level_left : Weighted → List Weighted → List Interval → ℕ → ℕ → List Interval → ℕ → List Justification
level_left t rest nodes next id gs p = level_justifications t rest (below_at nodes next) p (id + 2 * p) (drop p gs)

-- of the nodes the first ones were taken
pub record Noding {R : Type 0} (t : Weighted) (rest : List Weighted) (nodes : List Interval) (next id : ℕ) (gs : List Interval) (p : ℕ) (old now : StepState R) : Type 0 where
  pub taken : Deriving (claim_steps old.next (map by_justification (level_at t rest nodes next id gs))) (claim_steps now.next (map by_justification (level_left t rest nodes next id gs p))) old now
  pub room : now.next ≤ old.next + 2 * p

module _ (t : Weighted) (rest : List Weighted) (nodes : List Interval) (next id : ℕ) (gs : List Interval) where
  abbrev left : ℕ → List Justification
  left p = level_left t rest nodes next id gs p

  abbrev all : List Justification
  all = level_at t rest nodes next id gs

  left_first : all ≡ left 0
  left_first = λ x. level_justifications t rest (below_at nodes next) 0 ((let e : id ≡ id + 2 * 0 = omega arith in e) x) gs

  left_here : (p : ℕ) (d : Interval) → p < length gs → left p ≡ false_at t (weight rest) nodes next id p (get_or gs p d) ++ (true_at t rest nodes next id p (get_or gs p d) ++ left (p + 1))
  left_here p d within =
      let g = get_or gs p d in
      let ids : id + 2 * p + 2 ≡ id + 2 * (p + 1) = omega arith in
      ap (level_justifications t rest (below_at nodes next) p (id + 2 * p)) (drop_more gs p d within)
      ∙ (λ x. false_at t (weight rest) nodes next id p g ++ (true_at t rest nodes next id p g ++ level_justifications t rest (below_at nodes next) (p + 1) (ids x) (drop (p + 1) gs)))

  left_none : (p : ℕ) → length gs ≤ p → left p ≡ []
  left_none p past = ap (level_justifications t rest (below_at nodes next) p (id + 2 * p)) (drop_all p gs past)

  pub noding_from : {R : Type 0} (a : StepState R) → Noding t rest nodes next id gs 0 a a
  noding_from a = record { taken = deriving_from a (ap (λ (rs : List Justification). claim_steps a.next (map by_justification rs)) left_first); room = omega arith }

  pub noding_ends : {R : Type 0} (p : ℕ) (old now : StepState R) → length gs ≤ p → Noding t rest nodes next id gs p old now → TakesSteps (claim_steps old.next (map by_justification all)) old now
  noding_ends p old now past h = deriving_ends (deriving_as (ap (λ (rs : List Justification). claim_steps now.next (map by_justification rs)) (left_none p past)) h.taken)

  module _ {R : Type 0} (p : ℕ) (old now : StepState R) (d : Interval) (within : p < length gs) (h : Noding t rest nodes next id gs p old now) (whole : ℕ) (is : whole ≡ weight rest) where
    abbrev first : List Justification
    first = false_at t whole nodes next id p (get_or gs p d)

    abbrev second : List Justification
    second = true_at t rest nodes next id p (get_or gs p d)

    here : Deriving (claim_steps old.next (map by_justification all)) (claim_steps now.next (map by_justification (first ++ (second ++ left (p + 1))))) old now
    here =
        deriving_as (ap (λ (rs : List Justification). claim_steps now.next (map by_justification rs)) (left_here p d within ∙ ap (λ (n : ℕ). false_at t n nodes next id p (get_or gs p d) ++ (second ++ left (p + 1))) (sym is))) h.taken

    pub false_fault : {T : Type 0} (r : Result T SinkFault) (f : SinkFault) (after : StepState R) → IsErrAnd r (λ g. g ≡ f) → StopsInSteps (claim_steps now.next (map by_justification first)) now after f → HandsSteps (claim_steps old.next (map by_justification all)) r old after
    false_fault r f after given part = justifications_stop first (second ++ left (p + 1)) old now here r f after given part

    pub true_fault : {T : Type 0} (r : Result T SinkFault) (f : SinkFault) (mid after : StepState R) → IsErrAnd r (λ g. g ≡ f) → TakesSteps (claim_steps now.next (map by_justification first)) now mid
        → StopsInSteps (claim_steps mid.next (map by_justification second)) mid after f → HandsSteps (claim_steps old.next (map by_justification all)) r old after
    true_fault r f mid after given taken part = justifications_stop second (left (p + 1)) old mid (justifications_taken first (second ++ left (p + 1)) old now here mid taken) r f after given part

    -- at most one id was taken for the false child
    pub true_room : (mid : StepState R) → TakesSteps (claim_steps now.next (map by_justification first)) now mid → mid.next ≤ old.next + 2 * p + 1
    true_room mid taken = omega (arith, h.room, false_next t whole nodes next id p (get_or gs p d) now mid taken)

    pub noding_next : (mid after : StepState R) → TakesSteps (claim_steps now.next (map by_justification first)) now mid → TakesSteps (claim_steps mid.next (map by_justification second)) mid after → Noding t rest nodes next id gs (p + 1) old after
    noding_next mid after taken then = record {
      taken = justifications_taken second (left (p + 1)) old mid (justifications_taken first (second ++ left (p + 1)) old now here mid taken) after then;
      room = omega (arith, true_room mid taken, then.ids, justifications_ids mid.next second);
    }

-- two for each node at most
pub level_few : (t : Weighted) (ts : List Weighted) (next : Below) (x id : ℕ) (gs : List Interval) → length (level_justifications t ts next x id gs) ≤ 2 * length gs
level_few t ts next x id [] = omega arith
level_few t ts next x id (g ∷ gs) =
    let off : Justification = record { clause = negated (positive_of x) ∷ node_at next.first next.nodes g.low ∷ []; ids = id ∷ child_id next g.low ∷ []; weakened = t.lit.var ∷ [] } in
    let few : length (false_justifications t (weight ts) next x id g) ≤ 1 = one_at_most (leb (weight ts) g.low) off in
    omega (arith, length-append (false_justifications t (weight ts) next x id g) (true_justification t ts next x id g ∷ level_justifications t ts next (x + 1) (id + 2) gs), few, level_few t ts next (x + 1) (id + 2) gs)
