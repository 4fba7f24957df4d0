-- Reifications of nodes that are handed over one after another.
use Rattle.std.proofs.Common.{◌≡◌, ◌≤◌, ◌<◌, ◌+◌, ◌-◌, ◌*◌, ◌++◌, ℕ, List, [], ◌∷◌, length, get_or, drop, take, map, refl, sym, ap, ◌∙◌, subst, arith}
use Rattle.std.specs.Prelude.{Result, IsErrAnd, All}
use Rattle.std.proofs.lemmas.List.{at_drop_all, drop_all, drop_more, length-map, drop-map, get_or_default}
use Rattle.pb_base.specs.declared.literal.Term.{Term}
use Rattle.pb_norm.specs.Constraints.{Weighted, weight, weighted, weights}
use Rattle.pb_norm.specs.BoundedSums.{BoundedSum}
use Rattle.pb_norm.specs.Reduction.{opposite}
use Rattle.pb_norm.specs.inner.Kept.{on_term}
use Rattle.pb_steps.specs.declared.step.Step.{Step}
use Rattle.pb_derive.specs.Reifications.{Reification, reification_steps}
use Rattle.pb_family.specs.Derivations.{meant}
use Rattle.pb_family.specs.StepSinks.{StepState, TakesSteps, StopsInSteps, HandsSteps}
use Rattle.pb_family.specs.declared.sink.SinkFault.{SinkFault}
use Rattle.pb_derive.proofs.Opposites.{opposite-twice, weight-opposite}
use Rattle.pb_family.proofs.Deriving.{Deriving, deriving_from, deriving_as, deriving_step, deriving_ends, steps_fault}
use Rattle.pb_family.proofs.Sequence.{reification_ids, reifications_ids, reifications_split}
use Rattle.pb_family.proofs.TermSlices.{weights_from}
use Rattle.pb_diagram.specs.declared.interval.Interval.{Interval}
use Rattle.pb_diagram.specs.Clauses.{head_level, node_count}
use Rattle.pb_diagram.specs.DiagramSteps.{node_reification, level_reifications, node_reifications}
use Rattle.pb_diagram.specs.Levels.{levels_of}
use Rattle.pb_diagram.specs.laws.LevelFacts.{levels_linked}
use Rattle.pb_diagram.specs.laws.NodeReifications.{tops_within}
use Rattle.pb_diagram.specs.laws.Search.{nodes_at}
use Rattle.pb_diagram.proofs.DiagramSteps.{AtLevel, at_level_of, linked_drop, head_of_drop}

-- ---- some of the reifications that are left

module _ {R : Type 0} {all : List Step} (xs ys : List Reification) (old now : StepState R) (e : Deriving all (reification_steps now.next (xs ++ ys)) old now) where
  split : Deriving all (reification_steps now.next xs ++ reification_steps (now.next + 2 * length xs) ys) old now
  split = deriving_as (reifications_split now.next xs ys) e

  -- they were taken
  pub reifications_taken : (after : StepState R) → TakesSteps (reification_steps now.next xs) now after → Deriving all (reification_steps after.next ys) old after
  reifications_taken after h =
      deriving_as (ap (λ (n : ℕ). reification_steps n ys) (let same : now.next + 2 * length xs ≡ after.next = omega (arith, h.ids, reifications_ids now.next xs) in same))
      (deriving_step {left = reification_steps (now.next + 2 * length xs) ys} (reification_steps now.next xs) after split h)

  -- the fault in them is handed on
  pub reifications_stop : {T : Type 0} (r : Result T SinkFault) (f : SinkFault) (after : StepState R) → IsErrAnd r (λ g. g ≡ f) → StopsInSteps (reification_steps now.next xs) now after f → HandsSteps all r old after
  reifications_stop r f after is h = steps_fault r f (reification_steps now.next xs) (reification_steps (now.next + 2 * length xs) ys) after is split h

-- ---- the nodes of a level

-- of the nodes the first ones were taken
pub record Defining {R : Type 0} (first : ℕ) (ts : List Weighted) (nodes : List Interval) (p : ℕ) (old now : StepState R) : Type 0 where
  pub taken : Deriving (reification_steps old.next (level_reifications first ts nodes)) (reification_steps now.next (level_reifications (first + p) ts (drop p nodes))) old now
  pub count : now.next ≡ old.next + 2 * p

module _ (first : ℕ) (ts : List Weighted) (nodes : List Interval) where
  left_here : (p : ℕ) (d : Interval) → p < length nodes → level_reifications (first + p) ts (drop p nodes) ≡ (node_reification (first + p) ts (get_or nodes p d) ∷ []) ++ level_reifications (first + (p + 1)) ts (drop (p + 1) nodes)
  left_here p d within =
      let var : first + p + 1 ≡ first + (p + 1) = omega arith in
      ap (level_reifications (first + p) ts) (drop_more nodes p d within) ∙ (λ x. node_reification (first + p) ts (get_or nodes p d) ∷ level_reifications (var x) ts (drop (p + 1) nodes))

  pub reification_from : {R : Type 0} (a : StepState R) → Defining first ts nodes 0 a a
  reification_from a = record {
    taken = deriving_from a (λ x. reification_steps a.next (level_reifications ((let e : first ≡ first + 0 = omega arith in e) x) ts nodes));
    count = omega arith;
  }

  pub reification_ends : {R : Type 0} (p : ℕ) (old now : StepState R) → length nodes ≤ p → Defining first ts nodes p old now → TakesSteps (reification_steps old.next (level_reifications first ts nodes)) old now
  reification_ends p old now past h = deriving_ends (deriving_as (ap (λ (gs : List Interval). reification_steps now.next (level_reifications (first + p) ts gs)) (drop_all p nodes past)) h.taken)

  -- by what code hands over for a node
  module _ {R : Type 0} (p : ℕ) (old now : StepState R) (d : Interval) (within : p < length nodes) (h : Defining first ts nodes p old now) (var whole : ℕ) (negated : List Weighted) (is : var ≡ first + p) (left : whole ≡ weight ts) (turned : negated ≡ map opposite ts) where
    abbrev here : List Reification
    here = node_reification (first + p) ts (get_or nodes p d) ∷ []

    abbrev given : List Step
    given = meant now.next var negated (whole + 1 - (get_or nodes p d).top)

    same : given ≡ reification_steps now.next here
    same = λ x. reification_steps now.next (record { var = is x; sum = turned x; least = left x + 1 - (get_or nodes p d).top } ∷ [])

    begun : Deriving (reification_steps old.next (level_reifications first ts nodes)) (reification_steps now.next (here ++ level_reifications (first + (p + 1)) ts (drop (p + 1) nodes))) old now
    begun = deriving_as (ap (reification_steps now.next) (left_here p d within)) h.taken

    pub reification_fault : {T : Type 0} (r : Result T SinkFault) (f : SinkFault) (after : StepState R) → IsErrAnd r (λ g. g ≡ f) → StopsInSteps given now after f → HandsSteps (reification_steps old.next (level_reifications first ts nodes)) r old after
    reification_fault r f after done part =
        reifications_stop here (level_reifications (first + (p + 1)) ts (drop (p + 1) nodes)) old now begun r f after done (subst (λ (ss : List Step). StopsInSteps ss now after f) same part)

    pub reification_next : (after : StepState R) → TakesSteps given now after → Defining first ts nodes (p + 1) old after
    reification_next after part =
        let handed : TakesSteps (reification_steps now.next here) now after = subst (λ (ss : List Step). TakesSteps ss now after) same part in
        record {
          taken = reifications_taken here (level_reifications (first + (p + 1)) ts (drop (p + 1) nodes)) old now begun after handed;
          count = omega (arith, h.count, handed.ids, reification_ids now.next (node_reification (first + p) ts (get_or nodes p d)));
        }

-- the same terms, written another way
pub level_stops : {R : Type 0} {f : SinkFault} (start : ℕ) (nodes : List Interval) (ts us : List Weighted) (now after : StepState R) → ts ≡ us → StopsInSteps (reification_steps now.next (level_reifications start ts nodes)) now after f
    → StopsInSteps (reification_steps now.next (level_reifications start us nodes)) now after f
level_stops {f = f} start nodes ts us now after same part = subst (λ (ws : List Weighted). StopsInSteps (reification_steps now.next (level_reifications start ws nodes)) now after f) same part

-- ---- the levels

-- the reifications of the level, and those after it
pub nodes_left : (c : BoundedSum) (ls : List (List Interval)) (i : ℕ) (d : Weighted) → ls ≡ levels_of c → i < length c.terms → (nodes : List Interval) → nodes ≡ nodes_at ls i → (start : ℕ)
    → node_reifications start (drop i c.terms) (drop i ls) ≡ level_reifications start (drop i c.terms) nodes ++ node_reifications (start + length nodes) (drop (i + 1) c.terms) (drop (i + 1) ls)
nodes_left c ls i d same within nodes is start =
    let t = get_or c.terms i d in
    let rest = drop (i + 1) c.terms in
    let at : AtLevel c.terms ls i t = subst (λ (l : List (List Interval)). AtLevel c.terms l i t) (sym same) (at_level_of c i d within) in
    (λ x. node_reifications start (at.terms x) (at.levels x))
    ∙ (λ x. level_reifications start (sym at.terms x) (sym is x) ++ node_reifications (start + length (sym is x)) rest (drop (i + 1) ls))

-- no node of the level ends above the sum of the terms from there on
pub nodes_within : (c : BoundedSum) (ls : List (List Interval)) (i : ℕ) → ls ≡ levels_of c → (nodes : List Interval) → nodes ≡ nodes_at ls i → All (λ g. g.top ≤ weight (drop i c.terms)) nodes
nodes_within c ls i same nodes is =
    let head : nodes_at (levels_of c) i ≡ nodes = ap (λ (l : List (List Interval)). nodes_at l i) (sym same) ∙ sym is in
    let tops = tops_within (drop i c.terms) (drop i (levels_of c)) (linked_drop c.terms (levels_of c) i (levels_linked c.bound [] c.terms)) in
    subst (λ (gs : List Interval). All (λ g. g.top ≤ weight (drop i c.terms)) gs) (head_of_drop (levels_of c) i ∙ head)
    (λ k d below. tops k (get_or (head_level (drop i (levels_of c))) k d) (below, get_or_default (head_level (drop i (levels_of c))) k (get_or (head_level (drop i (levels_of c))) k d) d below))

pub nodes_count : (c : BoundedSum) (ls : List (List Interval)) (i : ℕ) (d : Weighted) → ls ≡ levels_of c → i < length c.terms → (nodes : List Interval) → nodes ≡ nodes_at ls i → node_count (drop i ls) ≡ length nodes + node_count (drop (i + 1) ls)
nodes_count c ls i d same within nodes is =
    let at : AtLevel c.terms ls i (get_or c.terms i d) = subst (λ (l : List (List Interval)). AtLevel c.terms l i (get_or c.terms i d)) (sym same) (at_level_of c i d within) in
    omega (arith, at.counts, ap length is)

-- nothing is left at the end
pub no_reification : (ts : List Weighted) (ls : List (List Interval)) (i start : ℕ) → length ts ≤ i → node_reifications start (drop i ts) (drop i ls) ≡ []
no_reification ts ls i start past = at_drop_all (λ (us : List Weighted). node_reifications start us (drop i ls)) ts i past

-- ---- slices

negated_from : (ts ns : List Term) (i : ℕ) → weights ns ≡ map opposite (weights ts) → weights (take (length ns - i) (drop i ns)) ≡ map opposite (drop i (weights ts))
negated_from ts ns i turned = weights_from ns i i refl ∙ ap (drop i) turned ∙ drop-map opposite i (weights ts)

-- the terms from a place on, by the negated ones, and their sum
pub terms_from : (ts ns : List Term) (i : ℕ) → weights ns ≡ map opposite (weights ts) → map opposite (weights (take (length ns - i) (drop i ns))) ≡ drop i (weights ts)
terms_from ts ns i turned = ap (map opposite) (negated_from ts ns i turned) ∙ opposite-twice (drop i (weights ts))

pub weight_from : (ts ns : List Term) (i : ℕ) → weights ns ≡ map opposite (weights ts) → weight (weights (take (length ns - i) (drop i ns))) ≡ weight (drop i (weights ts))
weight_from ts ns i turned = ap weight (negated_from ts ns i turned) ∙ weight-opposite (drop i (weights ts))

pub turned_length : (ts ns : List Term) → weights ns ≡ map opposite (weights ts) → length ns ≡ length ts
turned_length ts ns turned = omega (arith, ap length turned, length-map ns weighted, length-map ts weighted, length-map (weights ts) opposite)

pub turned_terms : (ts : List Term) → weights (map (on_term opposite) ts) ≡ map opposite (weights ts)
turned_terms [] = refl
turned_terms (t ∷ ts) = ap (λ (us : List Weighted). opposite (weighted t) ∷ us) (turned_terms ts)
