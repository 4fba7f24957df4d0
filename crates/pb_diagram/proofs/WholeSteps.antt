-- Clauses of a diagram's levels that are handed over one level after another.
use Rattle.std.proofs.Common.{◌≡◌, ◌≤◌, ◌+◌, ◌*◌, ◌++◌, ℕ, Bool, true, false, cond, leb, List, [], ◌∷◌, length, drop, map, refl, sym, ap, ◌∙◌, arith, length-append, append_assoc}
use Rattle.std.specs.Prelude.{Result, IsErrAnd}
use Rattle.std.proofs.lemmas.List.{at_drop_all}
use Rattle.std.proofs.lemmas.List.Sums.{sum_by-cons}
use Rattle.pb_base.specs.Literals.{negated}
use Rattle.pb_norm.specs.Constraints.{Weighted, weight}
use Rattle.pb_steps.specs.declared.step.Step.{Step}
use Rattle.pb_derive.specs.Claims.{claim_steps}
use Rattle.pb_derive.specs.Justifications.{Justification, by_justification}
use Rattle.pb_family.specs.Fresh.{positive_of}
use Rattle.pb_family.specs.StepSinks.{StepState, TakesSteps, StopsInSteps, HandsSteps}
use Rattle.pb_family.specs.declared.sink.SinkFault.{SinkFault}
use Rattle.pb_family.proofs.Deriving.{Deriving, deriving_as}
use Rattle.pb_family.proofs.SameSteps.{HaveSameSteps, same_none, same_append}
use Rattle.pb_diagram.specs.declared.interval.Interval.{Interval}
use Rattle.pb_diagram.specs.Clauses.{node_at, head_level, node_count}
use Rattle.pb_diagram.specs.DiagramSteps.{Below, child_id, false_justifications, true_justification, level_justifications, below_of, node_justifications, top_justification, justifications_over}
use Rattle.pb_diagram.specs.inner.NodesAt.{level_at}
use Rattle.pb_diagram.proofs.DiagramSteps.{Read}
use Rattle.pb_diagram.proofs.NodeSteps.{justifications_taken, justifications_stop, level_few}

-- ---- steps do not depend on the variables' numbers

abbrev below : List Interval → ℕ → ℕ → Below
below nodes first id = record { nodes = nodes; first = first; id = id }

false_same : (t : Weighted) (whole : ℕ) (nodes : List Interval) (a b next x y id : ℕ) (g : Interval) → HaveSameSteps (false_justifications t whole (below nodes a next) x id g) (false_justifications t whole (below nodes b next) y id g)
false_same t whole nodes a b next x y id g = by_test (leb whole g.low)
  where
    by_test : (k : Bool) → HaveSameSteps
        (cond {A = List Justification} k [] (record { clause = negated (positive_of x) ∷ node_at a nodes g.low ∷ []; ids = id ∷ child_id (below nodes a next) g.low ∷ []; weakened = t.lit.var ∷ [] } ∷ []))
        (cond {A = List Justification} k [] (record { clause = negated (positive_of y) ∷ node_at b nodes g.low ∷ []; ids = id ∷ child_id (below nodes b next) g.low ∷ []; weakened = t.lit.var ∷ [] } ∷ []))
    by_test true = same_none
    by_test false = record { count = refl; steps = λ n. refl }

level_same : (t : Weighted) (ts : List Weighted) (nodes : List Interval) (a b next x y id : ℕ) (gs : List Interval) → HaveSameSteps (level_justifications t ts (below nodes a next) x id gs) (level_justifications t ts (below nodes b next) y id gs)
level_same t ts nodes a b next x y id [] = same_none
level_same t ts nodes a b next x y id (g ∷ gs) =
    let one : Justification = true_justification t ts (below nodes a next) x id g in
    let two : Justification = true_justification t ts (below nodes b next) y id g in
    let rest : List Justification = level_justifications t ts (below nodes a next) (x + 1) (id + 2) gs in
    let more : List Justification = level_justifications t ts (below nodes b next) (y + 1) (id + 2) gs in
    same_append (false_justifications t (weight ts) (below nodes a next) x id g) (false_justifications t (weight ts) (below nodes b next) y id g) (one ∷ rest) (two ∷ more) (false_same t (weight ts) nodes a b next x y id g)
    (same_append (one ∷ []) (two ∷ []) rest more (record { count = refl; steps = λ n. refl }) (level_same t ts nodes a b next (x + 1) (y + 1) (id + 2) gs))

nodes_same : (a b id : ℕ) (ts : List Weighted) (ls : List (List Interval)) → HaveSameSteps (node_justifications a id ts ls) (node_justifications b id ts ls)
nodes_same a b id [] ls = same_none
nodes_same a b id (t ∷ ts) [] = same_none
nodes_same a b id (t ∷ ts) (nodes ∷ ls) =
    let next : ℕ = id + 2 * length nodes in
    same_append (level_justifications t ts (below_of a id nodes ls) a id nodes) (level_justifications t ts (below_of b id nodes ls) b id nodes) (node_justifications (a + length nodes) next ts ls) (node_justifications (b + length nodes) next ts ls)
    (level_same t ts (head_level ls) (a + length nodes) (b + length nodes) next a b id nodes) (nodes_same (a + length nodes) (b + length nodes) next ts ls)

pub diagram_same : (a b id own : ℕ) (ts : List Weighted) (ls : List (List Interval)) → HaveSameSteps (justifications_over ts ls a id own) (justifications_over ts ls b id own)
diagram_same a b id own ts ls =
    same_append (node_justifications a id ts ls) (node_justifications b id ts ls) (top_justification a id own ∷ []) (top_justification b id own ∷ []) (nodes_same a b id ts ls) (record { count = refl; steps = λ n. refl })

-- ---- how many

nodes_few : (first id : ℕ) (ts : List Weighted) (ls : List (List Interval)) → length (node_justifications first id ts ls) ≤ 2 * node_count ls
nodes_few first id [] ls = omega arith
nodes_few first id (t ∷ ts) [] = omega arith
nodes_few first id (t ∷ ts) (nodes ∷ ls) =
    let here = level_justifications t ts (below_of first id nodes ls) first id nodes in
    let later = node_justifications (first + length nodes) (id + 2 * length nodes) ts ls in
    omega (
      arith,
      length-append here later,
      level_few t ts (below_of first id nodes ls) first id nodes,
      nodes_few (first + length nodes) (id + 2 * length nodes) ts ls,
      sum_by-cons (length {A = Interval}) nodes ls,
    )

-- two for each node at most, and one more
pub justifications_few : (first id own : ℕ) (ts : List Weighted) (ls : List (List Interval)) → length (justifications_over ts ls first id own) ≤ 2 * node_count ls + 1
justifications_few first id own ts ls = omega (arith, length-append (node_justifications first id ts ls) (top_justification first id own ∷ []), nodes_few first id ts ls)

-- ---- the levels

-- nothing is left at the end
pub no_justification : (ts : List Weighted) (ls : List (List Interval)) (i id : ℕ) → length ts ≤ i → node_justifications 0 id (drop i ts) (drop i ls) ≡ []
no_justification ts ls i id past = at_drop_all (λ (us : List Weighted). node_justifications 0 id us (drop i ls)) ts i past

module _ (ts : List Weighted) (ls : List (List Interval)) (i : ℕ) (t : Weighted) (whole : ℕ) (nodes next : List Interval) (read : Read ts ls i t whole nodes next) (id nid : ℕ) (is : nid ≡ id + 2 * length nodes) where
  abbrev rest : List Weighted
  rest = drop (i + 1) ts

  abbrev later : ℕ → List Justification
  later first = node_justifications first nid rest (drop (i + 1) ls)

  exact : node_justifications 0 id (drop i ts) (drop i ls) ≡ level_justifications t rest (below next (0 + length nodes) nid) 0 id nodes ++ later (0 + length nodes)
  exact =
      (λ x. node_justifications 0 id (read.at.terms x) (read.at.levels x))
      ∙ (λ x. level_justifications t rest (below ((read.at.head ∙ sym read.next_is) x) (0 + length (sym read.nodes_is x)) (id + 2 * length (sym read.nodes_is x))) 0 id (sym read.nodes_is x)
      ++ node_justifications (0 + length (sym read.nodes_is x)) (id + 2 * length (sym read.nodes_is x)) rest (drop (i + 1) ls))
      ∙ (λ x. level_justifications t rest (below next (0 + length nodes) (sym is x)) 0 id nodes ++ node_justifications (0 + length nodes) (sym is x) rest (drop (i + 1) ls))

  -- the justifications of the level, and those after it
  pub level_steps : (last : List Justification) (n : ℕ)
      → claim_steps n (map by_justification (node_justifications 0 id (drop i ts) (drop i ls) ++ last)) ≡ claim_steps n (map by_justification (level_at t (drop (i + 1) ts) next nid id nodes ++ (node_justifications 0 nid (drop (i + 1) ts) (drop (i + 1) ls) ++ last)))
  level_steps last n =
      let one : List Justification = level_justifications t rest (below next (0 + length nodes) nid) 0 id nodes in
      let two : List Justification = level_at t rest next nid id nodes in
      let same = same_append one two (later (0 + length nodes)) (later 0) (level_same t rest next (0 + length nodes) 0 nid 0 0 id nodes) (nodes_same (0 + length nodes) 0 nid rest (drop (i + 1) ls)) in
      let all = same_append (one ++ later (0 + length nodes)) (two ++ later 0) last last same (record { count = refl; steps = λ k. refl }) in
      ap (λ (rs : List Justification). claim_steps n (map by_justification (rs ++ last))) exact
      ∙ all.steps n
      ∙ ap (λ (rs : List Justification). claim_steps n (map by_justification rs)) (append_assoc two (later 0) last)

  module _ {R : Type 0} {all : List Step} (last : List Justification) (old now : StepState R) (e : Deriving all (claim_steps now.next (map by_justification (node_justifications 0 id (drop i ts) (drop i ls) ++ last))) old now)
      (more : List Weighted) (more_is : more ≡ drop (i + 1) ts) where
    abbrev here : List Justification
    here = level_at t more next nid id nodes

    begun : Deriving all (claim_steps now.next (map by_justification (here ++ (later 0 ++ last)))) old now
    begun = deriving_as (level_steps last now.next ∙ (λ x. claim_steps now.next (map by_justification (level_at t (sym more_is x) next nid id nodes ++ (later 0 ++ last))))) e

    pub level_fault : {T : Type 0} (r : Result T SinkFault) (f : SinkFault) (after : StepState R) → IsErrAnd r (λ g. g ≡ f) → StopsInSteps (claim_steps now.next (map by_justification here)) now after f → HandsSteps all r old after
    level_fault r f after given part = justifications_stop here (later 0 ++ last) old now begun r f after given part

    pub level_taken : (after : StepState R) → TakesSteps (claim_steps now.next (map by_justification here)) now after
        → Deriving all (claim_steps after.next (map by_justification (node_justifications 0 nid (drop (i + 1) ts) (drop (i + 1) ls) ++ last))) old after
    level_taken after h = justifications_taken here (later 0 ++ last) old now begun after h
