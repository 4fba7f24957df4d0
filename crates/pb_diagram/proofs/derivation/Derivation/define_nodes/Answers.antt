use Rattle.std.proofs.Common.{◌≡◌, ◌≤◌, ℕ, ◌+◌, ◌++◌, List, length, drop, refl, sym, ap, subst, arith}
use Rattle.std.specs.Prelude.{All}
use Rattle.std.proofs.lemmas.List.{length-map}
use Rattle.pb_norm.specs.Constraints.{Weighted, weight, weighted, weights}
use Rattle.pb_norm.specs.BoundedSums.{sum_within}
use Rattle.pb_derive.specs.Reifications.{reification_steps}
use Rattle.pb_family.specs.Fresh.{positive_of}
use Rattle.pb_family.specs.StepSinks.{TakesSteps}
use Rattle.pb_family.proofs.Deriving.{Deriving, deriving_from, deriving_as, deriving_ends}
use Rattle.pb_family.proofs.Sequence.{reifications_ids}
use Rattle.pb_family.proofs.TermSlices.{weights_from, light_from}
use Rattle.pb_diagram.specs.declared.interval.Interval.{Interval}
use Rattle.pb_diagram.specs.Clauses.{node_count}
use Rattle.pb_diagram.specs.DiagramSteps.{level_reifications, node_reifications}
use Rattle.pb_diagram.specs.laws.NodeReifications.{length-level}
use Rattle.pb_diagram.proofs.ReificationSteps.{reifications_taken, reifications_stop, level_stops, nodes_left, nodes_within, nodes_count, no_reification, terms_from, weight_from, turned_length}
use Rattle.pb_diagram.proofs.derivation.Derivation.define_nodes.Given.{Over}
use Rattle.pb_diagram.proofs.derivation.Derivation.define_nodes.Goals.{After-nodes_after}
use Rattle.pb_diagram.proofs.derivation.Derivation.define_nodes.Goals as goal

abbrev none : Weighted
none = record { coef = 0; lit = positive_of 0 }

pub loop-i-init : goal.loop-i-init
loop-i-init g c = record {
  room = ap (λ (ls : List (List Interval)). c.args.self.now.first + node_count ls) c.args.self.now.shape.nodes;
  low = omega arith;
  count = omega arith;
  taken = deriving_from _ refl;
}

pub offset_bounds-self-i : goal.offset_bounds-self-i
offset_bounds-self-i g c = omega (arith, turned_length c.args.self.now.shape.terms.now c.args.self.now.negated.now c.args.self.now.turned, c.loop-i-test.true)

pub invariant_of-sides : goal.invariant_of-sides
invariant_of-sides g c =
    let shape = c.args.self.now.shape in
    let ts = shape.terms.now in
    let i = c.loop-i.i in
    let same = weight_from ts c.args.self.now.negated.now i c.args.self.now.turned in
    record {
      light = omega (arith, same, ap weight (weights_from ts i i refl), light_from ts i, shape.light);
      within = subst (λ (n : ℕ). All (λ g. g.top ≤ n) c.nodes_after.result.now) (sym same)
          (nodes_within (sum_within ts shape.bound) shape.levels.now i shape.nodes c.nodes_after.result.now c.nodes_after.ensures);
    }

-- what is left is the level and what is behind it, and how many nodes that has
begun : (g : Over) (c : After-nodes_after g) → (let shape = c.args.self.now.shape in let of = sum_within shape.terms.now shape.bound in let now = g.T.StepSink.state c.loop-i.sink in let nodes = c.nodes_after.result.now in
    Deriving (reification_steps (g.T.StepSink.state c.args.sink.now).next (node_reifications c.args.self.now.first of.terms shape.levels.now))
    (reification_steps now.next (level_reifications c.loop-i.start (drop c.loop-i.i of.terms) nodes ++ node_reifications (c.loop-i.start + length nodes) (drop (c.loop-i.i + 1) of.terms) (drop (c.loop-i.i + 1) shape.levels.now))) (g.T.StepSink.state c.args.sink.now) now)
begun g c =
    let shape = c.args.self.now.shape in
    let now = g.T.StepSink.state c.loop-i.sink in
    deriving_as (ap (reification_steps now.next) (nodes_left (sum_within shape.terms.now shape.bound) shape.levels.now c.loop-i.i none shape.nodes (omega (arith, length-map shape.terms.now weighted, c.loop-i-test.true)) c.nodes_after.result.now c.nodes_after.ensures c.loop-i.start)) c.loop-i.invariant.taken

count : (g : Over) (c : After-nodes_after g) → node_count (drop c.loop-i.i c.args.self.now.shape.levels.now) ≡ length c.nodes_after.result.now + node_count (drop (c.loop-i.i + 1) c.args.self.now.shape.levels.now)
count g c =
    let shape = c.args.self.now.shape in
    nodes_count (sum_within shape.terms.now shape.bound) shape.levels.now c.loop-i.i none shape.nodes (omega (arith, length-map shape.terms.now weighted, c.loop-i-test.true)) c.nodes_after.result.now c.nodes_after.ensures

pub define_level-requires-clause-high : goal.define_level-requires-clause-high
define_level-requires-clause-high g c = omega (arith, count g (goal.at.define_level-requires-clause-high g c).After-nodes_after, c.loop-i.invariant.room, c.args.self.now.fits)

pub define_level-requires-clause-few : goal.define_level-requires-clause-few
define_level-requires-clause-few g c = omega (arith, count g (goal.at.define_level-requires-clause-few g c).After-nodes_after, c.loop-i.invariant.room, c.loop-i.invariant.count, c.args.self.now.fits, c.requires)

pub returns-in_err-define_level : goal.returns-in_err-define_level
returns-in_err-define_level g c =
    let ts = c.args.self.now.shape.terms.now in
    let after = g.T.StepSink.state c.define_level.new.sink in
    let i = c.loop-i.i in
    let nodes = c.nodes_after.result.now in
    reifications_stop (level_reifications c.loop-i.start (drop i (weights ts)) nodes) (node_reifications (c.loop-i.start + length nodes) (drop (i + 1) (weights ts)) (drop (i + 1) c.args.self.now.shape.levels.now)) _ _ (begun g (goal.at.returns-in_err-define_level g c).After-nodes_after)
    c.from_residual.result _ after c.from_residual.ensures.1 (level_stops c.loop-i.start nodes _ (drop i (weights ts)) _ after (terms_from ts c.args.self.now.negated.now i c.args.self.now.turned) c.in_err-define_level.ensures)

pub loop-i-preserved : goal.loop-i-preserved
loop-i-preserved g c =
    let ts = c.args.self.now.shape.terms.now in
    let at = (goal.at.loop-i-preserved g c).After-nodes_after in
    let now = g.T.StepSink.state c.loop-i.sink in
    let after = g.T.StepSink.state c.define_level.new.sink in
    let i = c.loop-i.i in
    let nodes = c.nodes_after.result.now in
    let here = level_reifications c.loop-i.start (drop i (weights ts)) nodes in
    let handed = subst (λ (us : List Weighted). TakesSteps (reification_steps now.next (level_reifications c.loop-i.start us nodes)) now after) (terms_from ts c.args.self.now.negated.now i c.args.self.now.turned) c.in_ok-define_level.ensures in
    record {
      room = omega (arith, count g at, c.loop-i.invariant.room);
      low = omega (arith, c.loop-i.invariant.low);
      count = omega (arith, handed.ids, reifications_ids now.next here, length-level c.loop-i.start (drop i (weights ts)) nodes, c.loop-i.invariant.count);
      taken = reifications_taken here (node_reifications (c.loop-i.start + length nodes) (drop (i + 1) (weights ts)) (drop (i + 1) c.args.self.now.shape.levels.now)) _ now (begun g at) after handed;
    }

pub returns : goal.returns
returns g c =
    let now = g.T.StepSink.state c.loop-i.sink in
    deriving_ends (deriving_as (ap (reification_steps now.next) (no_reification (weights c.args.self.now.shape.terms.now) c.args.self.now.shape.levels.now c.loop-i.i c.loop-i.start (omega (arith, length-map c.args.self.now.shape.terms.now weighted)))) c.loop-i.invariant.taken)

pub overflow_cast-start : goal.overflow_cast-start
overflow_cast-start g c = omega (arith, count g (goal.at.overflow_cast-start g c).After-nodes_after, c.loop-i.invariant.room, c.args.self.now.fits)

pub overflow_add-start : goal.overflow_add-start
overflow_add-start g c = omega (arith, count g (goal.at.overflow_add-start g c).After-nodes_after, c.loop-i.invariant.room, c.args.self.now.fits)

pub define_level-requires-clause-low : goal.define_level-requires-clause-low
define_level-requires-clause-low g c = omega (arith, c.args.self.now.low, c.loop-i.invariant.low)

pub slice_bounds-sides-start : goal.slice_bounds-sides-start
slice_bounds-sides-start g c = omega (arith, turned_length c.args.self.now.shape.terms.now c.args.self.now.negated.now c.args.self.now.turned, c.loop-i-test.true)

pub slice_bounds-sides-end : goal.slice_bounds-sides-end
slice_bounds-sides-end g c = omega arith

pub slice_bounds-sides-count : goal.slice_bounds-sides-count
slice_bounds-sides-count g c = omega (arith, turned_length c.args.self.now.shape.terms.now c.args.self.now.negated.now c.args.self.now.turned, c.loop-i-test.true)
