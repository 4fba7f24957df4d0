use Rattle.std.proofs.Common.{◌≡◌, ◌+◌, ◌++◌, ◌∷◌, [], List, ap, sym, ◌∙◌, subst, arith}
use Rattle.std.proofs.lemmas.List.{length-map}
use Rattle.pb_base.specs.declared.literal.Lit.{Lit}
use Rattle.pb_norm.specs.Constraints.{weighted, weights}
use Rattle.pb_norm.specs.BoundedSums.{sum_within}
use Rattle.pb_family.specs.Fresh.{positive_of}
use Rattle.pb_family.specs.Handing.{Hands}
use Rattle.pb_family.proofs.Emission.{emitting_from, hands_last}
use Rattle.pb_diagram.specs.Clauses.{node_count, node_clauses, diagram_clauses}
use Rattle.pb_diagram.proofs.DiagramSteps.{Read, read_layer, read_counts, read_next, level_taken, level_fault, last_left, some_node}
use Rattle.pb_diagram.proofs.emission.emit_whole.Given.{Over}
use Rattle.pb_diagram.proofs.emission.emit_whole.Goals.{After-layer-layer}
use Rattle.pb_diagram.proofs.emission.emit_whole.Goals as goal

pub loop-i-init : goal.loop-i-init
loop-i-init g c = record {
  left = c.weight_of-whole.ensures;
  room = ap (λ ls. c.args.first + node_count ls) c.args.shape.nodes;
  low = omega arith;
  clauses = emitting_from _ (ap (λ ls. node_clauses c.args.first (weights c.args.shape.terms.now) ls ++ (positive_of c.args.first ∷ []) ∷ []) (sym c.args.shape.nodes));
}

-- what the code reads of the level
read : (g : Over) (c : After-layer-layer g) → (let layer = c.layer-layer.result in Read (weights c.args.shape.terms.now) c.args.shape.levels.now c.loop-i.i (weighted layer.term.now) layer.whole layer.nodes.now layer.next.now)
read g c = let told = c.layer-layer.ensures in read_layer c.args.shape c.loop-i.i c.layer-layer.result c.loop-i-test.true told.term told.rest told.nodes told.next

pub returns-in_err-emit_level : goal.returns-in_err-emit_level
returns-in_err-emit_level g c =
    level_fault c.from_residual.result _ c.from_residual.ensures.1 _ _ _ _ _ _ _ (read g (goal.at.returns-in_err-emit_level g c).After-layer-layer) c.loop-i.start ((positive_of c.args.first ∷ []) ∷ []) _ c.loop-i.invariant.clauses c.in_err-emit_level.ensures

pub loop-i-preserved : goal.loop-i-preserved
loop-i-preserved g c =
    let read = read g (goal.at.loop-i-preserved g c).After-layer-layer in
    let counts = read_counts _ _ _ _ _ _ _ read in
    record {
      left = read.whole_is;
      room = omega (arith, c.loop-i.invariant.room);
      low = omega (arith, c.loop-i.invariant.low);
      clauses = level_taken _ _ _ _ _ _ _ read c.loop-i.start ((positive_of c.args.first ∷ []) ∷ []) _ c.loop-i.invariant.clauses c.in_ok-emit_level.ensures;
    }

pub fresh_at-requires-clause-high : goal.fresh_at-requires-clause-high
fresh_at-requires-clause-high g c = omega (arith, some_node (sum_within c.args.shape.terms.now c.args.shape.bound) c.requires.above, c.requires.fits)

pub returns : goal.returns
returns g c =
    let sink = g.S.ClauseSink in
    let ts = weights c.args.shape.terms.now in
    let count = length-map c.args.shape.terms.now weighted in
    let root : List Lit = positive_of c.args.first ∷ [] in
    let zeroth : c.args.first + 0 ≡ c.args.first = omega arith in
    let same = c.fresh_at.ensures ∙ ap positive_of zeroth in
    let handed = subst (λ (l : Lit). Hands ((l ∷ []) ∷ []) c.clause.result (sink.state c.loop-i.sink) (sink.state c.clause.new.self)) same c.clause.ensures in
    hands_last {all = diagram_clauses (sum_within c.args.shape.terms.now c.args.shape.bound) c.args.first} c.clause.result (root ∷ []) (sink.state c.clause.new.self)
    (last_left ts c.args.shape.levels.now c.loop-i.i c.loop-i.start (root ∷ []) (omega arith) c.loop-i.invariant.clauses) handed

pub invariant_of-level : goal.invariant_of-level
invariant_of-level g c =
    let read = read g (goal.at.invariant_of-level g c).After-layer-layer in
    let counts = read_counts _ _ _ _ _ _ _ read in
    let next = read_next _ _ _ _ _ _ _ read in
    record { low = omega (arith, c.requires.low, c.loop-i.invariant.low); follows = omega arith; high = omega (arith, counts, next, c.loop-i.invariant.room, c.requires.fits) }

pub overflow_cast-level : goal.overflow_cast-level
overflow_cast-level g c = omega (arith, read_counts _ _ _ _ _ _ _ (read g (goal.at.overflow_cast-level g c).After-layer-layer), c.loop-i.invariant.room, c.requires.fits)

pub overflow_add-level : goal.overflow_add-level
overflow_add-level g c = omega (arith, read_counts _ _ _ _ _ _ _ (read g (goal.at.overflow_add-level g c).After-layer-layer), c.loop-i.invariant.room, c.requires.fits)
