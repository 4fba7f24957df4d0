use Rattle.std.proofs.Common.{◌≡◌, ◌+◌, ◌-◌, ◌∙◌, ℕ, drop, refl, sym, ap, arith}
use Rattle.pb_norm.specs.Constraints.{weight, weights}
use Rattle.pb_family.proofs.TermSlices.{weights_from}
use Rattle.pb_diagram.proofs.DiagramSteps.{read_at, read_children, read_order, weight_after}
use Rattle.pb_diagram.proofs.shape.Shape.layer.Goals as goal

pub overflow_sub-result : goal.overflow_sub-result
overflow_sub-result c =
    omega (arith, weight_after c.args.self.now.terms.now c.args.place c.index-terms-place.result c.weight.result c.args.all c.requires.within c.index-terms-place.is c.weight.ensures c.requires.left)

pub invariant_of-result : goal.invariant_of-result
invariant_of-result c =
    let self = c.args.self.now in
    let t = c.index-terms-place.result in
    let whole : ℕ = c.args.all - c.weight.result in
    let sum = weight_after self.terms.now c.args.place t c.weight.result c.args.all c.requires.within c.index-terms-place.is c.weight.ensures c.requires.left in
    let is : whole ≡ weight (drop (c.args.place + 1) (weights self.terms.now)) = omega arith in
    let read = read_at self.terms.now self.bound self.levels.now c.args.place t whole c.nodes_after.result.now c.nodes_after-2.result.now self.nodes c.requires.within c.index-terms-place.is is c.nodes_after.ensures c.nodes_after-2.ensures in
    record {
      left = is ∙ ap weight (sym (weights_from self.terms.now (c.args.place + 1) (c.args.place + 1) refl));
      linked = read_children _ _ _ _ _ _ _ read;
      order = read_order _ _ _ _ _ _ _ read;
    }

pub returns-clause-rest : goal.returns-clause-rest
returns-clause-rest c = weights_from c.args.self.now.terms.now (c.args.place + 1) (c.args.place + 1) refl

pub slice_bounds-result-start : goal.slice_bounds-result-start
slice_bounds-result-start c = omega (arith, c.requires.within)
