use Rattle.std.proofs.Common.{◌≡◌, ◌∙◌, List, ap, length, subst, sym, arith}
use Rattle.pb_norm.specs.Constraints.{weights}
use Rattle.pb_norm.specs.BoundedSums.{BoundedSum, IsProper, sum_within}
use Rattle.pb_family.proofs.Deriving.{steps_lack_first, steps_same}
use Rattle.pb_diagram.specs.declared.node.Node.{Node}
use Rattle.pb_diagram.specs.Clauses.{diagram_fresh}
use Rattle.pb_diagram.specs.DiagramDerivation.{derivation_steps}
use Rattle.pb_diagram.specs.GuardedSteps.{count_nodes, guarded_by, is_guarded, nodes_in}
use Rattle.pb_diagram.specs.inner.Parts.{nodes_from}
use Rattle.pb_diagram.specs.laws.NodesOver.{AreLevels}
use Rattle.pb_diagram.proofs.GuardedWhole.{few_is, guarded_is, most_is, nodes_count, nodes_root, nodes_shape, plain_is}
use Rattle.pb_diagram.proofs.diagram.DiagramDeriveImpl.derive.Goals as goal

pub returns-in_err-nodes : goal.returns-in_err-nodes
returns-in_err-nodes g c = steps_lack_first _ (g.T.StepSink.state c.args.sink.now) c.from_residual.result c.from_residual.ensures.1

pub derive_plainly-requires : goal.derive_plainly-requires
derive_plainly-requires g c = record { low = c.requires.low; fits = c.requires.fits; few = c.requires.few }

pub derive_plainly-requires-then-not-are_narrow : goal.derive_plainly-requires-then-not-are_narrow
derive_plainly-requires-then-not-are_narrow g c = record { low = c.requires.low; fits = c.requires.fits; few = c.requires.few }

pub returns-then-shape-lt20 : goal.returns-then-shape-lt20
returns-then-shape-lt20 g c =
    let self = c.args.self.now in
    let old = g.T.StepSink.state c.args.sink.now in
    let shape = c.shape-shape.result in
    let told = c.shape-shape.ensures in
    let m = sum_within self.terms.items self.bound in
    let same : sum_within shape.terms.now shape.bound ≡ m = λ x. sum_within (told.terms x) (told.bound x) in
    let few = few_is shape.terms.now shape.bound (omega (arith, c.if-shape-lt20.true)) in
    steps_same c.derive_plainly.result _ _ old (g.T.StepSink.state c.derive_plainly.new.sink) (plain_is m self.proper c.args.first c.args.id old.next (ap is_guarded (sym same) ∙ few)) c.derive_plainly.ensures

pub returns-then-not-are_narrow : goal.returns-then-not-are_narrow
returns-then-not-are_narrow g c =
    let self = c.args.self.now in
    let old = g.T.StepSink.state c.args.sink.now in
    let shape = c.shape-shape.result in
    let told = c.shape-shape.ensures in
    let m = sum_within self.terms.items self.bound in
    let same : sum_within shape.terms.now shape.bound ≡ m = λ x. sum_within (told.terms x) (told.bound x) in
    let levels = c.as_slice-levels.ensures.value ∙ (c.in_ok-nodes.ensures ∙ ap (nodes_in (weights shape.terms.now)) shape.nodes) in
    let narrow = most_is shape.terms.now c.as_slice-levels.result.now _ shape.bound (omega (arith, c.if-shape-lt20.false)) c.min-most.ensures levels in
    steps_same c.derive_plainly-then-not-are_narrow.result _ _ old (g.T.StepSink.state c.derive_plainly-then-not-are_narrow.new.sink)
    (plain_is m self.proper c.args.first c.args.id old.next (ap is_guarded (sym same) ∙ (sym narrow ∙ (sym c.are_narrow.ensures ∙ c.if-not-are_narrow.true)))) c.derive_plainly-then-not-are_narrow.ensures

pub invariant_of-guarded : goal.invariant_of-guarded
invariant_of-guarded g c =
    let self = c.args.self.now in
    let shape = c.shape-shape.result in
    let told = c.shape-shape.ensures in
    let m = sum_within self.terms.items self.bound in
    let of = sum_within shape.terms.now shape.bound in
    let same : of ≡ m = λ x. sum_within (told.terms x) (told.bound x) in
    let levels = c.as_slice-levels.ensures.value ∙ (c.in_ok-nodes.ensures ∙ ap (nodes_in (weights shape.terms.now)) shape.nodes) in
    let proper = subst IsProper (sym same) self.proper in
    record {
      shape = subst (AreLevels (weights shape.terms.now)) (sym levels) (nodes_shape of proper);
      root = ap (λ (ls : List (List Node)). length (nodes_from ls 0)) levels ∙ nodes_root of proper;
      light = omega (arith, shape.light);
      count = self.fresh_is ∙ (ap diagram_fresh (sym same) ∙ (sym (nodes_count of proper) ∙ ap count_nodes (sym levels)));
      low = c.requires.low;
      fits = omega (arith, self.fresh_is, c.requires.fits);
      modest = omega (arith, c.next_id-base.ensures, c.requires.few);
    }

pub returns : goal.returns
returns g c =
    let self = c.args.self.now in
    let old = g.T.StepSink.state c.args.sink.now in
    let shape = c.shape-shape.result in
    let told = c.shape-shape.ensures in
    let m = sum_within self.terms.items self.bound in
    let of = sum_within shape.terms.now shape.bound in
    let same : of ≡ m = λ x. sum_within (told.terms x) (told.bound x) in
    let levels = c.as_slice-levels.ensures.value ∙ (c.in_ok-nodes.ensures ∙ ap (nodes_in (weights shape.terms.now)) shape.nodes) in
    let narrow = most_is shape.terms.now c.as_slice-levels.result.now _ shape.bound (omega (arith, c.if-shape-lt20.false)) c.min-most.ensures levels in
    let proper = subst IsProper (sym same) self.proper in
    steps_same c.derive.result _ _ old (g.T.StepSink.state c.derive.new.sink)
    (ap (λ (ls : List (List Node)). guarded_by (weights shape.terms.now) ls c.args.first c.args.id old.next) levels
    ∙ (guarded_is of proper c.args.first c.args.id old.next (sym narrow ∙ (sym c.are_narrow.ensures ∙ c.if-not-are_narrow.false))
    ∙ ap (λ (k : BoundedSum). derivation_steps k c.args.first c.args.id old.next) same))
    c.derive.ensures
