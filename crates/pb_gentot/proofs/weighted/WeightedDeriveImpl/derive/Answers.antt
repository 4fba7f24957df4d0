use Rattle.std.proofs.Common.{◌∙◌, List, ap, sym, subst, arith}
use Rattle.pb_base.specs.declared.literal.Term.{Term}
use Rattle.pb_norm.specs.BoundedSums.{IsProper, sum_within}
use Rattle.pb_norm.specs.Constraints.{weights}
use Rattle.pb_family.proofs.Deriving.{steps_same}
use Rattle.pb_tree.specs.Scheme.{clause_count_of}
use Rattle.pb_tree.specs.Tree.{tree_of}
use Rattle.pb_tree.specs.TreeSteps.{tree_justifications}
use Rattle.pb_tree.proofs.TreeCounts.{all_counted}
use Rattle.pb_tree.proofs.TreeHanded.{all_first_free}
use Rattle.pb_tree.proofs.TreePhases.{part_reifications, same_phases}
use Rattle.pb_gentot.specs.Generalized.{generalized}
use Rattle.pb_gentot.specs.GeneralizedSteps.{generalized_pairs, generalized_steps}
use Rattle.pb_gentot.specs.inner.Sources.{all_justifications}
use Rattle.pb_gentot.proofs.Bounds.{justifications_are}
use Rattle.pb_gentot.proofs.Parts.{leaves_add}
use Rattle.pb_gentot.proofs.WholeTrees.{whole_of}
use Rattle.pb_gentot.proofs.weighted.WeightedDeriveImpl.derive.Goals as goal

pub invariant_of-whole : goal.invariant_of-whole
invariant_of-whole g c =
    let f = c.args.self.now in
    record { whole = whole_of f.terms.items c.as_slice.result.now f.bound c.args.first f.proper f.small f.light c.as_slice.ensures.value c.requires.low c.requires.fits }

pub invariant_of-claims : goal.invariant_of-claims
invariant_of-claims g c =
    let f = c.args.self.now in
    record { proper = subst (λ (ts : List Term). IsProper (sum_within ts f.bound)) (sym c.as_slice.ensures.value) f.proper }

pub derive_along-requires-clause-few : goal.derive_along-requires-clause-few
derive_along-requires-clause-few g c = λ id.
    let f = c.args.self.now in
    let ts = c.as_slice.result.now in
    let whole = whole_of f.terms.items ts f.bound c.args.first f.proper f.small f.light c.as_slice.ensures.value c.requires.low c.requires.fits in
    let count = ap (λ (us : List Term). clause_count_of (generalized f.bound) (tree_of (weights us))) c.as_slice.ensures.value in
    omega (arith, all_counted (generalized f.bound) generalized_pairs (tree_of (weights ts)) 0 id c.args.id, justifications_are f.bound ts id (leaves_add ts whole.positive), f.clauses_is, f.modest, count)

pub returns : goal.returns
returns g c =
    let f = c.args.self.now in
    let ts = c.as_slice.result.now in
    let s = generalized f.bound in
    let t = tree_of (weights ts) in
    let old = g.T.StepSink.state c.args.sink.now in
    let rs = all_justifications f.bound ts old.next c.args.id in
    let qs = tree_justifications s generalized_pairs t c.args.first old.next c.args.id in
    let same = same_phases old.next (part_reifications s ts c.args.first) rs qs (all_first_free s generalized_pairs t 0 c.args.first old.next c.args.id) in
    let whole = ap (λ (us : List Term). generalized_steps (sum_within us f.bound) c.args.first c.args.id old.next) c.as_slice.ensures.value in
    steps_same c.derive_along.result _ _ old (g.T.StepSink.state c.derive_along.new.sink) (same ∙ whole) c.derive_along.ensures
