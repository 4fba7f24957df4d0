use Rattle.std.proofs.Common.{refl, arith}
use Rattle.pb_norm.specs.BoundedSums.{sum_within}
use Rattle.pb_family.proofs.Deriving.{steps_same}
use Rattle.pb_tree.proofs.TreePhases.{part_reifications, same_phases}
use Rattle.pb_totalizer.specs.ExactSteps.{exact_justifications}
use Rattle.pb_totalizer.specs.Totalizer.{totalizer}
use Rattle.pb_totalizer.specs.inner.ExactSources.{exact_all_justifications}
use Rattle.pb_totalizer.proofs.ExactHanded.{exact_all_same, exact_all_counted}
use Rattle.pb_totalizer.proofs.PartsCounted.{few_justifications}
use Rattle.pb_totalizer.proofs.exact_derivation.derive_exact.Goals as goal

pub derive_along-requires-clause-few : goal.derive_along-requires-clause-few
derive_along-requires-clause-few g c = λ id.
    let w = c.args.whole.now in
    omega (arith, exact_all_counted w.bound w.terms.now id c.args.lower c.args.upper, few_justifications w.bound w.terms.now id w.whole)

pub returns : goal.returns
returns g c =
    let w = c.args.whole.now in
    let old = g.T.StepSink.state c.args.sink.now in
    let rs = exact_all_justifications w.bound w.terms.now old.next c.args.lower c.args.upper in
    let qs = exact_justifications (sum_within w.terms.now w.bound) w.first old.next c.args.lower c.args.upper in
    steps_same c.derive_along.result _ _ old (g.T.StepSink.state c.derive_along.new.sink)
    (same_phases old.next (part_reifications (totalizer w.bound) w.terms.now w.first) rs qs (exact_all_same w.bound w.terms.now w.first c.args.lower c.args.upper old.next old.next refl)) c.derive_along.ensures
