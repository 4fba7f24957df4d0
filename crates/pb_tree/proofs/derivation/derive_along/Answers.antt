use Rattle.std.proofs.Common.{◌≡◌, ◌+◌, ◌*◌, ap, refl, subst, arith}
use Rattle.pb_derive.specs.Reifications.{reification_steps}
use Rattle.pb_family.specs.StepSinks.{TakesSteps}
use Rattle.pb_family.proofs.FlatPieces.{justifications_next}
use Rattle.pb_family.proofs.HandedPhases.{stopped_in_reifications, stopped_in_claims}
use Rattle.pb_tree.specs.Walks.{fresh_over}
use Rattle.pb_tree.proofs.TreeHanded.{stopped_as}
use Rattle.pb_tree.proofs.TreePhases.{part_reifications, meant_next, derived, same_as}
use Rattle.pb_tree.proofs.derivation.derive_along.Given.{Over}
use Rattle.pb_tree.proofs.derivation.derive_along.Goals.{In_ok-fresh}
use Rattle.pb_tree.proofs.derivation.derive_along.Goals as goal

pub returns-in_err-fresh : goal.returns-in_err-fresh
returns-in_err-fresh g c =
    let v = g.V.TreeSum in
    let of = c.args.of.now in
    let sum = g.C.TreeClaims.sum of in
    let old = g.T.StepSink.state c.args.sink.now in
    let new = g.T.StepSink.state c.derive_meanings.new.sink in
    let rs = g.C.TreeClaims.given of old.next in
    stopped_in_reifications c.from_residual.result (part_reifications (v.scheme sum) (v.all sum) (v.start sum)) rs rs (same_as rs rs refl) old _ new c.from_residual.ensures.1
    (stopped_as (ap (λ x. reification_steps old.next (part_reifications (v.scheme x) (v.all x) (v.start x))) c.sum.ensures) c.in_err-fresh.ensures.hands)

pub claim-requires-clause-ids : goal.claim-requires-clause-ids
claim-requires-clause-ids g c = omega (arith, c.next_id-base.ensures, c.requires.low, (g.met.V.TreeSum.holds (g.C.TreeClaims.sum c.args.of.now)).fits)

-- what the fresh variables mean was taken
meant : (g : Over) (c : In_ok-fresh g)
    → (let v = g.V.TreeSum in let sum = g.C.TreeClaims.sum c.args.of.now in let old = g.T.StepSink.state c.args.sink.now in TakesSteps (reification_steps old.next (part_reifications (v.scheme sum) (v.all sum) (v.start sum))) old (g.T.StepSink.state c.derive_meanings.new.sink))
meant g c =
    let v = g.V.TreeSum in
    let old = g.T.StepSink.state c.args.sink.now in
    subst (λ x. TakesSteps (reification_steps old.next (part_reifications (v.scheme x) (v.all x) (v.start x))) old (g.T.StepSink.state c.derive_meanings.new.sink)) c.sum.ensures c.in_ok-fresh.ensures.hands

next : (g : Over) (c : In_ok-fresh g) → (let sum = g.C.TreeClaims.sum c.args.of.now in (g.T.StepSink.state c.derive_meanings.new.sink).next ≡ (g.T.StepSink.state c.args.sink.now).next + 2 * fresh_over (g.V.TreeSum.scheme sum) (g.V.TreeSum.all sum))
next g c =
    let v = g.V.TreeSum in
    let sum = g.C.TreeClaims.sum c.args.of.now in
    meant_next (v.scheme sum) (v.all sum) (v.start sum) _ _ (meant g c)

pub claim-requires-clause-room : goal.claim-requires-clause-room
claim-requires-clause-room g c =
    omega (arith, c.requires.low, next g (goal.at.claim-requires-clause-room g c).In_ok-fresh, (g.met.V.TreeSum.holds (g.C.TreeClaims.sum c.args.of.now)).fits, c.requires.few c.next_id-base.result)

pub returns-in_err-claim : goal.returns-in_err-claim
returns-in_err-claim g c =
    let of = c.args.of.now in
    let old = g.T.StepSink.state c.args.sink.now in
    let rs = g.C.TreeClaims.given of c.next_id-base.result in
    let qs = g.C.TreeClaims.given of old.next in
    let same = same_as rs qs (ap (g.C.TreeClaims.given of) c.next_id-base.ensures) in
    stopped_in_claims c.from_residual-in_err-claim.result _ rs qs same old _ (g.T.StepSink.state c.derive_meanings.new.sink) (g.T.StepSink.state c.claim.new.sink) c.from_residual-in_err-claim.ensures.1
    (meant g (goal.at.returns-in_err-claim g c).In_ok-fresh) c.in_err-claim.ensures

pub derive_deletions-requires-clause-fits : goal.derive_deletions-requires-clause-fits
derive_deletions-requires-clause-fits g c =
    let count = ap (λ x. fresh_over (g.V.TreeSum.scheme x) (g.V.TreeSum.all x)) c.sum.ensures in
    omega (arith, c.next_id-base.ensures, c.requires.low, count, c.in_ok-fresh.ensures.count, (g.met.V.TreeSum.holds (g.C.TreeClaims.sum c.args.of.now)).fits)

pub derive_deletions-requires-clause-few : goal.derive_deletions-requires-clause-few
derive_deletions-requires-clause-few g c =
    let sum = g.C.TreeClaims.sum c.args.of.now in
    let after = justifications_next (g.C.TreeClaims.given c.args.of.now c.next_id-base.result) (g.T.StepSink.state c.derive_meanings.new.sink) (g.T.StepSink.state c.claim.new.sink) c.in_ok-claim.ensures in
    omega (arith, c.requires.low, next g (goal.at.derive_deletions-requires-clause-few g c).In_ok-fresh, after, (g.met.V.TreeSum.holds sum).fits, c.requires.few c.next_id-base.result)

pub returns : goal.returns
returns g c =
    let v = g.V.TreeSum in
    let of = c.args.of.now in
    let sum = g.C.TreeClaims.sum of in
    let old = g.T.StepSink.state c.args.sink.now in
    let count = ap (λ x. fresh_over (v.scheme x) (v.all x)) c.sum.ensures in
    let rs = g.C.TreeClaims.given of c.next_id-base.result in
    let qs = g.C.TreeClaims.given of old.next in
    let same = same_as rs qs (ap (g.C.TreeClaims.given of) c.next_id-base.ensures) in
    derived (v.scheme sum) (v.all sum) (v.start sum) old _ (meant g (goal.at.returns g c).In_ok-fresh) c.derive_deletions.result rs qs c.next_id-base.result c.in_ok-fresh.fresh (g.T.StepSink.state c.claim.new.sink) (g.T.StepSink.state c.derive_deletions.new.sink)
    same c.next_id-base.ensures (omega (arith, count, c.in_ok-fresh.ensures.count)) c.in_ok-claim.ensures c.derive_deletions.ensures
