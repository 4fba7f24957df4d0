use Rattle.std.proofs.Common.{◌+◌, drop, arith, refl}
use Rattle.pb_family.specs.Fresh.{literal_at}
use Rattle.pb_family.proofs.Deriving.{deriving_from}
use Rattle.pb_amo.specs.Pairwise.{pairwise_clauses}
use Rattle.pb_amo.specs.inner.Source.{source_literals}
use Rattle.pb_amo.proofs.Claiming.{claim_room, claim_fault, claim_step, left_pairs, pairs_claimed, row_claimed}
use Rattle.pb_amo.proofs.claims.derive_pairs.Goals as goal

pub loop-i-init : goal.loop-i-init
loop-i-init g c = deriving_from (g.T.StepSink.state c.args.sink.now) refl

pub loop-j-init : goal.loop-j-init
loop-j-init g c =
    let sink = g.T.StepSink in
    left_pairs c.args.id (source_literals c.args.literals.now) (sink.state c.args.sink.now) (sink.state c.loop-i.sink) c.loop-i.i (omega arith) c.loop-i.invariant

pub derive_propagated-requires : goal.derive_propagated-requires
derive_propagated-requires g c =
    let sink = g.T.StepSink in
    let ms = source_literals c.args.literals.now in
    record {
      few = claim_room c.args.id ms (sink.state c.args.sink.now) (sink.state c.loop-j.sink) (literal_at ms c.loop-i.i) c.loop-j.j (pairwise_clauses (drop (c.loop-i.i + 1) ms)) (omega arith) c.loop-j.invariant c.requires.room;
    }

pub returns-in_err-derive_propagated : goal.returns-in_err-derive_propagated
returns-in_err-derive_propagated g c =
    let sink = g.T.StepSink in
    let ms = source_literals c.args.literals.now in
    claim_fault c.args.id ms (sink.state c.args.sink.now) (sink.state c.loop-j.sink) (literal_at ms c.loop-i.i) c.loop-j.j (pairwise_clauses (drop (c.loop-i.i + 1) ms)) (omega arith) c.loop-j.invariant _ (sink.state c.derive_propagated.new.sink) c.opposites-one.ensures
    c.from_residual.result _ c.from_residual.ensures.1 c.in_err-derive_propagated.ensures

pub loop-j-preserved : goal.loop-j-preserved
loop-j-preserved g c =
    let sink = g.T.StepSink in
    let ms = source_literals c.args.literals.now in
    claim_step c.args.id ms (sink.state c.args.sink.now) (sink.state c.loop-j.sink) (literal_at ms c.loop-i.i) c.loop-j.j (pairwise_clauses (drop (c.loop-i.i + 1) ms)) (omega arith) c.loop-j.invariant _ (sink.state c.derive_propagated.new.sink) c.opposites-one.ensures
    c.in_ok-derive_propagated.ensures

pub loop-i-preserved : goal.loop-i-preserved
loop-i-preserved g c =
    let sink = g.T.StepSink in
    let ms = source_literals c.args.literals.now in
    row_claimed c.args.id ms (sink.state c.args.sink.now) (sink.state c.loop-j.sink) (literal_at ms c.loop-i.i) c.loop-j.j (pairwise_clauses (drop (c.loop-i.i + 1) ms)) (omega arith) c.loop-j.invariant

pub returns : goal.returns
returns g c =
    let sink = g.T.StepSink in
    pairs_claimed c.args.id (source_literals c.args.literals.now) (sink.state c.args.sink.now) (sink.state c.loop-i.sink) c.loop-i.i (omega arith) c.loop-i.invariant
