use Rattle.std.proofs.Common.{◌^◌, arith, map, reverse}
use Rattle.std.proofs.lemmas.Result.{IfOk-from_err}
use Rattle.pb_family.proofs.Parts.{turn_ends, turn_fault, turn_few, turn_from, turn_next, turn_next_id}
use Rattle.pb_diagram.specs.declared.parts.Kind.TheVariants.{Clauses}
use Rattle.pb_diagram.specs.inner.Parts.{count_of, ids_of, part, piece_of}
use Rattle.pb_diagram.specs.laws.PartIds.{part_piece_ids}
use Rattle.pb_diagram.proofs.GuardedTurns.{image_back, size_back}
use Rattle.pb_diagram.proofs.guarded.Guarded.derive_back.Goals as goal

pub loop-k-init : goal.loop-k-init
loop-k-init g c = turn_from count_of ids_of piece_of (reverse (map (part Clauses c.args.self.now.first) c.args.tiers.now)) (g.T.StepSink.state c.args.sink.now)

pub derive_pieces-requires : goal.derive_pieces-requires
derive_pieces-requires g c =
    let f = part Clauses c.args.self.now.first in
    let ts = c.args.tiers.now in
    let k = c.loop-k.k in
    let p = c.part-one.result in
    let is = image_back f ts k c.index-tiers-tiers.result p (omega (arith, c.loop-k-test.true)) c.index-tiers-tiers.is c.part-one.ensures in
    record { few = turn_few count_of ids_of piece_of (reverse (map f ts)) k p (g.T.StepSink.state c.args.sink.now) (g.T.StepSink.state c.loop-k.sink) (omega (arith, c.loop-k-test.true, size_back f ts)) is c.loop-k.invariant (2 ^ 62) c.requires.few }

pub returns-in_err-derive_pieces : goal.returns-in_err-derive_pieces
returns-in_err-derive_pieces g c =
    let f = part Clauses c.args.self.now.first in
    let ts = c.args.tiers.now in
    let k = c.loop-k.k in
    let p = c.part-one.result in
    let is = image_back f ts k c.index-tiers-tiers.result p (omega (arith, c.loop-k-test.true)) c.index-tiers-tiers.is c.part-one.ensures in
    record {
      hands = turn_fault count_of ids_of piece_of (reverse (map f ts)) k p (g.T.StepSink.state c.args.sink.now) (g.T.StepSink.state c.loop-k.sink) (omega (arith, c.loop-k-test.true, size_back f ts)) is c.loop-k.invariant
          c.from_residual.result _ (g.T.StepSink.state c.derive_pieces.new.sink) c.from_residual.ensures.1 c.in_err-derive_pieces.ensures;
      next = IfOk-from_err _ _ c.from_residual.ensures.0;
    }

pub loop-k-preserved : goal.loop-k-preserved
loop-k-preserved g c =
    let f = part Clauses c.args.self.now.first in
    let ts = c.args.tiers.now in
    let k = c.loop-k.k in
    let p = c.part-one.result in
    let is = image_back f ts k c.index-tiers-tiers.result p (omega (arith, c.loop-k-test.true)) c.index-tiers-tiers.is c.part-one.ensures in
    turn_next count_of ids_of piece_of (reverse (map f ts)) k p (g.T.StepSink.state c.args.sink.now) (g.T.StepSink.state c.loop-k.sink) (omega (arith, c.loop-k-test.true, size_back f ts)) is c.loop-k.invariant
    (g.T.StepSink.state c.derive_pieces.new.sink) (part_piece_ids p.kind p.tier p.guard) c.in_ok-derive_pieces.ensures

pub returns : goal.returns
returns g c =
    let f = part Clauses c.args.self.now.first in
    let ts = c.args.tiers.now in
    let k = c.loop-k.k in
    let old = g.T.StepSink.state c.args.sink.now in
    let now = g.T.StepSink.state c.loop-k.sink in
    record {
      hands = turn_ends count_of ids_of piece_of (reverse (map f ts)) k old now (omega (arith, size_back f ts)) c.loop-k.invariant;
      next = turn_next_id count_of ids_of piece_of (reverse (map f ts)) k old now (omega (arith, size_back f ts)) c.loop-k.invariant;
    }
