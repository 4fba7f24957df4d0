use Rattle.std.proofs.Common.{◌^◌, arith, map}
use Rattle.std.proofs.lemmas.List.{length-map}
use Rattle.std.proofs.lemmas.Result.{IfOk-from_err}
use Rattle.pb_family.proofs.Parts.{turn_ends, turn_fault, turn_few, turn_from, turn_next, turn_next_id}
use Rattle.pb_diagram.specs.inner.Parts.{count_of, ids_of, part, piece_of}
use Rattle.pb_diagram.specs.laws.PartIds.{part_piece_ids}
use Rattle.pb_diagram.proofs.GuardedTurns.{image_at}
use Rattle.pb_diagram.proofs.guarded.Guarded.derive_levels.Goals as goal

pub loop-tier-init : goal.loop-tier-init
loop-tier-init g c = turn_from count_of ids_of piece_of (map (part c.args.kind c.args.self.now.first) c.args.tiers.now) (g.T.StepSink.state c.args.sink.now)

pub derive_pieces-requires : goal.derive_pieces-requires
derive_pieces-requires g c =
    let f = part c.args.kind c.args.self.now.first in
    let ts = c.args.tiers.now in
    let k = c.loop-tier.tier-index in
    let p = c.part-one.result in
    let is = image_at f ts k c.tier-item.result p (omega arith) c.tier-item.is c.part-one.ensures in
    record { few = turn_few count_of ids_of piece_of (map f ts) k p (g.T.StepSink.state c.args.sink.now) (g.T.StepSink.state c.loop-tier.sink) (omega (arith, length-map ts f)) is c.loop-tier.invariant (2 ^ 62) c.requires.few }

pub returns-in_err-derive_pieces : goal.returns-in_err-derive_pieces
returns-in_err-derive_pieces g c =
    let f = part c.args.kind c.args.self.now.first in
    let ts = c.args.tiers.now in
    let k = c.loop-tier.tier-index in
    let p = c.part-one.result in
    let is = image_at f ts k c.tier-item.result p (omega arith) c.tier-item.is c.part-one.ensures in
    record {
      hands = turn_fault count_of ids_of piece_of (map f ts) k p (g.T.StepSink.state c.args.sink.now) (g.T.StepSink.state c.loop-tier.sink) (omega (arith, length-map ts f)) is c.loop-tier.invariant
          c.from_residual.result _ (g.T.StepSink.state c.derive_pieces.new.sink) c.from_residual.ensures.1 c.in_err-derive_pieces.ensures;
      next = IfOk-from_err _ _ c.from_residual.ensures.0;
    }

pub loop-tier-preserved : goal.loop-tier-preserved
loop-tier-preserved g c =
    let f = part c.args.kind c.args.self.now.first in
    let ts = c.args.tiers.now in
    let k = c.loop-tier.tier-index in
    let p = c.part-one.result in
    let is = image_at f ts k c.tier-item.result p (omega arith) c.tier-item.is c.part-one.ensures in
    turn_next count_of ids_of piece_of (map f ts) k p (g.T.StepSink.state c.args.sink.now) (g.T.StepSink.state c.loop-tier.sink) (omega (arith, length-map ts f)) is c.loop-tier.invariant
    (g.T.StepSink.state c.derive_pieces.new.sink) (part_piece_ids p.kind p.tier p.guard) c.in_ok-derive_pieces.ensures

pub returns : goal.returns
returns g c =
    let f = part c.args.kind c.args.self.now.first in
    let ts = c.args.tiers.now in
    let k = c.loop-tier.tier-index in
    let old = g.T.StepSink.state c.args.sink.now in
    let now = g.T.StepSink.state c.loop-tier.sink in
    record {
      hands = turn_ends count_of ids_of piece_of (map f ts) k old now (omega (arith, length-map ts f)) c.loop-tier.invariant;
      next = turn_next_id count_of ids_of piece_of (map f ts) k old now (omega (arith, length-map ts f)) c.loop-tier.invariant;
    }
