use Rattle.std.proofs.Common.{◌∙◌, List, ap}
use Rattle.pb_family.proofs.Deriving.{steps_same}
use Rattle.pb_family.specs.Derivations.{in_turn}
use Rattle.pb_totalizer.specs.inner.BlockPieces.{block_count, block_piece}
use Rattle.pb_totalizer.specs.declared.block_parts.BlockPart.{BlockPart}
use Rattle.pb_totalizer.proofs.BlockHanding.{block_in_parts, block_counted}
use Rattle.pb_totalizer.proofs.block_parts.derive_all.Goals as goal

pub returns : goal.returns
returns g c =
    let lines = c.args.lines.now in
    let old = g.T.StepSink.state c.args.sink.now in
    let new = g.T.StepSink.state c.derive_parts.new.sink in
    let turn = λ (ps : List BlockPart). in_turn (λ (p : BlockPart). block_count p.kind p.lines.lines.row.last) (λ (p : BlockPart). 1) (λ (p : BlockPart). block_piece p.kind p.lines) old.next ps in
    record {
      hands = steps_same c.derive_parts.result _ _ old new (ap turn c.block_parts.ensures ∙ block_in_parts lines old.next) c.derive_parts.ensures.hands;
      next = block_counted lines c.derive_parts.result old.next new.next c.block_parts.ensures c.derive_parts.ensures.next;
    }
