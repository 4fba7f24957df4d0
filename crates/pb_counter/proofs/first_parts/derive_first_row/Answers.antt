use Rattle.std.proofs.Common.{◌∙◌, List, ap}
use Rattle.pb_family.proofs.Deriving.{steps_same}
use Rattle.pb_family.specs.Derivations.{in_turn}
use Rattle.pb_counter.specs.inner.FirstPieces.{first_kinds, first_width, first_piece}
use Rattle.pb_counter.specs.declared.first_parts.FirstPart.{FirstPart}
use Rattle.pb_counter.proofs.FirstHanding.{first_in_parts, first_counted}
use Rattle.pb_counter.proofs.first_parts.derive_first_row.Goals as goal

pub returns : goal.returns
returns g c =
    let old = g.T.StepSink.state c.args.sink.now in
    let turn = λ (ps : List FirstPart). in_turn (λ (p : FirstPart). first_kinds p.kind p.row.last) (λ (p : FirstPart). first_width p.kind) (λ (p : FirstPart). first_piece p.kind p.row) old.next ps in
    record {
      hands = steps_same c.derive_parts.result _ _ old (g.T.StepSink.state c.derive_parts.new.sink)
          (ap turn c.first_parts.ensures ∙ first_in_parts c.args.row old.next c.requires.counts c.requires.starts c.requires.order c.requires.fronts)
          c.derive_parts.ensures.hands;
      next = first_counted c.args.row c.derive_parts.result old.next (g.T.StepSink.state c.derive_parts.new.sink).next c.first_parts.ensures c.derive_parts.ensures.next;
    }
