use Rattle.std.proofs.Common.{◌-◌, length, sym}
use Rattle.pb_derive.specs.Deletions.{deletion_steps}
use Rattle.pb_family.proofs.Deriving.{deriving_from, deriving_step, steps_fault, steps_last}
use Rattle.pb_amo.proofs.LadderHanding.{parts_steps, ladder_in_parts}
use Rattle.pb_amo.proofs.rung_parts.derive_ladder.Goals as goal

pub returns-in_err-derive_parts : goal.returns-in_err-derive_parts
returns-in_err-derive_parts g c =
    let s = c.args.steps in
    let old = g.T.StepSink.state c.args.sink.now in
    steps_fault c.from_residual.result _ (parts_steps s old.next) (deletion_steps 3 s.base (length s.rungs.terms.now - 1)) (g.T.StepSink.state c.derive_parts.new.sink) c.from_residual.ensures.1
    (deriving_from old (sym (ladder_in_parts s old.next c.requires.base))) c.in_err-derive_parts.ensures.hands

pub returns : goal.returns
returns g c =
    let s = c.args.steps in
    let old = g.T.StepSink.state c.args.sink.now in
    steps_last c.derive_deletions.result (deletion_steps 3 s.base (length s.rungs.terms.now - 1)) (g.T.StepSink.state c.derive_deletions.new.sink)
    (deriving_step {left = deletion_steps 3 s.base (length s.rungs.terms.now - 1)} (parts_steps s old.next) (g.T.StepSink.state c.derive_parts.new.sink) (deriving_from old (sym (ladder_in_parts s old.next c.requires.base))) c.in_ok-derive_parts.ensures.hands)
    c.derive_deletions.ensures
