use Rattle.std.proofs.Common.{◌-◌, take, drop, arith}
use Rattle.std.proofs.lemmas.List.{take_all}
use Rattle.pb_family.proofs.Taking.{takes_nothing, then_takes, takes_same}
use Rattle.pb_dimacs.specs.Outboxes.{held_in}
use Rattle.pb_dimacs.specs.inner.WriteBufferSinks.{sink_of}
use Rattle.pb_dimacs.proofs.Holding.{part_fails, still_open}
use Rattle.pb_dimacs.proofs.Lines.{take_on, take_parts}
use Rattle.pb_dimacs.proofs.writing.put_text.Goals as goal

pub loop-at-init : goal.loop-at-init
loop-at-init g c = record { is_open = c.requires.open; not_finished = c.requires.not_finished; within = omega arith; taken = takes_nothing _ }

pub returns-in_err-put_piece-clause-hands : goal.returns-in_err-put_piece-clause-hands
returns-in_err-put_piece-clause-hands g c =
    let text = c.args.text.now in
    let at = c.loop-at.at in
    let count = c.min-end.result - at in
    part_fails c.from_residual.result _ text (take at text) (take count (drop at text)) (drop count (drop at text)) _ _ _ (take_parts text at c.min-end.result) c.from_residual.ensures.1 c.loop-at.invariant.taken c.in_err-put_piece.ensures.hands

pub loop-at-preserved : goal.loop-at-preserved
loop-at-preserved g c =
    let piece = take (c.min-end.result - c.loop-at.at) (drop c.loop-at.at c.args.text.now) in
    record {
      is_open = still_open c.args.slot piece (held_in c.loop-at.outbox) (held_in c.put_piece.new.outbox) (g.D.Desk.state c.loop-at.desk) (g.D.Desk.state c.put_piece.new.desk) c.in_ok-put_piece.ensures.hands.grows c.loop-at.invariant.is_open;
      within = omega arith;
      not_finished = c.put_piece.ensures.not_finished;
      taken = takes_same _ _ _ _ (take_on c.args.text.now c.loop-at.at c.min-end.result (omega arith)) (then_takes (take c.loop-at.at c.args.text.now) piece _ _ _ c.loop-at.invariant.taken c.in_ok-put_piece.ensures.hands);
    }

pub returns-clause-hands : goal.returns-clause-hands
returns-clause-hands g c =
    let text = c.args.text.now in
    let s0 = sink_of c.args.slot c.args.outbox.now (g.D.Desk.state c.args.desk.now) in
    let s1 = sink_of c.args.slot c.loop-at.outbox (g.D.Desk.state c.loop-at.desk) in
    takes_same _ text s0 s1 (take_all c.loop-at.at text (omega arith)) c.loop-at.invariant.taken
