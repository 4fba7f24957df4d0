use Rattle.std.proofs.Common.{◌≡◌, take}
use base.Fml.{GName}
use Rattle.std.specs.List.{flat_map}
use Rattle.pb_family.specs.Sinks.{Takes}
use Rattle.pb_norm.specs.Constraints.{terms_of}
use Rattle.pb_dimacs.specs.Outboxes.{hard_sink, held_in}
use Rattle.pb_encode.proofs.CostTexts.{cost_line}
use Rattle.pb_encode.proofs.weighing.send_softs.Given as goal

abbrev pub invariant-loop-term : goal.invariant-loop-term
invariant-loop-term g l = record {
  items : l.terms ≡ terms_of l.objective.terms;
  taken : Takes (flat_map cost_line (take l.term-index l.terms)) (hard_sink {Name = GName × GName} (l.initial.writer.desk.ghost_name, l.initial.writer.outbox.ghost_name) l.initial.writer.slot (held_in l.initial.writer.outbox.now) (g.D.Desk.state l.initial.writer.desk.now)) (hard_sink {Name = GName × GName} (l.writer.desk.ghost_name, l.writer.outbox.ghost_name) l.writer.slot (held_in l.writer.outbox.now) (g.D.Desk.state l.writer.desk.now));
}
