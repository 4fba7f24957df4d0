use Rattle.pb_norm.specs.Constraints.{weighted}
use Rattle.pb_family.proofs.Emission.{Emitting}
use Rattle.pb_diagram.specs.Clauses.{level_clauses}
use Rattle.pb_diagram.proofs.LevelSteps.{level_left}
use Rattle.pb_diagram.proofs.emission.Numbered.emit_level.Given as goal

-- the clauses of the nodes from here on are left
abbrev pub invariant-loop-place : goal.invariant-loop-place
invariant-loop-place g l =
    let sink = g.S.ClauseSink in
    Emitting (level_clauses (weighted l.self.layer.term.now) l.self.layer.whole l.self.after l.self.layer.next.now l.self.first l.self.layer.nodes.now)
    (level_left (weighted l.self.layer.term.now) l.self.layer.whole l.self.after l.self.layer.next.now l.self.first l.self.layer.nodes.now l.place) (sink.state l.fn.sink) (sink.state l.sink)
