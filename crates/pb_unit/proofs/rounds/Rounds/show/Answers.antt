use Rattle.std.proofs.Common.{◌≤◌, ℕ, subst, arith}
use Rattle.std.specs.Bool.{OnTrue}
use Rattle.pb_norm.specs.Propagation.{room}
use Rattle.pb_unit.specs.Steps.{Advances, IsCalm}
use Rattle.pb_unit.specs.Trails.{Held}
use Rattle.pb_unit.proofs.Visits.{shown_advanced, shown_calm, shown_short}
use Rattle.pb_unit.proofs.rounds.Rounds.show.Goals as goal

pub returns-clause-advances : goal.returns-clause-advances
returns-clause-advances c = λ cs given known.
    let bound : room c.self.inside.held.lits c.args.constraint.now.terms ≤ c.room_under-left.result = omega (arith, c.room_under-left.ensures) in
    subst (λ (h : Held). Advances cs given h.lits c.visit.new.held.lits) c.self.view_is
    (shown_advanced c.visit.result cs given c.room_under-left.result c.args.constraint.now c.self.inside.held c.visit.new.held known bound c.visit.ensures.short c.visit.ensures.joined)

pub returns-clause-calm : goal.returns-clause-calm
returns-clause-calm c =
    subst (λ (h : Held). OnTrue c.visit.result (IsCalm (room h.lits c.args.constraint.now.terms) c.visit.new.held.lits c.args.constraint.now)) c.self.view_is
    (subst (λ (r : ℕ). OnTrue c.visit.result (IsCalm r c.visit.new.held.lits c.args.constraint.now)) c.room_under-left.ensures
    (shown_calm c.visit.result c.room_under-left.result c.args.constraint.now c.self.inside.held.lits c.visit.new.held.lits c.visit.ensures.joined))

pub returns-clause-short : goal.returns-clause-short
returns-clause-short c =
    let bound : room c.self.inside.held.lits c.args.constraint.now.terms ≤ c.room_under-left.result = omega (arith, c.room_under-left.ensures) in
    shown_short c.visit.result c.room_under-left.result c.args.constraint.now c.self.inside.held c.visit.new.held bound c.visit.ensures.short
