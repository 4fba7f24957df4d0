use Rattle.std.proofs.Common.{◌∙◌}
use Rattle.pb_database.proofs.Showings.{shows_more, shows_no_more, shows_all}
use Rattle.pb_database.proofs.rounds.show_others.Goals as goal

pub returns-then-not-show-clause-shows : goal.returns-then-not-show-clause-shows
returns-then-not-show-clause-shows c =
    shows_no_more c.show.result c.args.constraints.now c.loop-constraint.constraint-index c.constraint-item.result c.args.rounds.now.lits c.loop-constraint.rounds.lits c.show.new.self.lits c.loop-constraint-test.true c.constraint-item.is c.if-not-show.true c.loop-constraint.invariant.shows
    c.show.ensures.advances c.show.ensures.calm c.show.ensures.short

pub loop-constraint-preserved : goal.loop-constraint-preserved
loop-constraint-preserved c = record {
  vars = c.show.ensures.vars ∙ c.loop-constraint.invariant.vars;
  shows = shows_more c.show.result c.args.constraints.now c.loop-constraint.constraint-index c.constraint-item.result c.args.rounds.now.lits c.loop-constraint.rounds.lits c.show.new.self.lits c.loop-constraint-test.true c.constraint-item.is c.if-not-show.false c.loop-constraint.invariant.shows
      c.show.ensures.advances c.show.ensures.calm c.show.ensures.short;
}

pub returns-clause-shows : goal.returns-clause-shows
returns-clause-shows c = shows_all c.args.constraints.now c.loop-constraint.constraint-index c.args.rounds.now.lits c.loop-constraint.rounds.lits c.loop-constraint-test.false c.loop-constraint.invariant.shows
