use Rattle.pb_database.proofs.Showings.{shows_not_first, shows_first}
use Rattle.pb_database.proofs.rounds.show_all.Goals as goal

pub returns-then-not-show-clause-shows : goal.returns-then-not-show-clause-shows
returns-then-not-show-clause-shows c =
    shows_not_first c.show.result c.args.more.now c.args.constraints.now c.args.rounds.now.lits c.show.new.self.lits c.if-not-show.true c.show.ensures.advances c.show.ensures.calm c.show.ensures.short

pub returns-clause-shows : goal.returns-clause-shows
returns-clause-shows c =
    shows_first c.show.result c.show_others.result c.args.more.now c.args.constraints.now c.args.rounds.now.lits c.show.new.self.lits c.show_others.new.rounds.lits c.if-not-show.false c.show.ensures.advances c.show.ensures.calm c.show.ensures.short c.show_others.ensures.shows
