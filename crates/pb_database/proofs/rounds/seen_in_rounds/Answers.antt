use Rattle.std.proofs.Common.{◌≡◌, ◌∙◌, ◌∷◌, length, arith}
use Rattle.pb_database.proofs.Showings.{round_on, tells_short, tells_calm}
use Rattle.pb_database.proofs.rounds.seen_in_rounds.Goals as goal

pub returns-then-not-show_all-clause-answer : goal.returns-then-not-show_all-clause-answer
returns-then-not-show_all-clause-answer c =
    tells_short c.show_all.result (c.args.more.now ∷ c.args.constraints.now) c.loop-round.rounds.lits c.show_all.new.rounds.lits c.if-not-show_all.true c.loop-round.invariant.advances c.show_all.ensures.shows

pub returns-then-len-before-clause-answer : goal.returns-then-len-before-clause-answer
returns-then-len-before-clause-answer c =
    let count : length c.show_all.new.rounds.lits ≡ length c.loop-round.rounds.lits = omega (arith, c.len.ensures, c.len-before.ensures, c.if-len-before.true) in
    tells_calm c.show_all.result (c.args.more.now ∷ c.args.constraints.now) c.loop-round.rounds.lits c.show_all.new.rounds.lits c.if-not-show_all.false c.loop-round.invariant.advances c.show_all.ensures.shows count

pub loop-round-preserved : goal.loop-round-preserved
loop-round-preserved c = record {
  vars = c.show_all.ensures.vars ∙ c.loop-round.invariant.vars;
  advances = round_on c.show_all.result (c.args.more.now ∷ c.args.constraints.now) c.loop-round.rounds.lits c.show_all.new.rounds.lits c.loop-round.invariant.advances c.show_all.ensures.shows;
}
