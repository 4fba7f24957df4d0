use Rattle.pb_unit.proofs.reaching.reached_over.Goals as goal

pub reached_within-requires-clause-tables : goal.reached_within-requires-clause-tables
reached_within-requires-clause-tables c = rw c.in-Some.is at c.modest_greatest.ensures
