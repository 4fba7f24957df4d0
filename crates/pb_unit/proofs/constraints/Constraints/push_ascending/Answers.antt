use Rattle.std.proofs.Common.{◌<◌, ◌^◌, length, rules}
use Rattle.pb_unit.specs.inner.Slots.{clause_of}
use Rattle.pb_norm.specs.ClauseForm.{clause_form}
use Rattle.pb_unit.proofs.Clausal.{clause-is, clause-linear, standing_pushed}
use Rattle.pb_unit.proofs.Listing.{whole_pushed}
use Rattle.pb_unit.proofs.constraints.Constraints.push_ascending.Goals as goal

pub invariant_of-self : goal.invariant_of-self
invariant_of-self c =
    let clause = c.args.clause.now in
    let short : length clause < 2 ^ 64 = search rules in
    whole_pushed c.push_clause.result c.self.inside.places c.push_clause.new.self (clause_of clause) c.self.invariant (clause-linear clause (c.ascend.ensures c.if-ascend.true) short) c.push_clause.ensures

pub returns-then-ascend : goal.returns-then-ascend
returns-then-ascend c =
    let clause = c.args.clause.now in
    standing_pushed c.push_clause.result c.self.inside.places c.push_clause.new.self (clause_of clause) (clause_form clause) c.args.self.now c.push_clause.ensures c.self.view_is (clause-is clause (c.ascend.ensures c.if-ascend.true))
