use Rattle.std.proofs.Common.{subst, sym}
use Rattle.pb_unit.specs.Reaching.{held_to, AreReachedOver}
use Rattle.pb_unit.proofs.reaching.reached_within.Goals as goal

pub returns-in-None : goal.returns-in-None
returns-in-None c = rw c.in-None.is at c.in_ok-held_over.ensures

pub returns-in_ok-all_held-in-Some : goal.returns-in_ok-all_held-in-Some
returns-in_ok-all_held-in-Some c =
    let found : AreReachedOver c.args.forms c.args.given.now (held_to c.in-Some.held.lits c.args.vars) = rw c.in-Some.is at c.in_ok-held_over.ensures in
    subst (AreReachedOver c.args.forms c.args.given.now) (sym c.in_ok-all_held-in-Some.ensures) found
