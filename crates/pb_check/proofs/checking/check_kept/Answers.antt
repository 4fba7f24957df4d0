use Rattle.std.proofs.Common.{ap}
use Rattle.pb_check.specs.declared.kept.CollectedClauses.{CollectedClauses}
use Rattle.pb_check.proofs.KeepingRuns.{kept_all, kept_none}
use Rattle.pb_check.proofs.checking.check_kept.Goals as goal

pub check_by-requires-clause-nothing : goal.check_by-requires-clause-nothing
check_by-requires-clause-nothing g c = ap (λ (k : CollectedClauses). k.clauses) c.all-kept.ensures

pub returns-in-Accepted-clause-kept : goal.returns-in-Accepted-clause-kept
returns-in-Accepted-clause-kept g c =
    let a = g.D.Desk.state c.args.desk.now in
    let b = g.D.Desk.state c.check_by.new.desk in
    kept_all a b c.args.cnf c.in-Ok.found.0 c.in-Ok.found.1 c.in-Ok.found.2 c.in-Accepted.is (c.in-Ok.ensures.clauses (ap (λ (k : CollectedClauses). k.wanted) c.all-kept.ensures) c.in-Accepted.is)

pub returns-in-Rejected-clause-kept : goal.returns-in-Rejected-clause-kept
returns-in-Rejected-clause-kept g c =
    let a = g.D.Desk.state c.args.desk.now in
    let b = g.D.Desk.state c.check_by.new.desk in
    kept_none a b c.args.cnf c.in-Ok.found.0 c.in-Ok.found.1 _ _ _ c.in-Rejected.is c.new.ensures c.in-Ok.ensures.vars
