use Rattle.std.specs.Prelude.{map}
use Rattle.pb_derive.specs.Claims.{claim_steps}
use Rattle.pb_derive.specs.Rups.{by_rup}
use Rattle.pb_adder.proofs.Walking.{Walked}
use Rattle.pb_adder.proofs.Walks.{clause_piece}
use Rattle.pb_adder.proofs.claims.derive_each.Given as goal

abbrev pub invariant-loop-clause : goal.invariant-loop-clause
invariant-loop-clause g l =
    let old = g.T.StepSink.state l.fn.sink in
    Walked (clause_piece l.ids) 1 (claim_steps old.next (map (by_rup l.ids) l.clauses)) l.clauses l.clause-index old (g.T.StepSink.state l.sink)
