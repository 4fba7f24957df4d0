use Rattle.std.proofs.Common.{refl, arith}
use Rattle.pb_adder.proofs.Walking.{walked_from, walked_next, walked_fault, walked_ends}
use Rattle.pb_adder.proofs.Walks.{clause_piece, clauses_walk}
use Rattle.pb_adder.proofs.claims.derive_each.Goals as goal

pub loop-clause-init : goal.loop-clause-init
loop-clause-init g c =
    let old = g.T.StepSink.state c.args.sink.now in
    walked_from (clause_piece c.args.ids.now) 1 c.args.clauses.now old (clauses_walk c.args.ids.now old.next c.args.clauses.now)

pub returns-in_err-derive_propagated : goal.returns-in_err-derive_propagated
returns-in_err-derive_propagated g c =
    walked_fault c.clause-item.result c.loop-clause-test.true c.clause-item.is c.loop-clause.invariant c.from_residual.result _ (g.T.StepSink.state c.derive_propagated.new.sink) c.from_residual.ensures.1 c.in_err-derive_propagated.ensures

pub loop-clause-preserved : goal.loop-clause-preserved
loop-clause-preserved g c = walked_next c.clause-item.result c.loop-clause-test.true c.clause-item.is c.loop-clause.invariant (g.T.StepSink.state c.derive_propagated.new.sink) refl c.in_ok-derive_propagated.ensures

pub derive_propagated-requires : goal.derive_propagated-requires
derive_propagated-requires g c = record { few = omega (arith, c.loop-clause.invariant.next, c.loop-clause-test.true, c.requires.few) }

pub returns : goal.returns
returns g c = walked_ends (omega arith) c.loop-clause.invariant
