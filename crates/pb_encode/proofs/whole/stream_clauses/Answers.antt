use Rattle.std.proofs.Common.{[], List, append-nil, subst, sym}
use Rattle.pb_base.specs.declared.literal.Lit.{Lit}
use Rattle.pb_family.proofs.Emission.{Emitting, emitting_starts}
use Rattle.pb_family.proofs.Stopping.{stops_between, stops_fault}
use Rattle.pb_encode.specs.Clauses.{problem_clauses}
use Rattle.pb_encode.proofs.whole.stream_clauses.Goals as goal

pub returns-in_err-counts-clause-hands : goal.returns-in_err-counts-clause-hands
returns-in_err-counts-clause-hands g c =
    stops_between c.from_residual.result c.from_residual.ensures.1 (emitting_starts (problem_clauses c.args.options.now c.args.problem.now) _)

pub returns-in_err-hand_told_clauses-clause-hands : goal.returns-in_err-hand_told_clauses-clause-hands
returns-in_err-hand_told_clauses-clause-hands g c =
    let all = problem_clauses c.args.options.now c.args.problem.now in
    let old = g.S.ClauseSink.state c.args.sink.now in
    stops_fault c.from_residual-in_err-hand_told_clauses.result c.in_err-hand_told_clauses.field-0.0 all [] (g.S.ClauseSink.state c.hand_told_clauses.new.sink) c.from_residual-in_err-hand_told_clauses.ensures.1
    (subst (λ (cs : List (List Lit)). Emitting all cs old old) (sym (append-nil all)) (emitting_starts all old)) c.in_err-hand_told_clauses.ensures
