use Rattle.std.proofs.Common.{ap, arith}
use Rattle.std.proofs.lemmas.Result.{IfOk-from_err}
use Rattle.pb_norm.specs.BoundedSums.{BoundedSum}
use Rattle.pb_diagram.specs.Clauses.{diagram_clauses, diagram_fresh, diagram_size}
use Rattle.pb_diagram.proofs.diagram.Diagram.build.Goals as goal

pub known_levels-requires : goal.known_levels-requires
known_levels-requires c = record { fits = c.requires.light; small = c.requires.modest }

pub returns-in_err-known : goal.returns-in_err-known
returns-in_err-known c =
    let no = c.from_residual.ensures.0 in
    record { over = IfOk-from_err _ _ no; constraint = IfOk-from_err _ _ no; fresh = IfOk-from_err _ _ no; clauses = IfOk-from_err _ _ no; list = IfOk-from_err _ _ no }

pub of_nodes-requires : goal.of_nodes-requires
of_nodes-requires c =
    let all = rw c.in-Some.is at c.in_ok-known.ensures in
    record { light = c.requires.light; all = all.0; few = omega (arith, all.1, c.requires.modest) }

pub returns-in_err-of_nodes-in-Some : goal.returns-in_err-of_nodes-in-Some
returns-in_err-of_nodes-in-Some c =
    let no = c.from_residual-in_err-of_nodes-in-Some.ensures.0 in
    record { over = IfOk-from_err _ _ no; constraint = IfOk-from_err _ _ no; fresh = IfOk-from_err _ _ no; clauses = IfOk-from_err _ _ no; list = IfOk-from_err _ _ no }

pub returns-in_ok-of_nodes-in-Some : goal.returns-in_ok-of_nodes-in-Some
returns-in_ok-of_nodes-in-Some c =
    let all = rw c.in-Some.is at c.in_ok-known.ensures in
    let same = c.in_ok-of_nodes-in-Some.ensures in
    record { over = all.1; constraint = same; fresh = ap diagram_fresh same; clauses = ap diagram_size same; list = λ first. ap (λ (m : BoundedSum). diagram_clauses m first) same }

pub returns-in-None : goal.returns-in-None
returns-in-None c = record { over = rw c.in-None.is at c.in_ok-known.ensures; constraint = tt; fresh = tt; clauses = tt; list = tt }
