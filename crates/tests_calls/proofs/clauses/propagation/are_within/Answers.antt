use Rattle.std.proofs.Common.{subst, arith}
use Rattle.std.proofs.lemmas.List.{take_all}
use Rattle.std.proofs.lemmas.List.Elements.{All-more}
use Rattle.pb_norm.specs.Constraints.{Constraint, AreVarsWithin, HasVarsWithin}
use Rattle.tests_calls.proofs.clauses.propagation.are_within.Goals as goal

pub loop-constraint-preserved : goal.loop-constraint-preserved
loop-constraint-preserved c =
    let P : Constraint → Type 0 = λ d. HasVarsWithin c.args.vars d.terms in
    let here : P c.constraint-item.result = subst (HasVarsWithin c.args.vars) c.terms.ensures.weights (c.is_within.ensures c.if-not-is_within.false) in
    All-more P c.args.constraints.now c.loop-constraint.constraint-index c.constraint-item.result c.loop-constraint-test.true c.loop-constraint.invariant (subst P c.constraint-item.is here)

pub returns : goal.returns
returns c = λ _. subst (AreVarsWithin c.args.vars) (take_all c.loop-constraint.constraint-index c.args.constraints.now (omega arith)) c.loop-constraint.invariant
