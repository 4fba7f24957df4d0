use Rattle.std.proofs.Common.{◌≤◌, List, subst, sym, take, arith}
use Rattle.std.proofs.lemmas.List.{take_all}
use Rattle.std.proofs.lemmas.List.Elements.{All-push}
use Rattle.pb_base.specs.declared.literal.Term.{Term}
use Rattle.pb_norm.specs.Constraints.{Weighted, HasVarsWithin, weighted, weights}
use Rattle.pb_unit.proofs.Entering.{weights-more}
use Rattle.tests_calls.proofs.clauses.propagation.is_within.Goals as goal

pub loop-term-preserved : goal.loop-term-preserved
loop-term-preserved c =
    subst (HasVarsWithin c.args.vars) (sym (weights-more c.args.terms.now c.loop-term.term-index c.term-item.result c.loop-term-test.true c.term-item.is))
    (All-push (λ (t : Weighted). t.lit.var ≤ c.args.vars) (weights (take c.loop-term.term-index c.args.terms.now)) (weighted c.term-item.result) c.loop-term.invariant (omega (arith, c.if-index-vars.false, c.index.ensures)))

pub returns : goal.returns
returns c = λ _. subst (λ (ts : List Term). HasVarsWithin c.args.vars (weights ts)) (take_all c.loop-term.term-index c.args.terms.now (omega arith)) c.loop-term.invariant
