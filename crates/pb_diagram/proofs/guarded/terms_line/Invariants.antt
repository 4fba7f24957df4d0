use Rattle.std.proofs.Common.{◌≡◌, ◌++◌, ◌∷◌, drop}
use Rattle.pb_norm.specs.Constraints.{weights}
use Rattle.pb_steps.specs.declared.op.PolOp.TheVariants.{Axiom, Weaken}
use Rattle.pb_family.specs.Fresh.{positive_of}
use Rattle.pb_diagram.specs.GuardedSteps.{all_terms}
use Rattle.pb_diagram.proofs.guarded.terms_line.Given as goal

-- what was pushed, and the terms from here on
abbrev pub invariant-loop-term : goal.invariant-loop-term
invariant-loop-term l = l.ops.items ++ all_terms (drop l.term-index (weights l.terms)) ≡ Axiom (positive_of l.fn.var) ∷ Weaken l.fn.var ∷ all_terms (weights l.terms)
