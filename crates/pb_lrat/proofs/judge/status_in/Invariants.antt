use Rattle.std.proofs.Common.{◌≡◌, drop, false}
use Rattle.pb_base.specs.declared.literal.Lit.{Lit}
use Rattle.pb_base.specs.Literals.{negated, is_among}
use Rattle.pb_lrat.specs.declared.judge.ClauseStatus.TheVariants.{Single}
use Rattle.pb_lrat.specs.Hints.{left_of}
use Rattle.pb_lrat.specs.inner.Looks.{kind_of}
use Rattle.pb_lrat.proofs.Judging.{left_after}
use Rattle.pb_lrat.proofs.judge.status_in.Given as goal

abbrev pub invariant-loop-lit : goal.invariant-loop-lit
invariant-loop-lit l = record {
  kind : kind_of (left_of l.trail l.clause) ≡ left_after l.left (left_of l.trail (drop l.lit-index l.clause));
  undecided : (k : Lit) → l.left ≡ Single k → is_among l.trail (negated k) ≡ false;
}
