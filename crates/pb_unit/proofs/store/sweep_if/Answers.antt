use Rattle.std.proofs.Common.{inl, inr, arith}
use Rattle.pb_unit.proofs.store.sweep_if.Goals as goal

pub returns-then-due : goal.returns-then-due
returns-then-due c = record {
  counts = c.sweep.ensures.counts;
  listed = λ p d at. elim (c.requires.listed p d at) [
    | inl enough ↦ inl (omega (arith, enough, c.sweep.ensures.alerts p d at))
    | inr there ↦ inr there
  ];
  even = c.sweep.ensures.even;
}
