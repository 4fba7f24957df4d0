use Rattle.std.proofs.Common.{take}
use Rattle.std.specs.Prelude.{All}
use Rattle.pb_rules.specs.inner.Tops.{IsWeakening}
use Rattle.pb_rules.proofs.pol.weakenings_in_front.Given as goal

abbrev pub invariant-loop-place : goal.invariant-loop-place
invariant-loop-place l = All IsWeakening (take l.place l.ops)
