use Rattle.std.proofs.Common.{◌≡◌, drop}
use Rattle.pb_lrat.specs.inner.Looks.{hints_deny}
use Rattle.pb_lrat.proofs.judge.denied_by.Given as goal

abbrev pub invariant-loop-id : goal.invariant-loop-id
invariant-loop-id l = hints_deny l.store.live l.hints l.fn.allowed l.initial.trail ≡ hints_deny l.store.live (drop l.id-index l.hints) l.allowed l.trail
