use Rattle.std.proofs.Common.{◌≡◌, ◌+◌, ℕ, List, subst}
use Rattle.std.specs.Prelude.{IfOk}
use Rattle.pb_base.specs.declared.literal.Lit.{Lit}
use Rattle.pb_family.specs.Handing.{HandsIfMemory}
use Rattle.pb_family.proofs.Emission.{emitting_starts}
use Rattle.pb_family.proofs.Stopping.{stops_between}
use Rattle.pb_encode.proofs.GroupParts.{parts_of}
use Rattle.pb_encode.proofs.streaming.stream_group.Goals as goal

pub returns-in_err-plan-clause-hands : goal.returns-in_err-plan-clause-hands
returns-in_err-plan-clause-hands g c = stops_between c.from_residual.result c.from_residual.ensures.1 (emitting_starts _ _)

pub emit-requires-clause-original : goal.emit-requires-clause-original
emit-requires-clause-original g c = (parts_of c.args.options.now c.args.group.now c.in_ok-plan.plan c.in_ok-plan.ensures).below c.args.first c.requires.sound.below

pub returns-clause-next : goal.returns-clause-next
returns-clause-next g c =
    subst (λ (n : ℕ). IfOk c.emit.result (λ next. next ≡ c.args.first + n)) (parts_of c.args.options.now c.args.group.now c.in_ok-plan.plan c.in_ok-plan.ensures).fresh_is c.emit.ensures.next

pub returns-clause-hands : goal.returns-clause-hands
returns-clause-hands g c =
    subst (λ (ls : List (List Lit)). HandsIfMemory ls c.emit.result (g.S.ClauseSink.state c.args.sink.now) (g.S.ClauseSink.state c.emit.new.sink))
    ((parts_of c.args.options.now c.args.group.now c.in_ok-plan.plan c.in_ok-plan.ensures).clauses_are c.args.first) c.emit.ensures.hands
