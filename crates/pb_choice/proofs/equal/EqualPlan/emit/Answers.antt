use Rattle.std.proofs.Common.{ap, sym, subst, arith}
use Rattle.pb_family.specs.Handing.{HandsIfMemory}
use Rattle.pb_choice.specs.declared.equal.EqualPlan.{EqualPlan}
use Rattle.pb_choice.specs.EqualPlans.{IsPlannedBelow, planned_clauses, planned_fresh}
use Rattle.pb_choice.specs.inner.Ready.{MayEmit}
use Rattle.pb_choice.proofs.equal.EqualPlan.emit.Goals as goal

pub emit-requires : goal.emit-requires
emit-requires g c = record {
  original = subst (IsPlannedBelow c.args.first) c.in-Joint.is c.requires.original;
  low = c.requires.low;
  fits = omega (arith, c.requires.fits, ap planned_fresh c.in-Joint.is);
}

pub returns-in-Joint : goal.returns-in-Joint
returns-in-Joint g c =
    let a = g.S.ClauseSink.state c.args.sink.now in
    let b = g.S.ClauseSink.state c.emit.new.sink in
    subst (λ (p : EqualPlan). HandsIfMemory (planned_clauses p c.args.first) c.emit.result a b) (sym c.in-Joint.is) c.emit.ensures.hands

pub emit_halves-requires : goal.emit_halves-requires
emit_halves-requires g c =
    let all : MayEmit c.args.first c.args.self.now = record { original = c.requires.original; from = c.requires.low; fits = c.requires.fits } in
    record { ready = subst (MayEmit c.args.first) c.in-Split.is all }

pub returns-in-Split : goal.returns-in-Split
returns-in-Split g c =
    let a = g.S.ClauseSink.state c.args.sink.now in
    let b = g.S.ClauseSink.state c.emit_halves.new.sink in
    subst (λ (p : EqualPlan). HandsIfMemory (planned_clauses p c.args.first) c.emit_halves.result a b) (sym c.in-Split.is) c.emit_halves.ensures
