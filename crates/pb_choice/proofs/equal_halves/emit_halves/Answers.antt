use Rattle.std.proofs.Common.{◌<◌, ◌+◌, ℕ, List, ap, sym, subst, arith}
use Rattle.std.proofs.lemmas.List.Elements.{All-weaker}
use Rattle.pb_base.specs.declared.literal.Lit.{Lit}
use Rattle.pb_norm.specs.Constraints.{Weighted}
use Rattle.pb_family.proofs.Emission.{Emitting, emitting_starts, emitting_step}
use Rattle.pb_family.proofs.Stopping.{stops_fault, stops_last}
use Rattle.pb_choice.specs.HalfPlans.{halves_clauses, plan_clauses, plan_fresh}
use Rattle.pb_choice.proofs.equal_halves.emit_halves.Goals as goal

pub returns-in_err-emit : goal.returns-in_err-emit
returns-in_err-emit g c =
    let l = c.args.lower.now in
    let u = c.args.upper.now in
    stops_fault c.from_residual.result _ (plan_clauses l c.args.first) (plan_clauses u (c.args.first + plan_fresh l)) _ c.from_residual.ensures.1
    (emitting_starts (halves_clauses l u c.args.first) (g.S.ClauseSink.state c.args.sink.now)) c.in_err-emit.ensures

pub emit-requires : goal.emit-requires
emit-requires g c = record { original = c.requires.ready.original.0; low = c.requires.ready.from; fits = omega (arith, c.requires.ready.fits) }

pub emit-requires-2 : goal.emit-requires-2
emit-requires-2 g c = record {
  original = All-weaker (λ (t : Weighted). t.lit.var < c.args.first) (λ (t : Weighted). t.lit.var < c.args.first + c.counts.result.fresh) (λ t h. omega (arith, h)) c.args.upper.now.constraint.now.terms c.requires.ready.original.1;
  low = omega (arith, c.requires.ready.from);
  fits = omega (arith, c.counts.ensures.fresh, c.requires.ready.fits);
}

pub returns : goal.returns
returns g c =
    let l = c.args.lower.now in
    let u = c.args.upper.now in
    let a = g.S.ClauseSink.state c.args.sink.now in
    let b = g.S.ClauseSink.state c.emit.new.sink in
    let same = ap (λ (n : ℕ). plan_clauses u (c.args.first + n)) (sym c.counts.ensures.fresh) in
    let left : Emitting (halves_clauses l u c.args.first) (plan_clauses u (c.args.first + plan_fresh l)) a b =
    emitting_step (plan_clauses l c.args.first) b (emitting_starts (halves_clauses l u c.args.first) a) c.in_ok-emit.ensures in
    stops_last c.emit-2.result (plan_clauses u (c.args.first + c.counts.result.fresh)) _ (subst (λ (cs : List (List Lit)). Emitting (halves_clauses l u c.args.first) cs a b) same left) c.emit-2.ensures
