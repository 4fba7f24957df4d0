use Rattle.std.proofs.Common.{◌∙◌, [], ◌∷◌, ap}
use Rattle.pb_base.specs.declared.literal.Lit.{Lit}
use Rattle.pb_base.specs.Literals.{negated}
use Rattle.pb_family.proofs.Emission.{two_literals, three_literals}
use Rattle.pb_counter.specs.declared.place.Place.TheVariants.{Start, Below, One, Keep, More, Stop}
use Rattle.pb_counter.proofs.CounterHanding.{emit_same}
use Rattle.pb_counter.proofs.grid.GridNumberedClauses.emit_one.Goals as goal

pub returns-in-Start : goal.returns-in-Start
returns-in-Start g c = emit_same c.args.self.now Start _ _ c.clause.result _ _ c.in-Start.ensures.is (two_literals _ _ _ _ c.not_at.ensures c.bit.ensures) c.clause.ensures

pub returns-in-Below : goal.returns-in-Below
returns-in-Below g c = emit_same c.args.self.now (Below c.in-Below.j) _ _ c.clause-in-Below.result _ _ c.in-Below.ensures.is (ap (λ (l : Lit). l ∷ []) (c.not.ensures ∙ ap negated c.bit-in-Below.ensures)) c.clause-in-Below.ensures

pub returns-in-One : goal.returns-in-One
returns-in-One g c = emit_same c.args.self.now (One c.in-One.i) _ _ c.clause-in-One.result _ _ c.in-One.ensures.is (two_literals _ _ _ _ c.not_at-in-One.ensures c.bit-in-One.ensures) c.clause-in-One.ensures

pub returns-in-Keep : goal.returns-in-Keep
returns-in-Keep g c = emit_same c.args.self.now (Keep c.in-Keep.i c.in-Keep.j) _ _ c.clause-in-Keep.result _ _ c.in-Keep.ensures.is (two_literals _ _ _ _ (c.not-in-Keep.ensures ∙ ap negated c.bit-in-Keep.ensures) c.bit-in-Keep-2.ensures) c.clause-in-Keep.ensures

pub returns-in-More : goal.returns-in-More
returns-in-More g c = emit_same c.args.self.now (More c.in-More.i c.in-More.j) _ _ c.clause-in-More.result _ _ c.in-More.ensures.is (three_literals _ _ _ _ _ _ c.not_at-in-More.ensures (c.not-in-More.ensures ∙ ap negated c.bit-in-More.ensures) c.bit-in-More-2.ensures) c.clause-in-More.ensures

pub returns-in-Stop : goal.returns-in-Stop
returns-in-Stop g c = emit_same c.args.self.now (Stop c.in-Stop.i) _ _ c.clause-in-Stop.result _ _ c.in-Stop.ensures.is (two_literals _ _ _ _ c.not_at-in-Stop.ensures (c.not-in-Stop.ensures ∙ ap negated c.bit-in-Stop.ensures)) c.clause-in-Stop.ensures
