use Rattle.std.proofs.Common.{◌≤◌, ◌∙◌, ℕ, [], List, arith, ap, refl, sym, subst}
use Rattle.std.specs.Prelude.{Contains}
use Rattle.std.proofs.lemmas.List.{take_all}
use Rattle.pb_base.specs.declared.literal.Lit.{Lit}
use Rattle.pb_norm.specs.Propagation.{Reached}
use Rattle.pb_norm.proofs.Rooms.{IsPart}
use Rattle.pb_unit.specs.Trails.{Held}
use Rattle.pb_unit.specs.States.{standing}
use Rattle.pb_unit.proofs.Passing.{given_part, given_reached, given_more, given_undecided, none_part, none_reached, part_consistent}
use Rattle.pb_unit.proofs.passes.hold_all.Goals as goal

pub loop-lit-init : goal.loop-lit-init
loop-lit-init c = record {
  vars = refl;
  reached = λ cs. none_reached cs c.args.held.now.lits c.args.lits.now c.requires.none;
  part = none_part c.args.held.now.lits c.args.lits.now c.requires.none;
  so_far = none_part [] c.args.held.now.lits refl;
}

pub add-requires-clause-within : goal.add-requires-clause-within
add-requires-clause-within c =
    let within = c.requires.within c.loop-lit.lit-index c.lit-item.result (omega arith) in
    let near = subst (λ (l : Lit). l.var ≤ c.args.held.now.vars) (sym c.lit-item.is) within in
    subst (λ (vars : ℕ). c.lit-item.result.var ≤ vars) (sym c.loop-lit.invariant.vars) near

pub add-requires-clause-undecided : goal.add-requires-clause-undecided
add-requires-clause-undecided c =
    let here : Contains c.args.lits.now c.lit-item.result = (c.loop-lit.lit-index, c.loop-lit-test.true, sym c.lit-item.is) in
    given_undecided c.lit-item.result c.loop-lit.held.lits c.args.lits.now c.requires.consistent here c.loop-lit.invariant.part

pub loop-lit-preserved : goal.loop-lit-preserved
loop-lit-preserved c =
    let l = c.lit-item.result in
    let given = c.args.lits.now in
    let here : Contains given l = (c.loop-lit.lit-index, c.loop-lit-test.true, sym c.lit-item.is) in
    let lits = ap (λ (h : Held). h.lits) c.add.ensures in
    record {
      vars = ap (λ (h : Held). h.vars) c.add.ensures ∙ c.loop-lit.invariant.vars;
      reached = λ cs. subst (Reached cs given) (sym lits) (given_reached cs l c.loop-lit.held.lits given here (c.loop-lit.invariant.reached cs));
      part = subst (λ (ls : List Lit). IsPart ls given) (sym lits) (given_part l c.loop-lit.held.lits given here c.loop-lit.invariant.part);
      so_far = subst (IsPart _) (sym lits) (given_more l c.loop-lit.held.lits given c.loop-lit.lit-index c.loop-lit-test.true c.lit-item.is c.loop-lit.invariant.so_far);
    }

pub returns-clause-reached : goal.returns-clause-reached
returns-clause-reached c = λ ps. record {
  reached = c.loop-lit.invariant.reached (standing ps);
  assumed = subst (λ (ls : List Lit). IsPart ls c.loop-lit.held.lits) (take_all c.loop-lit.lit-index c.args.lits.now c.loop-lit-test.false) c.loop-lit.invariant.so_far;
  consistent = part_consistent c.loop-lit.held.lits c.args.lits.now c.requires.consistent c.loop-lit.invariant.part;
}
