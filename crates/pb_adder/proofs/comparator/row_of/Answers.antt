use Rattle.std.proofs.Common.{◌≤◌, ◌+◌, ◌^◌, ◌∙◌, ◌∷◌, [], ap, length, sym, arith, take}
use Rattle.std.proofs.lemmas.List.{length-set}
use Rattle.pb_base.specs.Literals.{negated}
use Rattle.pb_adder.specs.Comparator.{covering, end_needs}
use Rattle.pb_adder.specs.Gates.{wire_lit}
use Rattle.pb_adder.proofs.RowSteps.{clauses_with, rest_all, row_above, row_even, row_last, row_missing, row_odd}
use Rattle.pb_adder.proofs.comparator.row_of.Goals as goal
use Rattle.pb_adder.proofs.comparator.row_of.Goals.{then-bound-eq1+in-Some-end, else-bound-eq1}

pub loop-end-preserved : goal.loop-end-preserved
loop-end-preserved c =
    let split = c.in-Some.ensures.cases.0 in
    let shorter = c.in-Some.ensures.cases.1 in
    let room = c.loop-end.invariant.room in
    let whole = c.loop-end.invariant.whole in
    let all = clauses_with c.args.first (negated (wire_lit c.args.first c.args.wire.now) ∷ []) (covering c.args.bound c.args.above.now) in
    let fits = rest_all (λ e. c.args.first + end_needs e ≤ 2 ^ 31) c.in-Some.end.now c.loop-end.rest.now c.in-Some.others.now split c.loop-end.invariant.fits in
    elim c.if-bound-eq1.branch [
      | then-bound-eq1+in-Some-end w ↦ record {
        clauses = row_odd c.args.first c.loop-end.bound c.loop-end.len c.if-bound-eq1.len c.loop-end.lits c.if-bound-eq1.lits w.not.result w.in-Some-end.other c.in-Some.end.now c.loop-end.rest.now c.in-Some.others.now all (omega arith) w.if-bound-eq1.true w.in-Some-end.is split (w.not.ensures ∙ ap negated w.lit-in-Some-end.ensures) w.lits-is w.len-is c.loop-end.invariant.clauses;
        room = omega (arith, w.len-is);
        whole = ap length w.lits-is ∙ length-set c.loop-end.lits c.loop-end.len w.not.result ∙ whole;
        fits = fits;
      }
      | else-bound-eq1 w ↦ record {
        clauses = row_even c.args.first c.loop-end.bound c.loop-end.len c.if-bound-eq1.len c.loop-end.lits c.if-bound-eq1.lits c.in-Some.end.now c.loop-end.rest.now c.in-Some.others.now all w.if-bound-eq1.false split w.lits-is w.len-is c.loop-end.invariant.clauses;
        room = omega (arith, w.len-is);
        whole = ap length w.lits-is ∙ whole;
        fits = fits;
      }
    ]

pub returns-in-None : goal.returns-in-None
returns-in-None c =
    sym (row_missing c.args.first c.loop-end.bound c.args.bound (take c.loop-end.len c.loop-end.lits) c.args.wire.now c.in-Some.end.now c.loop-end.rest.now c.in-Some.others.now c.args.above.now c.if-bound-eq1.true c.in-None.is c.in-Some.ensures.cases.0 c.loop-end.invariant.clauses)

pub returns-then-bound-gt0 : goal.returns-then-bound-gt0
returns-then-bound-gt0 c =
    sym (row_above c.args.first c.loop-end.bound c.args.bound (take c.loop-end.len c.loop-end.lits) c.args.wire.now c.loop-end.rest.now c.args.above.now c.if-bound-gt0.true c.in_default.ensures.cases c.loop-end.invariant.clauses)

pub returns : goal.returns
returns c =
    sym (row_last c.args.first c.loop-end.bound c.args.bound (take c.loop-end.len c.loop-end.lits) c.args.wire.now c.loop-end.rest.now c.args.above.now (omega arith) c.in_default.ensures.cases c.loop-end.invariant.clauses)
