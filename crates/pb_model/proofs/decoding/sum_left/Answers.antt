use Rattle.std.proofs.Common.{◌≤◌, length, arith, subst}
use Rattle.std.proofs.lemmas.Int.{ints}
use Rattle.std.proofs.lemmas.List.Elements.{All-tail}
use Rattle.pb_base.specs.declared.literal.Term.{Term}
use Rattle.pb_base.specs.Literals.{assigned_by}
use Rattle.pb_model.specs.Decoding.{AreVarsWithin}
use Rattle.pb_model.proofs.Sums.{first_of}
use Rattle.pb_model.proofs.decoding.sum_left.Goals as goal

pub overflow_add-sum : goal.overflow_add-sum
overflow_add-sum c =
    let first = first_of (assigned_by c.args.values.now) c.loop-term.term-iterator c.next.new.self c.in-Some.term c.in-Some.ensures.steps in
    omega (arith, ints, first.size, first.high, first.low, c.term_value-sum.ensures, c.loop-term.invariant.high, c.loop-term.invariant.low, c.requires.numbers)

pub loop-term-preserved : goal.loop-term-preserved
loop-term-preserved c =
    let vars = length c.args.values.now in
    let first = first_of (assigned_by c.args.values.now) c.loop-term.term-iterator c.next.new.self c.in-Some.term c.in-Some.ensures.steps in
    record {
      vars = All-tail (λ (t : Term). t.lit.var ≤ vars) c.in-Some.term c.next.new.self (subst (AreVarsWithin vars) c.in-Some.ensures.steps c.loop-term.invariant.vars);
      high = omega (arith, ints, first.size, first.high, first.low, c.term_value-sum.ensures, c.loop-term.invariant.high, c.loop-term.invariant.low, c.requires.numbers);
      low = omega (arith, ints, first.size, first.high, first.low, c.term_value-sum.ensures, c.loop-term.invariant.high, c.loop-term.invariant.low, c.requires.numbers);
      whole = omega (arith, ints, first.size, first.high, first.low, first.value, c.term_value-sum.ensures, c.loop-term.invariant.high, c.loop-term.invariant.low, c.loop-term.invariant.whole, c.requires.numbers);
    }
