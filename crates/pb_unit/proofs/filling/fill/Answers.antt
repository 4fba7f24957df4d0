use Rattle.std.proofs.Common.{◌∙◌, map, arith}
use Rattle.pb_unit.specs.inner.Filling.{terms_in}
use Rattle.pb_unit.proofs.Fillings.{all_filled, ranged_filled, ranged_known}
use Rattle.pb_unit.proofs.filling.fill.Goals as goal

pub loop-low-preserved : goal.loop-low-preserved
loop-low-preserved c = record {
  size = c.if-not-fill.ensures.size ∙ c.loop-low.invariant.size;
  filled = ranged_filled c.loop-low.low _ c.loop-low.lists c.fill.new.lists (map terms_in c.args.places.now) c.if-not-fill.ensures c.loop-low.invariant.filled;
  known = ranged_known c.loop-low.low _ c.loop-low.lists c.fill.new.lists (map terms_in c.args.places.now) c.if-not-fill.ensures c.loop-low.invariant.known;
  rest = λ m past. c.if-not-fill.ensures.others m (λ r. omega (arith, r.below, past)) ∙ c.loop-low.invariant.rest m (omega (arith, past));
}

pub returns : goal.returns
returns c =
    all_filled c.args.vars c.args.places.now c.loop-low.lists c.loop-low.low (c.loop-low.invariant.size ∙ c.requires.width) c.loop-low-test.false c.requires.within c.loop-low.invariant.filled c.loop-low.invariant.known c.loop-low.invariant.rest
