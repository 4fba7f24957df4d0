use Rattle.std.proofs.Common.{length, ap, ◌∙◌, subst, arith}
use Rattle.pb_gentot.specs.inner.Ranked.{AreRanks}
use Rattle.pb_gentot.proofs.Over.{made_rising}
use Rattle.pb_gentot.proofs.ranked.ranked_over.Goals as goal

pub of-requires-clause-rising : goal.of-requires-clause-rising
of-requires-clause-rising c = made_rising c.args.cap c.args.left.now c.args.right.now c.as_slice.result.now (c.as_slice.ensures.value ∙ c.in_ok-values.ensures)

pub of-requires-clause-few : goal.of-requires-clause-few
of-requires-clause-few c = omega (arith, ap length (c.as_slice.ensures.value ∙ c.in_ok-values.ensures), c.requires.fits)

pub invariant_of-result : goal.invariant_of-result
invariant_of-result c =
    record {
      rising = made_rising c.args.cap c.args.left.now c.args.right.now c.in_ok-values.values.items c.in_ok-values.ensures;
      ranked = subst (AreRanks c.in_ok-ranks.ranks) c.as_slice.ensures.value c.in_ok-ranks.ensures;
    }
