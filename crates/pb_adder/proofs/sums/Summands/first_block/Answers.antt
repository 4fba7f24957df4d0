use Rattle.std.proofs.Common.{arith}
use Rattle.pb_adder.proofs.SumSteps.{is_cut}
use Rattle.pb_adder.proofs.sums.Summands.first_block.Goals as goal

pub returns : goal.returns
returns c =
    let cut = is_cut c.args.self.levels.now c.split_at.result.0.levels.now c.split_at.result.1.levels.now c.min.result c.requires c.min.ensures c.split_at.ensures.front c.split_at.ensures.back in
    record { split = cut.split; some = cut.some; few = cut.few; size = cut.size; id = c.split_at.ensures.id; later = omega (arith, c.split_at.ensures.later, cut.front) }
