use Rattle.std.proofs.Common.{arith}
use Rattle.pb_counter.proofs.CounterSizes.{size_of}
use Rattle.pb_counter.proofs.counter.Counter.grid.Goals as goal

pub invariant_of-result : goal.invariant_of-result
invariant_of-result c =
    let sized = size_of c.args.self.now in
    record { some = sized.from; two = omega (arith, sized.from, sized.more); short = sized.few; low = c.requires.low; high = c.requires.fits }
