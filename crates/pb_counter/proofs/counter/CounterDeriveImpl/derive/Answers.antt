use Rattle.std.proofs.Common.{◌≡◌, ◌≤◌, ◌+◌, ◌-◌, ◌*◌, ◌^◌, ℕ, length, suc, ap, arith}
use Rattle.std.proofs.Math.Nat.{mul-le-mul_right}
use Rattle.pb_counter.specs.Counter.{counter_fresh}
use Rattle.pb_counter.proofs.CounterSizes.{grid_fits, size_of}
use Rattle.pb_counter.proofs.counter.CounterDeriveImpl.derive.Goals as goal

pub derive_by_rows-requires : goal.derive_by_rows-requires
derive_by_rows-requires g c =
    let f = c.args.self.now in
    let n : ℕ = length f.terms.now in
    let last : ℕ = f.bound - 1 in
    let sized = size_of f in
    let fits : c.args.first + counter_fresh n f.bound ≤ 2 ^ 31 = grid_fits f c.args.first c.requires.fits in
    let wide : suc last ≡ f.bound = omega (arith, sized.from) in
    let same : (n - 1) * suc last ≡ (n - 1) * f.bound = ap (λ (k : ℕ). (n - 1) * k) wide in
    let many : (n + 1) * suc last ≤ (3 * (n - 1)) * suc last = mul-le-mul_right (suc last) (omega (arith, sized.from, sized.more)) in
    let spread : (3 * (n - 1)) * suc last ≡ 3 * ((n - 1) * suc last) = omega arith in
    let all : (8 * last + 10) * (n + 1) ≡ 8 * ((n + 1) * suc last) + 2 * (n + 1) = omega arith in
    record {
      two = omega (arith, sized.from, sized.more);
      few = omega (arith, sized.few);
      low = c.requires.low;
      fits = omega (arith, fits, same);
      room = omega (arith, c.requires.few, all, many, spread, same, fits, sized.few);
    }
