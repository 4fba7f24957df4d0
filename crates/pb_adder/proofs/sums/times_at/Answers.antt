use Rattle.std.proofs.Common.{◌≡◌, ◌<◌, ◌≤◌, ◌*◌, ◌^◌, ◌%◌, ℕ, pos, ap, ◌∙◌, arith, to_z}
use Rattle.std.specs.Int.{w128}
use Rattle.std.proofs.lemmas.Int.{to_z_pos}
use Rattle.std.proofs.Math.Nat.{pow-le-pow_right}
use Rattle.pb_adder.proofs.sums.times_at.Goals as goal

-- a power below 2 ^ 126 is what its bits say
power_is : (level : ℕ) → level < 126 → to_z w128 (1 * 2 ^ level % 340282366920938463463374607431768211456) ≡ pos (2 ^ level)
power_is level low =
    let small : 2 ^ level ≤ 2 ^ 126 = pow-le-pow_right {n = 2} (omega arith) {i = level} {j = 126} (omega (arith, low)) in
    let bits : 1 * 2 ^ level % 340282366920938463463374607431768211456 ≡ 2 ^ level = omega (arith, small) in
    ap (to_z w128) bits ∙ to_z_pos w128 (2 ^ level) (let h : 2 ^ level < 2 ^ 127 = omega (arith, small) in h)

pub returns : goal.returns
returns c = power_is c.args.level c.requires.low
