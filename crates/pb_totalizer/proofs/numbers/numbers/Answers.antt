use Rattle.std.proofs.Common.{◌≡◌, ◌+◌, ◌-◌, sym, ap, ◌∙◌, arith}
use Rattle.std.specs.List.{range_with_len}
use Rattle.pb_totalizer.specs.laws.Limits.{limits_are}
use Rattle.pb_totalizer.specs.laws.Partners.{partners_are}
use Rattle.pb_totalizer.proofs.numbers.numbers.Goals as goal

pub returns-in-Up-clause-few : goal.returns-in-Up-clause-few
returns-in-Up-clause-few c =
    let n = c.args.counts.now in
    omega (arith, c.least_partner-low.ensures, c.min.ensures, n.right_within, n.few)

pub returns-in-Up-clause-row : goal.returns-in-Up-clause-row
returns-in-Up-clause-row c =
    let n = c.args.counts.now in
    let low = c.least_partner-low in
    rw c.in-Up.is (sym (partners_are n.cap n.right c.args.i low.result (c.min.result + 1) (omega (arith, c.requires, n.left_within)) low.ensures (omega (arith, c.min.ensures))))

pub returns-in-Up-clause-together : goal.returns-in-Up-clause-together
returns-in-Up-clause-together c =
    let n = c.args.counts.now in
    let low = c.least_partner-low.ensures in
    let high = c.min.ensures in
    rw c.in-Up.is (λ j from below. record { left = c.requires; right = omega (arith, high, below); some = omega (arith, low, from); within = omega (arith, high, below, n.left_within) })

pub returns-in-Down-clause-few : goal.returns-in-Down-clause-few
returns-in-Down-clause-few c =
    let n = c.args.counts.now in
    omega (arith, c.min-in-Down.ensures, n.right_within, n.few)

pub returns-in-Down-clause-row : goal.returns-in-Down-clause-row
returns-in-Down-clause-row c =
    let n = c.args.counts.now in
    let high = c.min-in-Down in
    let all : high.result - 0 ≡ high.result = omega arith in
    rw c.in-Down.is (sym (limits_are n.own n.right c.args.i high.result (omega (arith, high.ensures)) ∙ ap (range_with_len 0) all))

pub returns-in-Down-clause-together : goal.returns-in-Down-clause-together
returns-in-Down-clause-together c =
    let high = c.min-in-Down.ensures in
    rw c.in-Down.is (λ j from below. record { left = c.requires; right = omega (arith, high, below); within = omega (arith, high, below) })
