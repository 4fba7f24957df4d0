use Rattle.std.proofs.Common.{◌≡◌, ◌+◌, ◌-◌, length, arith}
use Rattle.pb_counter.specs.laws.CounterOrder.{sizes}
use Rattle.pb_counter.proofs.CounterSizes.{turns_fit}
use Rattle.pb_counter.proofs.grid.GridNumberedClauses.clauses.Goals as goal

pub overflow_mul-result : goal.overflow_mul-result
overflow_mul-result c = omega (arith, (turns_fit c.args.self.now).0)

pub overflow_add-result : goal.overflow_add-result
overflow_add-result c = omega (arith, (turns_fit c.args.self.now).0)

pub overflow_mul-result-2 : goal.overflow_mul-result-2
overflow_mul-result-2 c = omega (arith, (turns_fit c.args.self.now).1)

pub overflow_add-result-2 : goal.overflow_add-result-2
overflow_add-result-2 c = omega (arith, turns_fit c.args.self.now)

pub overflow_add-result-3 : goal.overflow_add-result-3
overflow_add-result-3 c = omega (arith, turns_fit c.args.self.now)

pub returns : goal.returns
returns c =
    let grid = c.args.self.now in
    let n = length grid.terms.now in
    omega (arith, sizes n (n - 2) grid.width (let e : n ≡ n - 2 + 2 = omega (arith, grid.two) in e) grid.some)
