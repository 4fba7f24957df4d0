use Rattle.std.proofs.Common.{length, subst, sym}
use Rattle.pb_counter.specs.inner.Order.{IsPlace}
use Rattle.pb_counter.specs.laws.CounterOrder.{place_within}
use Rattle.pb_counter.proofs.grid.Grid.place.Goals as goal

pub returns-clause-within : goal.returns-clause-within
returns-clause-within c =
    let grid = c.args.self.now in
    subst (IsPlace (length grid.terms.now) grid.width) (sym c.place_at.ensures) (place_within (length grid.terms.now) grid.width c.args.number grid.two grid.some c.requires)
