use Rattle.std.proofs.Common.{List, subst}
use Rattle.pb_diagram.specs.declared.interval.Interval.{Interval}
use Rattle.pb_diagram.specs.laws.Search.{IsFound}
use Rattle.pb_diagram.proofs.SearchReads.{row_read}
use Rattle.pb_diagram.proofs.search.find_at.Goals as goal

pub returns-then-place-levels : goal.returns-then-place-levels
returns-then-place-levels c =
    let row = row_read c.args.levels.now c.args.place c.index-levels-place.result c.index-levels-place.is c.if-place-levels.true in
    subst (λ (l : List Interval). IsFound l c.args.residue c.find.result) row c.find.ensures
