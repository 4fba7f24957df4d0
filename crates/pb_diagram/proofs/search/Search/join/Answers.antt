use Rattle.std.proofs.Common.{◌≡◌, ◌-◌, ℕ, take, subst, List, arith}
use Rattle.std.specs.Prelude.{Contains}
use Rattle.pb_diagram.specs.declared.interval.Interval.{Interval}
use Rattle.pb_diagram.specs.laws.Search.{IsGrown}
use Rattle.pb_diagram.proofs.SearchReads.{joined_stands, row_read}
use Rattle.pb_diagram.proofs.WantSteps.{one_less}
use Rattle.pb_diagram.proofs.search.Search.join.Goals as goal

pub insert-requires-clause-elsewhere : goal.insert-requires-clause-elsewhere
insert-requires-clause-elsewhere c h among =
    let row = row_read c.args.self.now.levels.items c.args.top.place c.index_mut.result.now c.index_mut.ensures.value c.requires.top.seen.bounded in
    (joined_stands _ _ _ _ _ c.requires.going.searching c.requires.top c.args.interval c.requires.joined).1 h (subst (λ (l : List Interval). Contains l h) row among)

pub insert-requires-clause-rises : goal.insert-requires-clause-rises
insert-requires-clause-rises c = (joined_stands _ _ _ _ _ c.requires.going.searching c.requires.top c.args.interval c.requires.joined).0

pub overflow_add-self : goal.overflow_add-self
overflow_add-self c = omega (arith, c.requires.top.seen.fits)

pub returns : goal.returns
returns c =
    let self = c.args.self.now in
    let top = c.args.top in
    let going = c.requires.going in
    let row = row_read self.levels.items top.place c.index_mut.result.now c.index_mut.ensures.value c.requires.top.seen.bounded in
    let grown = subst (λ (l : List Interval). IsGrown l c.args.interval c.insert.new.self) row c.in_ok-insert.ensures in
    let cut = subst (λ (n : ℕ). c.pop.new.self.items ≡ take (n - 1) self.wanted.items) self.wanted.ok.0 c.pop.ensures.rest in
    let step = one_less c.args.of.now self.levels.items self.wanted.items self.left self.last top going.searching going.kept c.requires.top c.pop.new.self.items c.args.interval c.insert.new.self c.requires.joined cut grown in
    record { going = record { searching = step.0; kept = step.1 }; advanced = step.2 }
