use Rattle.std.proofs.Common.{List, reverse, sym, subst}
use Rattle.std.specs.List.{insert}
use Rattle.pb_diagram.specs.declared.interval.Interval.{Interval}
use Rattle.pb_diagram.specs.inner.Known.{AreKnown}
use Rattle.pb_diagram.specs.laws.Search.{IsGrown}
use Rattle.pb_diagram.proofs.RunFacts.{known_inserted, run_inserted}
use Rattle.pb_diagram.proofs.run.Run.insert.Goals as goal

pub place_of-place-requires : goal.place_of-place-requires
place_of-place-requires c = subst AreKnown (sym c.as_slice.ensures.value) c.self.invariant

pub invariant_of-self : goal.invariant_of-self
invariant_of-self c = subst AreKnown (sym c.in_err-insert.ensures.items) c.self.invariant

pub invariant_of-self-2 : goal.invariant_of-self-2
invariant_of-self-2 c =
    let gs = c.self.inside.falling.items in
    let place = c.place_of-place.result in
    subst AreKnown (sym c.in_ok-insert.ensures.items) (known_inserted gs c.args.interval place c.self.invariant c.requires.rises
    (run_inserted gs c.as_slice.result.now c.args.self.now c.args.interval place c.self.invariant c.as_slice.ensures.value c.self.view_is c.requires.rises c.place_of-place.ensures c.requires.elsewhere))

pub returns-clause-grown : goal.returns-clause-grown
returns-clause-grown c =
    let gs = c.self.inside.falling.items in
    let g = c.args.interval in
    let place = c.place_of-place.result in
    let more = run_inserted gs c.as_slice.result.now c.args.self.now g place c.self.invariant c.as_slice.ensures.value c.self.view_is c.requires.rises c.place_of-place.ensures c.requires.elsewhere in
    subst (λ (l : List Interval). IsGrown c.args.self.now g (reverse l)) (sym c.in_ok-insert.ensures.items) (subst (λ (l : List Interval). IsGrown l g (reverse (insert gs place g))) c.self.view_is more)
