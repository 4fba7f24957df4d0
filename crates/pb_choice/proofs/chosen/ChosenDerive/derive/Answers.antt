use Rattle.std.proofs.Common.{◌≡◌, ℕ, Result, subst, sym}
use Rattle.pb_norm.specs.BoundedSums.{BoundedSum}
use Rattle.pb_family.specs.StepSinks.{HandsFrom, StepState}
use Rattle.pb_family.specs.declared.sink.SinkFault.{SinkFault}
use Rattle.pb_choice.specs.declared.chosen.Chosen.{Chosen}
use Rattle.pb_choice.specs.SumSteps.{sum_steps}
use Rattle.pb_choice.specs.Chosen.{sum_at, treatment_at}
use Rattle.pb_choice.proofs.ChosenSums.{asked}
use Rattle.pb_choice.proofs.chosen.ChosenDerive.derive.Goals as goal

-- the steps of the family's own sum are those of the sum that it was chosen for
derived : {T Rest : Type 0} {f e : Chosen} {m : BoundedSum} (r : Result T SinkFault) (a b : StepState Rest) (first id : ℕ) → f ≡ e → m ≡ sum_at e → HandsFrom (sum_steps (treatment_at e) m first id) r a b
    → HandsFrom (sum_steps (treatment_at f) (sum_at f) first id) r a b
derived {e = e} r a b first id is over h =
    subst (λ (f : Chosen). HandsFrom (sum_steps (treatment_at f) (sum_at f) first id) r a b) (sym is) (subst (λ (m : BoundedSum). HandsFrom (sum_steps (treatment_at e) m first id) r a b) over h)

pub returns-in-Pairwise : goal.returns-in-Pairwise
returns-in-Pairwise g c = derived c.derive.result (g.T.StepSink.state c.args.sink.now) (g.T.StepSink.state c.derive.new.sink) c.args.first c.args.id c.in-Pairwise.is c.over.ensures.constraint c.derive.ensures

pub returns-in-Ladder : goal.returns-in-Ladder
returns-in-Ladder g c = derived c.derive-in-Ladder.result (g.T.StepSink.state c.args.sink.now) (g.T.StepSink.state c.derive-in-Ladder.new.sink) c.args.first c.args.id c.in-Ladder.is c.over-in-Ladder.ensures.constraint c.derive-in-Ladder.ensures

pub returns-in-Product : goal.returns-in-Product
returns-in-Product g c = derived c.derive-in-Product.result (g.T.StepSink.state c.args.sink.now) (g.T.StepSink.state c.derive-in-Product.new.sink) c.args.first c.args.id c.in-Product.is c.over-in-Product.ensures.constraint c.derive-in-Product.ensures

pub returns-in-Counter : goal.returns-in-Counter
returns-in-Counter g c = derived c.derive-in-Counter.result (g.T.StepSink.state c.args.sink.now) (g.T.StepSink.state c.derive-in-Counter.new.sink) c.args.first c.args.id c.in-Counter.is c.over-in-Counter.ensures.constraint c.derive-in-Counter.ensures

pub returns-in-Totalizer : goal.returns-in-Totalizer
returns-in-Totalizer g c = derived c.derive-in-Totalizer.result (g.T.StepSink.state c.args.sink.now) (g.T.StepSink.state c.derive-in-Totalizer.new.sink) c.args.first c.args.id c.in-Totalizer.is c.in-Totalizer.held.over c.derive-in-Totalizer.ensures

pub returns-in-Diagram : goal.returns-in-Diagram
returns-in-Diagram g c = derived c.derive-in-Diagram.result (g.T.StepSink.state c.args.sink.now) (g.T.StepSink.state c.derive-in-Diagram.new.sink) c.args.first c.args.id c.in-Diagram.is c.in-Diagram.held.over c.derive-in-Diagram.ensures

pub returns-in-Tree : goal.returns-in-Tree
returns-in-Tree g c = derived c.derive-in-Tree.result (g.T.StepSink.state c.args.sink.now) (g.T.StepSink.state c.derive-in-Tree.new.sink) c.args.first c.args.id c.in-Tree.is c.in-Tree.held.over c.derive-in-Tree.ensures

pub returns-in-Adder : goal.returns-in-Adder
returns-in-Adder g c = derived c.derive-in-Adder.result (g.T.StepSink.state c.args.sink.now) (g.T.StepSink.state c.derive-in-Adder.new.sink) c.args.first c.args.id c.in-Adder.is c.in-Adder.held.over c.derive-in-Adder.ensures

pub derive-requires : goal.derive-requires
derive-requires g c = let a = asked c.args.first c.in-Pairwise.is c.over.ensures.constraint c.requires.original c.requires.fits in record { original = a.0; low = c.requires.low; fits = a.1; given = c.requires.given; known = c.requires.known; few = c.requires.few }

pub derive-requires-in-Ladder : goal.derive-requires-in-Ladder
derive-requires-in-Ladder g c = let a = asked c.args.first c.in-Ladder.is c.over-in-Ladder.ensures.constraint c.requires.original c.requires.fits in record { original = a.0; low = c.requires.low; fits = a.1; given = c.requires.given; known = c.requires.known; few = c.requires.few }

pub derive-requires-in-Product : goal.derive-requires-in-Product
derive-requires-in-Product g c = let a = asked c.args.first c.in-Product.is c.over-in-Product.ensures.constraint c.requires.original c.requires.fits in record { original = a.0; low = c.requires.low; fits = a.1; given = c.requires.given; known = c.requires.known; few = c.requires.few }

pub derive-requires-in-Counter : goal.derive-requires-in-Counter
derive-requires-in-Counter g c = let a = asked c.args.first c.in-Counter.is c.over-in-Counter.ensures.constraint c.requires.original c.requires.fits in record { original = a.0; low = c.requires.low; fits = a.1; given = c.requires.given; known = c.requires.known; few = c.requires.few }

pub derive-requires-in-Totalizer : goal.derive-requires-in-Totalizer
derive-requires-in-Totalizer g c = let a = asked c.args.first c.in-Totalizer.is c.in-Totalizer.held.over c.requires.original c.requires.fits in record { original = a.0; low = c.requires.low; fits = a.1; given = c.requires.given; known = c.requires.known; few = c.requires.few }

pub derive-requires-in-Diagram : goal.derive-requires-in-Diagram
derive-requires-in-Diagram g c = let a = asked c.args.first c.in-Diagram.is c.in-Diagram.held.over c.requires.original c.requires.fits in record { original = a.0; low = c.requires.low; fits = a.1; given = c.requires.given; known = c.requires.known; few = c.requires.few }

pub derive-requires-in-Tree : goal.derive-requires-in-Tree
derive-requires-in-Tree g c = let a = asked c.args.first c.in-Tree.is c.in-Tree.held.over c.requires.original c.requires.fits in record { original = a.0; low = c.requires.low; fits = a.1; given = c.requires.given; known = c.requires.known; few = c.requires.few }

pub derive-requires-in-Adder : goal.derive-requires-in-Adder
derive-requires-in-Adder g c = let a = asked c.args.first c.in-Adder.is c.in-Adder.held.over c.requires.original c.requires.fits in record { original = a.0; low = c.requires.low; fits = a.1; given = c.requires.given; known = c.requires.known; few = c.requires.few }
