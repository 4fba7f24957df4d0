use Rattle.std.proofs.Common.{◌≡◌, ℕ, Result, subst, sym}
use Rattle.pb_norm.specs.BoundedSums.{BoundedSum}
use Rattle.pb_family.specs.Handing.{HandsIfMemory}
use Rattle.pb_family.specs.Sinks.{SinkState}
use Rattle.pb_family.specs.declared.sink.SinkFault.{SinkFault}
use Rattle.pb_choice.specs.declared.chosen.Chosen.{Chosen}
use Rattle.pb_choice.specs.Sums.{sum_clauses}
use Rattle.pb_choice.specs.Chosen.{sum_at, treatment_at}
use Rattle.pb_choice.proofs.ChosenSums.{asked}
use Rattle.pb_choice.proofs.chosen.ChosenFamily.emit.Goals as goal

-- the clauses of the family's own sum are those of the sum that it was chosen for
handed : {T Rest : Type 0} {f e : Chosen} {m : BoundedSum} (r : Result T SinkFault) (a b : SinkState Rest) (first : ℕ) → f ≡ e → m ≡ sum_at e → HandsIfMemory (sum_clauses (treatment_at e) m first) r a b
    → HandsIfMemory (sum_clauses (treatment_at f) (sum_at f) first) r a b
handed {e = e} r a b first is over h =
    subst (λ (f : Chosen). HandsIfMemory (sum_clauses (treatment_at f) (sum_at f) first) r a b) (sym is) (subst (λ (m : BoundedSum). HandsIfMemory (sum_clauses (treatment_at e) m first) r a b) over h)

pub returns-in-Pairwise : goal.returns-in-Pairwise
returns-in-Pairwise g c = record { hands = handed c.emit.result (g.S.ClauseSink.state c.args.sink.now) (g.S.ClauseSink.state c.emit.new.sink) c.args.first c.in-Pairwise.is c.over.ensures.constraint c.emit.ensures.hands; never = λ none. absurd none }

pub returns-in-Ladder : goal.returns-in-Ladder
returns-in-Ladder g c = record { hands = handed c.emit-in-Ladder.result (g.S.ClauseSink.state c.args.sink.now) (g.S.ClauseSink.state c.emit-in-Ladder.new.sink) c.args.first c.in-Ladder.is c.over-in-Ladder.ensures.constraint c.emit-in-Ladder.ensures.hands; never = λ none. absurd none }

pub returns-in-Product : goal.returns-in-Product
returns-in-Product g c = record { hands = handed c.emit-in-Product.result (g.S.ClauseSink.state c.args.sink.now) (g.S.ClauseSink.state c.emit-in-Product.new.sink) c.args.first c.in-Product.is c.over-in-Product.ensures.constraint c.emit-in-Product.ensures.hands; never = λ none. absurd none }

pub returns-in-Counter : goal.returns-in-Counter
returns-in-Counter g c = record { hands = handed c.emit-in-Counter.result (g.S.ClauseSink.state c.args.sink.now) (g.S.ClauseSink.state c.emit-in-Counter.new.sink) c.args.first c.in-Counter.is c.over-in-Counter.ensures.constraint c.emit-in-Counter.ensures.hands; never = λ none. absurd none }

pub returns-in-Totalizer : goal.returns-in-Totalizer
returns-in-Totalizer g c = record { hands = handed c.emit-in-Totalizer.result (g.S.ClauseSink.state c.args.sink.now) (g.S.ClauseSink.state c.emit-in-Totalizer.new.sink) c.args.first c.in-Totalizer.is c.in-Totalizer.held.over c.emit-in-Totalizer.ensures.hands; never = λ none. absurd none }

pub returns-in-Diagram : goal.returns-in-Diagram
returns-in-Diagram g c = record { hands = handed c.emit-in-Diagram.result (g.S.ClauseSink.state c.args.sink.now) (g.S.ClauseSink.state c.emit-in-Diagram.new.sink) c.args.first c.in-Diagram.is c.in-Diagram.held.over c.emit-in-Diagram.ensures.hands; never = λ none. absurd none }

pub returns-in-Tree : goal.returns-in-Tree
returns-in-Tree g c = record { hands = handed c.emit-in-Tree.result (g.S.ClauseSink.state c.args.sink.now) (g.S.ClauseSink.state c.emit-in-Tree.new.sink) c.args.first c.in-Tree.is c.in-Tree.held.over c.emit-in-Tree.ensures.hands; never = λ none. absurd none }

pub returns-in-Adder : goal.returns-in-Adder
returns-in-Adder g c = record { hands = handed c.emit-in-Adder.result (g.S.ClauseSink.state c.args.sink.now) (g.S.ClauseSink.state c.emit-in-Adder.new.sink) c.args.first c.in-Adder.is c.in-Adder.held.over c.emit-in-Adder.ensures.hands; never = λ none. absurd none }

pub emit-requires : goal.emit-requires
emit-requires g c = let a = asked c.args.first c.in-Pairwise.is c.over.ensures.constraint c.requires.original c.requires.fits in record { original = a.0; low = c.requires.low; fits = a.1 }

pub emit-requires-in-Ladder : goal.emit-requires-in-Ladder
emit-requires-in-Ladder g c = let a = asked c.args.first c.in-Ladder.is c.over-in-Ladder.ensures.constraint c.requires.original c.requires.fits in record { original = a.0; low = c.requires.low; fits = a.1 }

pub emit-requires-in-Product : goal.emit-requires-in-Product
emit-requires-in-Product g c = let a = asked c.args.first c.in-Product.is c.over-in-Product.ensures.constraint c.requires.original c.requires.fits in record { original = a.0; low = c.requires.low; fits = a.1 }

pub emit-requires-in-Counter : goal.emit-requires-in-Counter
emit-requires-in-Counter g c = let a = asked c.args.first c.in-Counter.is c.over-in-Counter.ensures.constraint c.requires.original c.requires.fits in record { original = a.0; low = c.requires.low; fits = a.1 }

pub emit-requires-in-Totalizer : goal.emit-requires-in-Totalizer
emit-requires-in-Totalizer g c = let a = asked c.args.first c.in-Totalizer.is c.in-Totalizer.held.over c.requires.original c.requires.fits in record { original = a.0; low = c.requires.low; fits = a.1 }

pub emit-requires-in-Diagram : goal.emit-requires-in-Diagram
emit-requires-in-Diagram g c = let a = asked c.args.first c.in-Diagram.is c.in-Diagram.held.over c.requires.original c.requires.fits in record { original = a.0; low = c.requires.low; fits = a.1 }

pub emit-requires-in-Tree : goal.emit-requires-in-Tree
emit-requires-in-Tree g c = let a = asked c.args.first c.in-Tree.is c.in-Tree.held.over c.requires.original c.requires.fits in record { original = a.0; low = c.requires.low; fits = a.1 }

pub emit-requires-in-Adder : goal.emit-requires-in-Adder
emit-requires-in-Adder g c = let a = asked c.args.first c.in-Adder.is c.in-Adder.held.over c.requires.original c.requires.fits in record { original = a.0; low = c.requires.low; fits = a.1 }
