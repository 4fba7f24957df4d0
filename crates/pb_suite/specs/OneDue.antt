-- That no command is to do two things. Our own.
use Rattle.std.specs.Prelude.{◌≡◌}
use Rattle.pb_words.specs.Parsed.{Wanted}
use Rattle.pb_suite.specs.declared.outcome.Outcome.{Outcome}
use Rattle.pb_suite.specs.Outputs.{Output}
use Rattle.pb_suite.specs.CommandSpec.{CommandSpec, Shelf}
use Rattle.pb_suite.specs.CommandSpecs.{spec_of}
use Rattle.pb_suite.specs.Derivations.{Derivations}

-- over a shelf there is one output at most, or one way to stop at most, and not both
pub record SpecifiesOne (o : CommandSpec) (shelf : Shelf) : Type 0 where
  pub one_output : (out other : Output) → o.done shelf out → o.done shelf other → out ≡ other
  pub one_stop : (answer other : Outcome) → o.stops shelf answer → o.stops shelf other → answer ≡ other
  pub not_both : (out : Output) (answer : Outcome) → o.done shelf out → o.stops shelf answer → ⊥

-- so it is of whatever words ask for, with any derivations
abbrev pub NoTwoDue : Type 0
NoTwoDue = (derive : Derivations) (w : Wanted) (shelf : Shelf) → SpecifiesOne (spec_of derive w) shelf
