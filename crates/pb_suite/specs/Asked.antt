-- What a run does of its words. Our own.
use Rattle.std.specs.Prelude.{ℕ, List}
use Rattle.std.specs.Option.{ForSome}
use Rattle.pb_desk.specs.View.{Told}
use Rattle.pb_desk.specs.Desk.{DeskState}
use Rattle.pb_words.specs.Parsed.{parsed_of}
use Rattle.pb_suite.specs.declared.outcome.Outcome.{Outcome}
use Rattle.pb_suite.specs.CommandSpecs.{spec_of, IsAmple}
use Rattle.pb_suite.specs.Derivations.{AreAccepted, Derivations}
use Rattle.pb_suite.specs.Implementing.{Implements, IsQuiet}
use Rattle.pb_suite.specs.Seen.{seen_from}

-- What they ask for is done as it is specified, with derivations that are accepted, over the desk as it is seen from its end. Over a fresh and steady desk with what they call for no call fails.
pub record DoesAsked (words : List (List ℕ)) (old new : DeskState) (answer : Outcome) : Type 0 where
  pub derive : Derivations
  pub accepted : AreAccepted derive
  pub implements : ForSome (parsed_of words) (λ w. Implements (spec_of derive w) (seen_from new old) (seen_from new new) answer)
  pub steady : (t : Told) → IsAmple derive t words old → IsQuiet old new
