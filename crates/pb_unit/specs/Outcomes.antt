-- What the answers of propagation mean, by what is reached (Chai and Kuehlmann 2005).
use Rattle.std.specs.Prelude.{◌≡◌, ◌↔◌, true}
use Rattle.pb_base.specs.declared.literal.Lit.{Lit}
use Rattle.pb_base.specs.Literals.{is_among}
use Rattle.pb_norm.specs.Propagation as propagation
use Rattle.pb_unit.specs.declared.engine.Outcome.{Outcome}
use Rattle.pb_unit.specs.declared.engine.Outcome.TheVariants.{Conflict, Fixed}
use Rattle.pb_unit.specs.States.{EngineState, standing, IsRefuted}

-- there is no conflict, and the literals that hold are those that are reached
pub record IsLeastFixedPoint (s : EngineState) : Type 0 where
  pub no_conflict : ¬ propagation.Conflict (standing s.places) s.given
  pub exact : (l : Lit) → (is_among s.held l ≡ true) ↔ propagation.IsReachable (standing s.places) s.given l

-- a conflict is answered exactly where there is one, with the place of a constraint that shows it
abbrev pub AnswersOf : EngineState → Outcome → Type 0
AnswersOf s (Conflict place) = propagation.Conflict (standing s.places) s.given × IsRefuted s.places s.given place
AnswersOf s Fixed = IsLeastFixedPoint s
