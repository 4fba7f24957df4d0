-- That each step of a rule is allowed or denied, in one way (our own).
use Rattle.std.specs.Prelude.{◌≡◌, ◌⊎◌, List, Option}
use Rattle.pb_base.specs.declared.literal.Lit.{Lit}
use Rattle.pb_steps.specs.declared.denied.Denied.{Denied}
use Rattle.pb_steps.specs.declared.step.Step.{Step}
use Rattle.pb_steps.specs.Steps.{IsSpelled, IsRule}
use Rattle.pb_steps.specs.Database.{Database}
use Rattle.pb_steps.specs.Allowed.{Allowed}
use Rattle.pb_steps.specs.Denials.{FirstDenied}

abbrev pub IsAllowed : Database → Step → Option (List Lit) → Type 0
IsAllowed db step clause = (db' : Database) × Allowed db step clause db'

abbrev pub IsDenied : Database → Step → Option (List Lit) → Type 0
IsDenied db step clause = (d : Denied) × FirstDenied db step clause d

-- exactly one of both, and in one way
pub record AllowedOrDenied : Type 0 where
  pub either : (db : Database) (step : Step) (clause : Option (List Lit)) → IsRule step → IsSpelled step → IsAllowed db step clause ⊎ IsDenied db step clause
  pub not_both : (db : Database) (step : Step) (clause : Option (List Lit)) → IsAllowed db step clause → ¬ IsDenied db step clause
  pub one_database : (db : Database) (step : Step) (clause : Option (List Lit)) (db' other : Database) → Allowed db step clause db' → Allowed db step clause other → db' ≡ other
  pub one_cause : (db : Database) (step : Step) (clause : Option (List Lit)) (d e : Denied) → FirstDenied db step clause d → FirstDenied db step clause e → d ≡ e
