-- Claims that a step of a rule may add.
use Rattle.std.specs.Prelude.{List, Option}
use Rattle.pb_base.specs.declared.literal.Lit.{Lit}
use Rattle.pb_norm.specs.Constraints.{Constraint}
use Rattle.pb_steps.specs.declared.step.Step.{Step}
use Rattle.pb_steps.specs.Database.{Database, grown}
use Rattle.pb_steps.specs.Allowed.{Allowed}

-- the step is allowed, whatever the next clause is, and the constraint joins
abbrev pub AllowsClaim : Database → Step → Constraint → Type 0
AllowsClaim db step c = (clause : Option (List Lit)) → Allowed db step clause (grown db c)
