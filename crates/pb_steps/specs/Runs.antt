-- Steps that are allowed one after the other (our own).
use Rattle.std.specs.Prelude.{◌≡◌, List, [], ◌∷◌, Option, Some, None}
use Rattle.pb_base.specs.declared.literal.Lit.{Lit}
use Rattle.pb_steps.specs.declared.step.Step.{Step}
use Rattle.pb_steps.specs.declared.step.Step.TheVariants.{Out}
use Rattle.pb_steps.specs.Database.{Database}
use Rattle.pb_steps.specs.Allowed.{Allowed}

abbrev pub next_clause : List (List Lit) → Option (List Lit)
next_clause [] = None
next_clause (c ∷ cs) = Some c

abbrev pub all_but_first : List (List Lit) → List (List Lit)
all_but_first [] = []
all_but_first (c ∷ cs) = cs

-- the clauses that are still to be put out after a step
abbrev pub clauses_after : Step → List (List Lit) → List (List Lit)
clauses_after (Out id) cs = all_but_first cs
clauses_after _ cs = cs

-- the steps are allowed one after the other, put out the clauses, and leave the database
abbrev pub Runs : Database → List Step → List (List Lit) → Database → Type 0
Runs db [] cs end = (cs ≡ []) × (end ≡ db)
Runs db (s ∷ ss) cs end = (db' : Database) × Allowed db s (next_clause cs) db' × Runs db' ss (clauses_after s cs) end
