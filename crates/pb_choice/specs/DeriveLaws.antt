-- What the steps of a constraint show, and how many and how long they are.
use Rattle.std.specs.Prelude.{ℕ, ◌≤◌, ◌+◌, ◌*◌, ◌^◌, All, length}
use Rattle.pb_norm.specs.Constraints.{Constraint}
use Rattle.pb_steps.specs.Database.{Database}
use Rattle.pb_steps.specs.Sayable.{IsSayable}
use Rattle.pb_derive.specs.Derivations.{Derives}
use Rattle.pb_family.specs.Derivations.{AreOriginal, MayStart}
use Rattle.pb_family.specs.Families.{VarsBelow}
use Rattle.pb_base.specs.declared.options.Options.{Options}
use Rattle.pb_choice.specs.Clauses.{constraint_clauses, constraint_count, constraint_fresh}
use Rattle.pb_choice.specs.ConstraintSteps.{constraint_steps}
use Rattle.pb_choice.specs.Readiness.{AreBrief, IsModest, IsReadyWith}

-- from a database in which the constraint stands, the steps are allowed one after the other and put out the clauses
abbrev pub ConstraintsDerive : Type 0
ConstraintsDerive = (o : Options) (c : Constraint) (first id : ℕ) (db : Database) → IsModest c → VarsBelow first c.terms → IsReadyWith c first (constraint_fresh o c) id db
    → Derives db (constraint_steps o c first id db.next) (constraint_clauses o c first) (first + constraint_fresh o c)

-- they are few
abbrev pub ConstraintsHaveFewSteps : Type 0
ConstraintsHaveFewSteps = (o : Options) (c : Constraint) (first id next : ℕ) → IsModest c → length (constraint_steps o c first id next) ≤ 8 * (constraint_fresh o c + constraint_count o c) + 4

-- lines can say them
abbrev pub ConstraintsAreSayable : Type 0
ConstraintsAreSayable = (o : Options) (c : Constraint) (first id next : ℕ) → IsModest c → constraint_count o c ≤ 2 ^ 56 → AreOriginal first c.terms → MayStart first (constraint_fresh o c) id next → next ≤ 2 ^ 60
    → All IsSayable (constraint_steps o c first id next)

-- and these lines are short
abbrev pub ConstraintsAreBrief : Type 0
ConstraintsAreBrief = (o : Options) (c : Constraint) (first id next : ℕ) → IsModest c → constraint_count o c ≤ 2 ^ 56 → AreOriginal first c.terms → MayStart first (constraint_fresh o c) id next → next ≤ 2 ^ 60
    → length c.terms ≤ 2 ^ 21 → AreBrief (length c.terms) (constraint_fresh o c) (constraint_count o c) (constraint_steps o c first id next)
