-- What is left of a clause, as the code tells it, and what hints deny.
use Rattle.std.specs.Prelude.{ℕ, Bool, ◌||◌, List, [], ◌∷◌, Option, Some, None, option_map, if◌then◌else◌}
use Rattle.std.specs.List.{list_all}
use Rattle.std.specs.Option.{option_or}
use Rattle.pb_base.specs.declared.literal.Lit.{Lit}
use Rattle.pb_base.specs.Literals.{is_same}
use Rattle.pb_lrat.specs.declared.denied.LratDenied.{LratDenied}
use Rattle.pb_lrat.specs.declared.denied.LratDenied.TheVariants.{UnknownHint, NoConflict}
use Rattle.pb_lrat.specs.declared.judge.ClauseStatus.{ClauseStatus}
use Rattle.pb_lrat.specs.declared.judge.ClauseStatus.TheVariants.{Nothing, Single, More}
use Rattle.pb_lrat.specs.Hints.{Kept, clauses_at, first_missing, reaches_conflict}

-- nothing, a single literal, perhaps repeated, or more
abbrev pub kind_of : List Lit → ClauseStatus
kind_of [] = Nothing
kind_of (l ∷ ls) = if list_all (is_same l) ls then Single l else More

-- one more literal beside what is left
abbrev pub left_with : ClauseStatus → Lit → ClauseStatus
left_with Nothing l = Single l
left_with (Single k) l = if is_same k l then Single k else More
left_with More l = More

-- why hints deny a clause: by the first of them that is not live, and by whether the clause is allowed
abbrev pub denied_by : Option ℕ → Bool → Option LratDenied
denied_by missing allowed = option_or (option_map UnknownHint missing) (if allowed then None else Some NoConflict)

-- the same, unless the clause is allowed by itself, once some literals are true
abbrev pub hints_deny : List Kept → List ℕ → Bool → List Lit → Option LratDenied
hints_deny live hints allowed held = denied_by (first_missing live hints) (allowed || reaches_conflict held (clauses_at live hints))
