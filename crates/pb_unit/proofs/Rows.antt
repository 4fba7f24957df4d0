-- Worked examples of what an engine holds and reaches, most of which the check computes.
use Rattle.std.proofs.Common.{◌≡◌, ◌-◌, inl, inr, lit<, ℕ, true, false, List, [], ◌∷◌, Some, None, pos, map, refl}
use Rattle.pb_base.specs.declared.literal.Lit.{Lit}
use Rattle.pb_base.proofs.Members.{Contains-here, Contains-there}
use Rattle.pb_norm.specs.Constraints.{Weighted, Constraint}
use Rattle.pb_norm.specs.ClauseForm.{clause_form}
use Rattle.pb_norm.specs.Propagation.{room, Needs, Reached}
use Rattle.pb_unit.specs.States.{started, assumed, cleared, added, removed, slack_at, standing, IsRefuted}
use Rattle.pb_unit.specs.Steps.{with_all_needed}

abbrev x : ℕ → Lit
x v = record { var = v; positive = true }

abbrev not_x : ℕ → Lit
not_x v = record { var = v; positive = false }

abbrev term : ℕ → Lit → Weighted
term c l = record { coef = c; lit = l }

-- ---- two of the first, two of the second and one of the third are to reach 3

abbrev three_of_five : Constraint
three_of_five = record { terms = term 2 (x 1) ∷ term 2 (x 2) ∷ term 1 (x 3) ∷ []; degree = 3 }

-- the slack is 5 less 3 at first
pub room_at_first : room [] three_of_five.terms ≡ 5
room_at_first = refl

-- and 3 less 3 once the first variable is false
pub room_without_the_first : room (not_x 1 ∷ []) three_of_five.terms ≡ 3
room_without_the_first = refl

-- a true literal leaves all its room
pub room_with_the_first : room (x 1 ∷ []) three_of_five.terms ≡ 5
room_with_the_first = refl

pub nothing_needed : with_all_needed 2 three_of_five.terms [] ≡ []
nothing_needed = refl

pub both_needed : with_all_needed 0 three_of_five.terms (not_x 1 ∷ []) ≡ x 3 ∷ x 2 ∷ not_x 1 ∷ []
both_needed = refl

abbrev cs : List Constraint
cs = three_of_five ∷ []

needs_two : Needs cs (not_x 1 ∷ []) (x 2)
needs_two = record {
  by = three_of_five;
  coef = 2;
  known = Contains-here three_of_five [];
  term = (1, lit< tt, refl);
  short = lit< tt;
  absent = refl;
  undecided = refl;
}

needs_three : Needs cs (x 2 ∷ not_x 1 ∷ []) (x 3)
needs_three = record {
  by = three_of_five;
  coef = 1;
  known = Contains-here three_of_five [];
  term = (2, lit< tt, refl);
  short = lit< tt;
  absent = refl;
  undecided = refl;
}

pub both_reached : Reached cs (not_x 1 ∷ []) (x 3 ∷ x 2 ∷ not_x 1 ∷ [])
both_reached = (inr needs_three, (inr needs_two, (inl (Contains-here (not_x 1) []), tt)))

-- with the second variable false too, the slack is negative
pub too_little : IsRefuted (map Some cs) (not_x 2 ∷ not_x 1 ∷ []) 0
too_little = record {
  list = not_x 2 ∷ not_x 1 ∷ [];
  constraint = three_of_five;
  at = refl;
  reached = (inl (Contains-here (not_x 2) (not_x 1 ∷ [])), (inl (Contains-there (not_x 2) (not_x 1 ∷ []) (not_x 1) (Contains-here (not_x 1) [])), tt));
  short = lit< tt;
}

-- ---- what calls make of an engine

pub assumed_once : assumed (x 1) (assumed (x 1) (started 3 cs)) ≡ record { vars = 3; places = map Some cs; given = x 1 ∷ []; held = x 1 ∷ [] }
assumed_once = refl

-- a literal that was reached before is assumed all the same
pub assumed_later : assumed (x 2) (record { vars = 3; places = map Some cs; given = not_x 1 ∷ []; held = x 3 ∷ x 2 ∷ not_x 1 ∷ [] })
    ≡ record { vars = 3; places = map Some cs; given = x 2 ∷ not_x 1 ∷ []; held = x 3 ∷ x 2 ∷ not_x 1 ∷ [] }
assumed_later = refl

pub cleared_again : cleared (assumed (x 1) (started 3 cs)) ≡ started 3 cs
cleared_again = refl

-- ---- constraints that come and go

abbrev not_both : Constraint
not_both = clause_form (not_x 1 ∷ not_x 2 ∷ [])

pub added_last : (added 1 not_both (assumed (x 1) (started 3 cs))).places ≡ Some three_of_five ∷ Some not_both ∷ []
added_last = refl

-- the others keep their places, and nothing is assumed any more
pub removed_first : removed 0 (assumed (x 1) (started 3 (three_of_five ∷ not_both ∷ []))) ≡ record { vars = 3; places = None ∷ Some not_both ∷ []; given = []; held = [] }
removed_first = refl

pub one_stands : standing (None ∷ Some not_both ∷ []) ≡ not_both ∷ []
one_stands = refl

pub added_at_a_free_place : (added 0 not_both (removed 0 (started 3 cs))).places ≡ Some not_both ∷ []
added_at_a_free_place = refl

pub slack_at_first : slack_at (started 3 cs) 0 ≡ Some (pos 2)
slack_at_first = refl

pub slack_without_the_first : slack_at (assumed (not_x 1) (started 3 cs)) 0 ≡ Some (pos 0)
slack_without_the_first = refl

pub no_slack_past_the_end : slack_at (started 3 cs) 1 ≡ None
no_slack_past_the_end = refl

-- ---- rounds over the clauses of a sequential counter: at most two of the variables 1 to 4

abbrev at_most_two : List Constraint
at_most_two =
    map clause_form (
    (not_x 1 ∷ x 5 ∷ []) ∷ (not_x 6 ∷ []) ∷ (not_x 2 ∷ x 7 ∷ []) ∷ (not_x 5 ∷ x 7 ∷ []) ∷ (not_x 2 ∷ not_x 5 ∷ x 8 ∷ [])
    ∷ (not_x 6 ∷ x 8 ∷ []) ∷ (not_x 2 ∷ not_x 6 ∷ []) ∷ (not_x 3 ∷ x 9 ∷ []) ∷ (not_x 7 ∷ x 9 ∷ [])
    ∷ (not_x 3 ∷ not_x 7 ∷ x 10 ∷ []) ∷ (not_x 8 ∷ x 10 ∷ []) ∷ (not_x 3 ∷ not_x 8 ∷ []) ∷ (not_x 4 ∷ not_x 10 ∷ []) ∷ []
    )

-- what one round over constraints with room enough makes of a list
abbrev after_round : List Constraint → List Lit → List Lit
after_round [] ls = ls
after_round (c ∷ cs) ls = after_round cs (with_all_needed (room ls c.terms - c.degree) c.terms ls)

pub two_inputs : after_round at_most_two (x 2 ∷ x 1 ∷ []) ≡ not_x 4 ∷ not_x 3 ∷ x 10 ∷ x 9 ∷ x 8 ∷ x 7 ∷ not_x 6 ∷ x 5 ∷ x 2 ∷ x 1 ∷ []
two_inputs = refl

pub nothing_more : after_round at_most_two (not_x 4 ∷ not_x 3 ∷ x 10 ∷ x 9 ∷ x 8 ∷ x 7 ∷ not_x 6 ∷ x 5 ∷ x 2 ∷ x 1 ∷ []) ≡ not_x 4 ∷ not_x 3 ∷ x 10 ∷ x 9 ∷ x 8 ∷ x 7 ∷ not_x 6 ∷ x 5 ∷ x 2 ∷ x 1 ∷ []
nothing_more = refl

-- the last input takes two rounds
pub last_input : after_round at_most_two (after_round at_most_two (x 4 ∷ [])) ≡ not_x 8 ∷ not_x 10 ∷ not_x 6 ∷ x 4 ∷ []
last_input = refl
