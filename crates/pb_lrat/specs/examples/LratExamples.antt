-- Worked examples of lines and refutations, which the check computes.
use Rattle.std.specs.Prelude.{◌≡◌, ℕ, List, [], ◌∷◌, true, false, Ok, Err, codes, refl}
use Rattle.pb_base.specs.declared.literal.Lit.{Lit}
use Rattle.pb_base.specs.declared.expected.Expected.TheVariants.{LratId, LratLiteral, LratHint, LratEnd}
use Rattle.pb_base.specs.declared.limit.LimitKind.TheVariants.{Number}
use Rattle.pb_lrat.specs.declared.denied.LratDenied.TheVariants.{OldId, UnknownHint, NoConflict, NoEmptyClause}
use Rattle.pb_steps.specs.declared.fault.StepFault.TheVariants.{Token, Limit}
use Rattle.pb_lrat.specs.declared.said.Said.TheVariants.{Nothing, Adds, Deletes}
use Rattle.pb_lrat.specs.LratLines.{said_of}
use Rattle.pb_lrat.specs.LratWalk.{place_at, lrat_walk}
use Rattle.pb_lrat.specs.LratWalk.LratEnding.{refuted, not_refuted, refused}

abbrev plus : ℕ → Lit
plus v = record { var = v; positive = true }

abbrev minus : ℕ → Lit
minus v = record { var = v; positive = false }

-- ---- what lines say

pub an_empty_clause : said_of 2 (codes "4 0 2 3 1 0") ≡ Ok (Adds 4 [] (2 ∷ 3 ∷ 1 ∷ []))
an_empty_clause = refl

pub a_clause_and_hints : said_of 5 (codes " 012\t-3 +5 -0 7 00\r") ≡ Ok (Adds 12 (minus 3 ∷ plus 5 ∷ []) (7 ∷ []))
a_clause_and_hints = refl

pub ids_are_deleted : said_of 2 (codes "4 d 1 2 0") ≡ Ok (Deletes (1 ∷ 2 ∷ []))
ids_are_deleted = refl

pub no_id_is_deleted : said_of 2 (codes "4 d 0") ≡ Ok (Deletes [])
no_id_is_deleted = refl

pub a_blank_line : said_of 2 (codes " \t") ≡ Ok Nothing
a_blank_line = refl

pub a_comment : said_of 2 (codes "comment 1 2") ≡ Ok Nothing
a_comment = refl

pub a_negative_hint : said_of 2 (codes "4 0 2 -3 1 0") ≡ Err (Token 7 LratHint)
a_negative_hint = refl

pub no_id : said_of 2 (codes "d 1 0") ≡ Err (Token 1 LratId)
no_id = refl

pub id_zero : said_of 2 (codes "0 1 0 1 0") ≡ Err (Token 1 LratId)
id_zero = refl

pub an_id_alone : said_of 2 (codes "4") ≡ Err (Token 2 LratLiteral)
an_id_alone = refl

pub a_literal_above : said_of 2 (codes "4 3 0 1 0") ≡ Err (Token 3 LratLiteral)
a_literal_above = refl

pub a_clause_goes_on : said_of 2 (codes "4 1 ") ≡ Err (Token 5 LratLiteral)
a_clause_goes_on = refl

pub the_hints_go_on : said_of 2 (codes "4 1 0 2") ≡ Err (Token 8 LratHint)
the_hints_go_on = refl

pub a_word_too_many : said_of 2 (codes "4 0 2 0 1") ≡ Err (Token 9 LratEnd)
a_word_too_many = refl

pub a_great_id : said_of 2 (codes "9223372036854775808 0 0") ≡ Err (Limit 1 Number)
a_great_id = refl

pub a_great_hint : said_of 2 (codes "9223372036854775807 0 9223372036854775808 0") ≡ Err (Limit 23 Number)
a_great_hint = refl

-- ---- refutations of x1 or x2, not x1, not x2

abbrev three : List (List Lit)
three = (plus 1 ∷ plus 2 ∷ []) ∷ (minus 1 ∷ []) ∷ (minus 2 ∷ []) ∷ []

pub the_empty_clause_follows : lrat_walk 2 three (codes "4 0 2 3 1 0\n") ≡ refuted
the_empty_clause_follows = refl

pub hints_too_few : lrat_walk 2 three (codes "4 0 2 3 0") ≡ not_refuted 1 NoConflict
hints_too_few = refl

pub nothing_is_added : lrat_walk 2 three [] ≡ not_refuted 1 NoEmptyClause
nothing_is_added = refl

pub an_old_id : lrat_walk 2 three (codes "3 0 2 0") ≡ not_refuted 1 (OldId 3)
an_old_id = refl

pub an_unknown_hint : lrat_walk 2 three (codes "4 0 9 0") ≡ not_refuted 1 (UnknownHint 9)
an_unknown_hint = refl

pub a_negative_hint_in_a_text : lrat_walk 2 three (codes "4 0 2 -3 1 0") ≡ refused (place_at 1 7) LratHint
a_negative_hint_in_a_text = refl

-- the hints are looked at in order, once each
pub hints_out_of_order : lrat_walk 2 three (codes "4 0 1 2 3 0") ≡ not_refuted 1 NoConflict
hints_out_of_order = refl

-- ids may leave gaps, a clause may be added by another, and what was deleted is no hint
pub a_clause_between : lrat_walk 2 three (codes "c x2\n10 2 0 1 2 0\n1 d 1 7 0\n\n20 0 10 3 0") ≡ refuted
a_clause_between = refl

pub a_deleted_hint : lrat_walk 2 three (codes "9 d 1 0\n4 0 2 3 1 0") ≡ not_refuted 2 (UnknownHint 1)
a_deleted_hint = refl

-- a clause with two opposite literals needs no hint, and a repeated literal counts once
pub opposite_literals : lrat_walk 2 three (codes "4 1 -1 0 0\n5 1 1 0 3 1 0\n6 0 5 2 0") ≡ refuted
opposite_literals = refl

-- lines behind an empty clause are read as well
pub a_fault_behind : lrat_walk 2 three (codes "4 0 2 3 1 0\n4 0 2 3 1 0") ≡ not_refuted 2 (OldId 4)
a_fault_behind = refl

pub an_empty_clause_at_first : lrat_walk 0 ([] ∷ []) [] ≡ refuted
an_empty_clause_at_first = refl
