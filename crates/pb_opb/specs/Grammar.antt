-- OPB text, by what its tokens stand for: the format of the Pseudo-Boolean Competitions (Roussel and Manquinho), with products of literals.
use Rattle.std.specs.Prelude.{ℕ, List, [], ◌∷◌, ◌++◌, map, ℤ, Option, Some, None, Bool, true, false, codes, ◌==◌, if◌then◌else◌}
use Rattle.std.specs.Option.{option_map}
use Rattle.std.specs.List.{flat_map}
use Rattle.std.specs.Str.{bytes_eq}
use Rattle.pb_named.specs.declared.named.NamedLit.{NamedLit}
use Rattle.pb_named.specs.NamedTerms.{NamedTerm, lits_of}
use Rattle.pb_base.specs.declared.problem.Relation.{Relation}
use Rattle.pb_base.specs.declared.problem.Relation.TheVariants.{AtLeast, AtMost, Equal}
use Rattle.pb_named.specs.declared.named.NamedStatement.{NamedStatement}
use Rattle.pb_base.specs.Numbers.{integer_of}
use Rattle.pb_named.specs.declared.named.NamedProblem.{NamedProblem}
use Rattle.pb_named.specs.Names.{Name, name_of}

-- what a token stands for; the end of the text counts as a token
pub data Kind : Type 0 where
  minimise : Kind
  integer : ℤ → Kind
  literal : NamedLit → Kind
  relation : Relation → Kind
  semicolon : Kind
  other : Kind
  end : Kind

abbrev pub with_sign : Bool → Name → NamedLit
with_sign positive name = record { name = name; positive = positive }

-- a name behind an optional `~`
abbrev pub named_literal : List ℕ → Option NamedLit
named_literal [] = None
named_literal (b ∷ bs) = if b == 126 then option_map (with_sign false) (name_of bs) else option_map (with_sign true) (name_of (b ∷ bs))

abbrev pub spelled : Option ℤ → Option NamedLit → Kind
spelled (Some z) l = integer z
spelled None (Some l) = literal l
spelled None None = other

abbrev pub kind_of : List ℕ → Kind
kind_of word =
    if bytes_eq word (codes "min:") then minimise
    else (if bytes_eq word (codes ";") then semicolon
    else (if bytes_eq word (codes ">=") then relation AtLeast
    else (if bytes_eq word (codes "<=") then relation AtMost
    else (if bytes_eq word (codes "=") then relation Equal
    else spelled (integer_of word) (named_literal word)))))

-- How a problem is written: an optional objective, and any number of statements.
abbrev pub term_kinds : NamedTerm → List Kind
term_kinds t = integer t.coef ∷ map literal (lits_of t)

abbrev pub sum_kinds : List NamedTerm → List Kind
sum_kinds ts = flat_map term_kinds ts

abbrev pub objective_kinds : Option (List NamedTerm) → List Kind
objective_kinds None = []
objective_kinds (Some ts) = minimise ∷ sum_kinds ts ++ semicolon ∷ []

abbrev pub statement_kinds : NamedStatement → List Kind
statement_kinds s = sum_kinds s.terms ++ relation s.relation ∷ integer s.right ∷ semicolon ∷ []

abbrev pub text_kinds : NamedProblem → List Kind
text_kinds w = objective_kinds w.objective ++ flat_map statement_kinds w.statements ++ end ∷ []
