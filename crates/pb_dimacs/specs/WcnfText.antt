-- Weighted CNF text as it is written: a comment with the offset, a line for each hard clause, and one for each soft literal (the format of the MaxSAT Evaluations since 2022).
use Rattle.std.specs.Prelude.{ℕ, ℤ, pos, List, [], ◌∷◌, ◌++◌, codes}
use Rattle.std.specs.List.{flat_map}
use Rattle.std.specs.Fmt.{signed_decimal}
use Rattle.pb_base.specs.declared.literal.Lit.{Lit}
use Rattle.pb_norm.specs.Constraints.{Weighted}
use Rattle.pb_family.specs.ClauseText.{clause_text, led_text}

-- what the costs are added to
abbrev pub offset_text : ℤ → List ℕ
offset_text offset = codes "c offset " ++ signed_decimal offset ++ codes "\n"

-- each hard clause behind `h`
abbrev pub hard_text : List (List Lit) → List ℕ
hard_text clauses = led_text (codes "h ") clauses

-- a clause of one literal, behind what it costs where it is false
abbrev pub soft_text : ℤ → Lit → List ℕ
soft_text weight l = signed_decimal weight ++ (codes " " ++ clause_text (l ∷ []))

abbrev pub softs_text : List Weighted → List ℕ
softs_text softs = flat_map (λ s. soft_text (pos s.coef) s.lit) softs

abbrev pub wcnf_text : ℤ → List (List Lit) → List Weighted → List ℕ
wcnf_text offset clauses softs = offset_text offset ++ (hard_text clauses ++ softs_text softs)
