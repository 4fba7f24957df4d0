-- The soft lines of an objective, term by term.
use Rattle.std.proofs.Common.{◌≡◌, ◌∙◌, ◌++◌, ℕ, ℤ, List, [], ◌∷◌, FitsSigned, map, of_z, refl, ap, to_z}
use mir.Syntax.{w128}
use Rattle.std.proofs.lemmas.Int.{to_z-of_z}
use Rattle.std.specs.Prelude.{pos}
use Rattle.std.specs.List.{flat_map}
use Rattle.pb_base.specs.declared.literal.Lit.{Lit}
use Rattle.pb_base.specs.declared.literal.Term.{Term}
use Rattle.pb_base.specs.Literals.{negated}
use Rattle.pb_norm.specs.Constraints.{Weighted, terms_of}
use Rattle.pb_norm.specs.Reduction.{opposite}
use Rattle.pb_dimacs.specs.WcnfText.{soft_text, softs_text}

-- the line of a term
abbrev pub cost_line : Term → List ℕ
cost_line t = soft_text t.coef (negated t.lit)

pub cost_lines : (ws : List Weighted) → flat_map cost_line (terms_of ws) ≡ softs_text (map opposite ws)
cost_lines [] = refl
cost_lines (w ∷ ws) = ap (λ (text : List ℕ). soft_text (pos w.coef) (negated w.lit) ++ text) (cost_lines ws)

-- as it is written
pub line_written : (t : Term) (turned : Lit) → FitsSigned w128 t.coef → turned ≡ negated t.lit → soft_text (to_z w128 (of_z w128 t.coef)) turned ≡ cost_line t
line_written t turned fits is = ap (λ (z : ℤ). soft_text z turned) (to_z-of_z w128 t.coef fits) ∙ ap (soft_text t.coef) is
