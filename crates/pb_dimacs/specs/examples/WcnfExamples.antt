-- Worked examples of weighted CNF text.
use Rattle.std.specs.Prelude.{◌≡◌, ◌^◌, ℕ, true, false, pos, negsuc, [], ◌∷◌, refl, codes}
use Rattle.std.proofs.Common.{lit≤}
use Rattle.std.specs.Fmt.{digits}
use Rattle.pb_base.specs.declared.literal.Lit.{Lit}
use Rattle.pb_norm.specs.Constraints.{Weighted}
use Rattle.pb_dimacs.specs.WcnfReading.{WcnfReads}
use Rattle.pb_dimacs.specs.WcnfReading.WeightedClause.{hard, soft}
use Rattle.pb_dimacs.specs.WcnfText.{soft_text, wcnf_text}

abbrev plus : ℕ → Lit
plus v = record { var = v; positive = true }

abbrev minus : ℕ → Lit
minus v = record { var = v; positive = false }

abbrev weighing : ℕ → Lit → Weighted
weighing coef l = record { coef = coef; lit = l }

-- one of two, where the first costs 3 and the second 1, and 1 less in any case
pub two_costs : wcnf_text (negsuc 0) ((plus 1 ∷ plus 2 ∷ []) ∷ []) (weighing 3 (minus 1) ∷ weighing 1 (minus 2) ∷ []) ≡ codes "c offset -1\nh 1 2 0\n3 -1 0\n1 -2 0\n"
unfolding digits
two_costs = refl

pub no_costs : wcnf_text (pos 0) ([] ∷ []) [] ≡ codes "c offset 0\nh 0\n"
unfolding digits
no_costs = refl

pub a_great_weight : soft_text (pos (2 ^ 99)) (plus 1) ≡ codes "633825300114114700748351602688 1 0\n"
unfolding digits
a_great_weight = refl

-- comments are passed over, and a soft clause may have more literals
pub what_a_text_says : WcnfReads (codes "c note\nh 1 -2 0\n7 2 1 0\n\nh 0") (hard (plus 1 ∷ minus 2 ∷ []) ∷ soft 7 (plus 2 ∷ plus 1 ∷ []) ∷ hard [] ∷ [])
what_a_text_says = ((refl, refl), ((refl, lit≤ tt, refl), ((refl, refl), tt)))
