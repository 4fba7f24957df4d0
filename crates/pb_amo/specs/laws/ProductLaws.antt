-- The laws of the product encoding.
use Rattle.std.proofs.Common.{◌≡◌, ◌<◌, ℕ, true, List, length, ap, ◌∙◌, arith, inl, inr}
use Rattle.std.proofs.lemmas.List.{length-map}
use Rattle.std.proofs.lemmas.List.Elements.{All-map, Contains-get_or}
use Rattle.pb_base.specs.declared.literal.Lit.{Lit}
use Rattle.pb_base.specs.Literals.{Assignment, lit_value, IsModel, AgreeBelow}
use Rattle.pb_norm.specs.Constraints.{Weighted}
use Rattle.pb_norm.specs.BoundedSums.{BoundedSum, StaysWithin, IsOverDistinct}
use Rattle.pb_norm.specs.Reduction.{lits_of, all_weigh}
use Rattle.pb_family.specs.Fresh.{positive_of, literal_at}
use Rattle.pb_family.specs.Families.{VarsBelow, NamesOnly, IsNamed}
use Rattle.pb_family.proofs.UnitSums.{unit_sum}
use Rattle.pb_family.proofs.FlatRanges.{All-itself}
use Rattle.pb_family.proofs.Pushes.{Pushes, sound_from_pushes, propagates_from_pushes}
use Rattle.pb_amo.specs.Product.{product_fresh, product_count, product_clauses}
use Rattle.pb_norm.specs.ClausePropagation.{ClausesPropagate}
use Rattle.pb_amo.specs.laws.GridPushes.{pushes_within}
use Rattle.pb_amo.specs.laws.GridNames.{names_within, counts_within}
use Rattle.pb_amo.specs.laws.GridExtends.{extends_within}
use Rattle.pb_family.proofs.TermVars.{among_vars}

module _ (c : BoundedSum) (one : c.bound ≡ 1) (units : all_weigh 1 c.terms ≡ true) (first : ℕ) where
  abbrev ms : List Lit
  ms = lits_of c.terms

  pushes : (given : List Lit) → Pushes (product_clauses ms first) given ms
  pushes given = pushes_within (product_clauses ms first) given (length ms) ms first (All-itself (product_clauses ms first))

  pub product_sound : (v : Assignment) → IsModel v (product_clauses ms first) → StaysWithin v c
  product_sound v model = sound_from_pushes (product_clauses ms first) c one units pushes v model

  pub product_propagates : IsOverDistinct c.terms → ClausesPropagate (product_clauses ms first) (λ a. StaysWithin a c)
  product_propagates distinct = propagates_from_pushes (product_clauses ms first) c one units pushes distinct

  pub product_extends : VarsBelow first c.terms → (v : Assignment) → StaysWithin v c → (w : Assignment) × AgreeBelow first v w × IsModel w (product_clauses ms first)
  product_extends below v holds =
      let count = unit_sum (lit_value v) c.terms units in
      let low = All-map (λ (m : Lit). m.var < first) (λ (t : Weighted). t.lit) c.terms below in
      extends_within (length ms) ms first (λ e h. low e (positive_of 0) h) v (omega arith)

pub product_names : (ts : List Weighted) (first : ℕ) → NamesOnly ts first (product_fresh (length ts)) (product_clauses (lits_of ts) first)
product_names ts first =
    let ms = lits_of ts in
    let size : length ms ≡ length ts = length-map ts (λ t. t.lit) in
    let fresh = ap product_fresh size in
    names_within (IsNamed ts first (product_fresh (length ts))) (length ms) ms first
    (λ e h. inl (among_vars ts (literal_at ms e) (Contains-get_or ms e (positive_of 0) h)))
    (λ x s low high. inr (low, omega arith))

pub product_counts : (ts : List Weighted) (first : ℕ) → length (product_clauses (lits_of ts) first) ≡ product_count (length ts)
product_counts ts first = counts_within (length (lits_of ts)) (lits_of ts) first ∙ ap product_count (length-map ts (λ t. t.lit))
