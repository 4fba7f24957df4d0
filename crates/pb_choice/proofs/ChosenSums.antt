-- What is asked of the family that was chosen for a sum is asked of the family's own sum.
use Rattle.std.proofs.Common.{◌≡◌, ◌≤◌, ◌+◌, ◌^◌, ℕ, sym, subst}
use Rattle.pb_norm.specs.BoundedSums.{BoundedSum}
use Rattle.pb_family.specs.Families.{VarsBelow}
use Rattle.pb_choice.specs.declared.chosen.Chosen.{Chosen}
use Rattle.pb_choice.specs.declared.treatment.Treatment.{Treatment}
use Rattle.pb_choice.specs.Chosen.{sum_at, treatment_at}
use Rattle.pb_choice.specs.Sums.{sum_fresh}

abbrev Asked : ℕ → Treatment → BoundedSum → Type 0
Asked first t m = VarsBelow first m.terms × (first + sum_fresh t m ≤ 2 ^ 31)

pub asked : {f e : Chosen} {m : BoundedSum} (first : ℕ) → f ≡ e → m ≡ sum_at e → VarsBelow first (sum_at f).terms → first + sum_fresh (treatment_at f) (sum_at f) ≤ 2 ^ 31 → Asked first (treatment_at e) m
asked {e = e} first is over original fits = subst (Asked first (treatment_at e)) (sym over) (subst (λ (f : Chosen). Asked first (treatment_at f) (sum_at f)) is (original, fits))
