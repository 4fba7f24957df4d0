-- The groups of a problem are light, and over its variables.
use Rattle.std.proofs.Common.{◌≤◌, ◌<◌, ◌+◌, ◌^◌, ℕ, List, [], ◌∷◌, length, sym, subst, arith}
use Rattle.std.specs.Prelude.{All}
use Rattle.std.proofs.lemmas.List.Elements.{All-nil, All-cons, All-head, All-tail, All-append, All-weaker}
use Rattle.pb_base.specs.declared.problem.Problem.{Problem}
use Rattle.pb_base.specs.declared.problem.Raw.{Raw}
use Rattle.pb_base.specs.Problems.{IsSumWithin, IsWithinLimits, StaysBelow, originals}
use Rattle.pb_norm.specs.declared.halves.Half.{Half}
use Rattle.pb_norm.specs.Constraints.{Constraint, weight}
use Rattle.pb_norm.specs.Halves.{half_of, loaded}
use Rattle.pb_norm.specs.Products.{defining, loaded_of}
use Rattle.pb_norm.proofs.ClauseTerms.{length-weight}
use Rattle.pb_norm.proofs.ProductForms.{IsFormOver}
use Rattle.pb_base.specs.declared.options.Options.{Options}
use Rattle.pb_choice.proofs.Composition.{IsOneBelow, IsReady}
use Rattle.pb_encode.specs.declared.groups.Group.{Group}
use Rattle.pb_encode.specs.declared.groups.Group.TheVariants.{Alone, Paired}
use Rattle.pb_encode.specs.Groups.{groups_of}
use Rattle.pb_encode.specs.inner.GroupPlans.{IsSound}
use Rattle.pb_encode.proofs.ChoiceLaws.{IsLight, light_below}
use Rattle.pb_encode.proofs.GroupDerivations.{IsGroupLight}
use Rattle.pb_encode.proofs.GroupLists.{groups_by, groups_matched, members_loaded}
use Rattle.pb_encode.proofs.HalfLists.{loaded_each}
use Rattle.pb_encode.proofs.HalfSizes.{half_light, half_short}
use Rattle.pb_encode.proofs.Solutions.{forms_over, loaded_ready}

-- few terms, and small numbers
pub record IsSmall (c : Constraint) : Type 0 where
  pub weight : weight c.terms < 2 ^ 100
  pub few : length c.terms ≤ 2 ^ 20 + 1

half_small : (s : Raw) (half : Half) → StaysBelow (2 ^ 100) s → length s.terms ≤ 2 ^ 20 → IsSmall (half_of half s)
half_small s half small few = record { weight = half_light half s (2 ^ 100) small; few = omega (arith, half_short half s, few) }

pub loaded_small : (vars : ℕ) (ss : List Raw) → All (StaysBelow (2 ^ 100)) ss → All (λ s. IsSumWithin vars s.terms) ss → All IsSmall (loaded ss)
loaded_small vars ss small within =
    loaded_each IsSmall (λ s. StaysBelow (2 ^ 100) s × IsSumWithin vars s.terms) (λ s half h. half_small s half h.0 h.1.count) ss (λ i d w. (small i d w, within i d w))

light_each : (o : Options) (n : ℕ) (cs : List Constraint) → All (IsReady o n) cs → All IsSmall cs → All (IsLight o n) cs
light_each o n [] ready small = All-nil (IsLight o n)
light_each o n (c ∷ cs) ready small =
    let here = All-head IsSmall c cs small in
    All-cons (IsLight o n) c cs (record { ready = All-head (IsReady o n) c cs ready; weight = here.weight; few = here.few })
    (light_each o n cs (All-tail (IsReady o n) c cs ready) (All-tail IsSmall c cs small))

module _ (o : Options) (p : Problem) (within : IsWithinLimits p) where
  pub all_small : All IsSmall (loaded_of p)
  all_small =
      All-append IsSmall (defining (p.vars + 1) p.products) (loaded p.statements)
      (All-weaker (IsFormOver (IsOneBelow (originals p + 1))) IsSmall (λ c form. record { weight = omega (arith, form.weight); few = omega (arith, form.weight, length-weight c.terms form.linear.positive) }) (defining (p.vars + 1) p.products) (forms_over p within))
      (loaded_small (originals p) p.statements within.numbers within.sums)

  pub groups_light : All (IsGroupLight o (originals p + 1)) (groups_of p)
  groups_light =
      let Light = IsLight o (originals p + 1) in
      groups_by Light (groups_of p) (groups_matched p) (subst (All Light) (sym (members_loaded p)) (light_each o (originals p + 1) (loaded_of p) (loaded_ready o p within) all_small))

-- ---- below any greater number

light_sound : (o : Options) (n first : ℕ) (g : Group) → n ≤ first → IsGroupLight o n g → IsSound first g
light_sound o n first (Alone c) le light = record { light = light.weight; below = light_below o n first c le light }
light_sound o n first (Paired c d) le both = record { light = (both.lower.weight, both.upper.weight); below = (light_below o n first c le both.lower, light_below o n first d le both.upper) }

pub groups_sound : (o : Options) (p : Problem) (first : ℕ) → IsWithinLimits p → originals p < first → All (IsSound first) (groups_of p)
groups_sound o p first within later =
    All-weaker (IsGroupLight o (originals p + 1)) (IsSound first) (λ g light. light_sound o (originals p + 1) first g (omega (arith, later)) light) (groups_of p) (groups_light o p within)
