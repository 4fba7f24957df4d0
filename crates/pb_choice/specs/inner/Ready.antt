-- When the clauses of an equality's plan may be handed over, and when their derivation may. Our own.
use Rattle.std.specs.Prelude.{ℕ, ◌≤◌, ◌<◌, ◌+◌, ◌^◌}
use Rattle.pb_choice.specs.declared.equal.EqualPlan.{EqualPlan}
use Rattle.pb_choice.specs.EqualPlans.{planned_count, planned_fresh, IsPlannedBelow}

-- the fresh variables are numbered from the first number on, behind all others
pub record MayEmit (first : ℕ) (plan : EqualPlan) : Type 0 where
  pub original : IsPlannedBelow first plan
  pub from : 1 ≤ first
  pub fits : first + planned_fresh plan ≤ 2 ^ 31

-- the halves have the ids `low` and `high`, which come before the next one
pub record MayDerive (first low high next : ℕ) (plan : EqualPlan) : Type 0 where
  pub emits : MayEmit first plan
  pub clauses : planned_count plan ≤ 2 ^ 56
  pub low_given : 1 ≤ low
  pub low_known : low < next
  pub high_given : 1 ≤ high
  pub high_known : high < next
  pub few : next ≤ 2 ^ 60
