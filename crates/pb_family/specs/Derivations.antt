-- Steps as the code that hands them over has their parts (our own).
use Rattle.std.specs.Prelude.{ℕ, zero, suc, ◌+◌, ◌*◌, ◌≤◌, ◌<◌, ◌^◌, List, [], ◌∷◌, ◌++◌, All}
use Rattle.pb_base.specs.declared.literal.Lit.{Lit}
use Rattle.pb_norm.specs.Constraints.{Weighted}
use Rattle.pb_steps.specs.declared.op.PolOp.{PolOp}
use Rattle.pb_steps.specs.declared.step.Step.{Step}
use Rattle.pb_derive.specs.Claims.{claim_steps}
use Rattle.pb_derive.specs.Reifications.{reification_steps}
use Rattle.pb_derive.specs.Justifications.{by_justification, closing}
use Rattle.pb_derive.specs.Rups.{by_rup}

-- each variable is from 1 on, and below a number
abbrev pub AreOriginal : ℕ → List Weighted → Type 0
AreOriginal first ts = All (λ t. (1 ≤ t.lit.var) × (t.lit.var < first)) ts

-- the two steps of a reification, of which the first takes the id `next`
abbrev pub meant : ℕ → ℕ → List Weighted → ℕ → List Step
meant next var sum least = reification_steps next (record { var = var; sum = sum; least = least } ∷ [])

-- what a clause's constraints leave, whatever the clause is
abbrev pub closed : List ℕ → List ℕ → List PolOp
closed ids weakened = closing (record { clause = []; ids = ids; weakened = weakened })

-- the two steps of a clause that follows from constraints without some variables
abbrev pub claimed : ℕ → List ℕ → List ℕ → List Step
claimed next ids weakened = claim_steps next (by_justification (record { clause = []; ids = ids; weakened = weakened }) ∷ [])

-- and of one that propagation shows
abbrev pub propagated : ℕ → List ℕ → List Lit → List Step
propagated next ids clause = claim_steps next (by_rup ids clause ∷ [])

-- steps for each of n places from a on, each of which takes as many ids
abbrev pub pieces : (ℕ → ℕ → List Step) → ℕ → ℕ → ℕ → ℕ → List Step
pieces piece width next a zero = []
pieces piece width next a (suc n) = piece next a ++ pieces piece width (next + width) (a + 1) n

-- parts of a derivation one behind another, each of so many pieces, which take as many ids
abbrev pub in_turn : {P : Type 0} → (P → ℕ) → (P → ℕ) → (P → ℕ → ℕ → List Step) → ℕ → List P → List Step
in_turn count width piece next [] = []
in_turn count width piece next (p ∷ ps) = pieces (piece p) (width p) next 0 (count p) ++ in_turn count width piece (next + width p * count p) ps

-- how many ids they take
abbrev pub ids_in_turn : {P : Type 0} → (P → ℕ) → (P → ℕ) → List P → ℕ
ids_in_turn count width [] = 0
ids_in_turn count width (p ∷ ps) = width p * count p + ids_in_turn count width ps

-- where a derivation may start: the first fresh variable and how many there are, the id of the constraint, and the next one
pub record MayStart (first fresh id next : ℕ) : Type 0 where
  pub low : 1 ≤ first
  pub fits : first + fresh ≤ 2 ^ 31
  pub given : 1 ≤ id
  pub known : id < next
  pub few : next ≤ 2 ^ 61
