-- How many bytes the lines of derivations take at most, by the parts of their steps.
use Rattle.std.proofs.Common.{◌≡◌, ◌≤◌, ◌+◌, ◌*◌, ℕ, zero, suc, Bool, true, false, cond, List, [], ◌∷◌, ◌++◌, length, map, refl, arith, ltb, pos}
use Rattle.std.specs.Prelude.{All, flat_map, sum_by}
use Rattle.std.proofs.lemmas.List.{length-map}
use Rattle.std.proofs.lemmas.List.Elements.{All-nil, All-cons, All-head, All-tail, All-append}
use Rattle.std.proofs.lemmas.List.Sums.{sum_by-cons, sum_by-append}
use Rattle.pb_base.specs.declared.literal.Lit.{Lit}
use Rattle.pb_norm.specs.ClauseForm.{one_of, distinct}
use Rattle.pb_norm.specs.Constraints.{Constraint, weight, term_of}
use Rattle.pb_norm.specs.Reduction.{opposite}
use Rattle.pb_steps.specs.declared.op.PolOp.TheVariants.{Push, Add, Div, Weaken}
use Rattle.pb_steps.specs.declared.step.Step.{Step}
use Rattle.pb_steps.specs.declared.step.Step.TheVariants.{Pol, Rup, Del, Out}
use Rattle.pb_steps.specs.StepSizes.{op_size, step_size}
use Rattle.pb_derive.specs.Claims.{Claim, claim_steps}
use Rattle.pb_derive.specs.Deletions.{deletion_steps}
use Rattle.pb_derive.specs.Reifications.{Reification, forward_of, reverse_of, redundant, reification_steps}
use Rattle.pb_derive.specs.Phases.{phases}
use Rattle.pb_derive.specs.Justifications.{Justification, widest, push_and_add, adding, closing}
use Rattle.pb_derive.specs.Rups.{by_rup}
use Rattle.pb_derive.proofs.Rups.{distinct-length}

-- ---- clauses

adds-size : (ids : List ℕ) → sum_by op_size (flat_map push_and_add ids) ≡ 22 * length ids
adds-size [] = refl
adds-size (id ∷ ids) =
    let push : op_size (Push id) ≡ 20 = refl in
    let plus : op_size Add ≡ 2 = refl in
    omega (arith, sum_by-cons op_size (Push id) (Add ∷ flat_map push_and_add ids), sum_by-cons op_size Add (flat_map push_and_add ids), push, plus, adds-size ids)

pub adding-size : (ids : List ℕ) → sum_by op_size (adding ids) ≤ 22 * length ids
adding-size [] = omega arith
adding-size (id ∷ ids) =
    let push : op_size (Push id) ≡ 20 = refl in
    omega (arith, sum_by-cons op_size (Push id) (flat_map push_and_add ids), push, adds-size ids)

pub weakens-size : (vs : List ℕ) → sum_by op_size (map Weaken vs) ≡ 14 * length vs
weakens-size [] = refl
weakens-size (v ∷ vs) =
    let here : op_size (Weaken v) ≡ 14 = refl in
    omega (arith, sum_by-cons op_size (Weaken v) (map Weaken vs), here, weakens-size vs)

-- the line of a justification
pub closing-size : (r : Justification) → step_size (Pol (closing r)) ≤ 45 + 22 * length r.ids + 14 * length r.weakened
closing-size r =
    let last = Div (pos widest) ∷ [] in
    let division : op_size (Div (pos widest)) ≡ 41 = refl in
    omega (
      arith,
      sum_by-append op_size (adding r.ids) (map Weaken r.weakened ++ last),
      sum_by-append op_size (map Weaken r.weakened) last,
      sum_by-cons op_size (Div (pos widest)) [],
      division,
      adding-size r.ids,
      weakens-size r.weakened,
    )

-- the line of a clause by propagation
pub rup-size : (ids : List ℕ) (clause : List Lit) → step_size (by_rup ids clause).step ≤ 49 + 53 * length clause + 20 * length ids
rup-size ids clause = omega (arith, length-map (distinct clause) one_of, distinct-length clause)

-- ---- reifications

pub redundant-size : (c : Constraint) (v : ℕ) (value : Bool) → step_size (redundant c v value) ≡ 66 + 53 * length c.terms
redundant-size c v value = omega (arith, length-map c.terms term_of)

forward-size : (m : Reification) → step_size (redundant (forward_of m) m.var false) ≡ 119 + 53 * length m.sum
forward-size m = omega (arith, redundant-size (forward_of m) m.var false)

reverse-size : (m : Reification) → step_size (redundant (reverse_of m) m.var true) ≡ 119 + 53 * length m.sum
reverse-size m = omega (arith, redundant-size (reverse_of m) m.var true, length-map m.sum opposite)

-- the second line, as it is
abbrev second_line : ℕ → Reification → Bool → Step
second_line id m b = cond {A = Step} b (Rup [] (pos 0) (id ∷ [])) (redundant (reverse_of m) m.var true)

second-size : (id : ℕ) (m : Reification) (b : Bool) → step_size (second_line id m b) ≤ 119 + 53 * length m.sum
second-size id m true = omega arith
second-size id m false = omega (arith, reverse-size m)

-- ---- the three parts

pub reifications-size : (most next : ℕ) (ms : List Reification) → All (λ m. 238 + 106 * length m.sum ≤ most) ms → sum_by step_size (reification_steps next ms) ≤ most * length ms
reifications-size most next [] h = omega arith
reifications-size most next (m ∷ ms) h =
    let first : Step = redundant (forward_of m) m.var false in
    let second : Step = second_line next m (ltb (weight m.sum) m.least) in
    omega (
      arith,
      sum_by-cons step_size first (second ∷ reification_steps (next + 2) ms),
      sum_by-cons step_size second (reification_steps (next + 2) ms),
      forward-size m,
      second-size next m (ltb (weight m.sum) m.least),
      All-head (λ (m : Reification). 238 + 106 * length m.sum ≤ most) m ms h,
      reifications-size most (next + 2) ms (All-tail (λ (m : Reification). 238 + 106 * length m.sum ≤ most) m ms h),
    )

pub claims-size : (next : ℕ) (cs : List Claim) → sum_by step_size (claim_steps next cs) ≡ sum_by (λ c. step_size c.step) cs + 24 * length cs
claims-size next [] = refl
claims-size next (c ∷ cs) =
    let out : step_size (Out next) ≡ 24 = refl in
    omega (
      arith,
      sum_by-cons step_size c.step (Out next ∷ claim_steps (next + 1) cs),
      sum_by-cons step_size (Out next) (claim_steps (next + 1) cs),
      sum_by-cons (λ (c : Claim). step_size c.step) c cs,
      out,
      claims-size (next + 1) cs,
    )

pub deletions-size : (id n : ℕ) → sum_by step_size (deletion_steps 2 id n) ≡ 44 * n
deletions-size id zero = refl
deletions-size id (suc n) =
    let here : step_size (Del (id ∷ (id + 1) ∷ [])) ≡ 44 = refl in
    omega (arith, sum_by-cons step_size (Del (id ∷ (id + 1) ∷ [])) (deletion_steps 2 (id + 2) n), here, deletions-size (id + 2) n)

pub phases-size : (most next : ℕ) (ms : List Reification) (cs : List Claim) → All (λ m. 238 + 106 * length m.sum ≤ most) ms
    → sum_by step_size (phases next ms cs) ≤ most * length ms + 44 * length ms + (sum_by (λ c. step_size c.step) cs + 24 * length cs)
phases-size most next ms cs h =
    let claims = claim_steps (next + 2 * length ms) cs in
    let gone = deletion_steps 2 next (length ms) in
    omega (
      arith,
      sum_by-append step_size (reification_steps next ms) (claims ++ gone),
      sum_by-append step_size claims gone,
      reifications-size most next ms h,
      claims-size (next + 2 * length ms) cs,
      deletions-size next (length ms),
    )

-- ---- each line

module _ (most : ℕ) (room : 44 ≤ most) where
  abbrev Fits : Step → Type 0
  Fits s = step_size s ≤ most

  pub reifications_each : (next : ℕ) (ms : List Reification) → All (λ m. 119 + 53 * length m.sum ≤ most) ms → All Fits (reification_steps next ms)
  reifications_each next [] h = All-nil Fits
  reifications_each next (m ∷ ms) h =
      let own = All-head (λ (m : Reification). 119 + 53 * length m.sum ≤ most) m ms h in
      let second : Step = second_line next m (ltb (weight m.sum) m.least) in
      All-cons Fits (redundant (forward_of m) m.var false) (second ∷ reification_steps (next + 2) ms) (omega (arith, forward-size m, own))
      (All-cons Fits second (reification_steps (next + 2) ms) (omega (arith, second-size next m (ltb (weight m.sum) m.least), own))
      (reifications_each (next + 2) ms (All-tail (λ (m : Reification). 119 + 53 * length m.sum ≤ most) m ms h)))

  pub claims_each : (next : ℕ) (cs : List Claim) → All (λ c. step_size c.step ≤ most) cs → All Fits (claim_steps next cs)
  claims_each next [] h = All-nil Fits
  claims_each next (c ∷ cs) h =
      let out : step_size (Out next) ≡ 24 = refl in
      All-cons Fits c.step (Out next ∷ claim_steps (next + 1) cs) (All-head (λ (c : Claim). step_size c.step ≤ most) c cs h)
      (All-cons Fits (Out next) (claim_steps (next + 1) cs) (omega (arith, out, room))
      (claims_each (next + 1) cs (All-tail (λ (c : Claim). step_size c.step ≤ most) c cs h)))

  pub deletions_each : (id n : ℕ) → All Fits (deletion_steps 2 id n)
  deletions_each id zero = All-nil Fits
  deletions_each id (suc n) =
      let here : step_size (Del (id ∷ (id + 1) ∷ [])) ≡ 44 = refl in
      All-cons Fits (Del (id ∷ (id + 1) ∷ [])) (deletion_steps 2 (id + 2) n) (omega (arith, here, room)) (deletions_each (id + 2) n)

  pub phases_each : (next : ℕ) (ms : List Reification) (cs : List Claim) → All (λ m. 119 + 53 * length m.sum ≤ most) ms → All (λ c. step_size c.step ≤ most) cs → All Fits (phases next ms cs)
  phases_each next ms cs h k =
      All-append Fits (reification_steps next ms) (claim_steps (next + 2 * length ms) cs ++ deletion_steps 2 next (length ms)) (reifications_each next ms h)
      (All-append Fits (claim_steps (next + 2 * length ms) cs) (deletion_steps 2 next (length ms)) (claims_each (next + 2 * length ms) cs k) (deletions_each next (length ms)))

pub each_all : (most : ℕ) (steps : List Step) → All (λ s. step_size s ≤ most) steps → sum_by step_size steps ≤ most * length steps
each_all most [] h = omega arith
each_all most (s ∷ steps) h = omega (arith, sum_by-cons step_size s steps, All-head (λ (s : Step). step_size s ≤ most) s steps h, each_all most steps (All-tail (λ (s : Step). step_size s ≤ most) s steps h))
