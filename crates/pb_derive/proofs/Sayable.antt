-- Lines can say the steps of derivations, where ids and variables are within their limits.
use Rattle.std.proofs.Common.{◌≡◌, ◌≤◌, ◌<◌, ◌+◌, ◌*◌, ◌^◌, ℕ, zero, suc, Bool, true, false, cond, List, [], ◌∷◌, ◌++◌, length, map, arith, ltb, pos}
use Rattle.std.specs.Prelude.{All, ◌≤ℤ◌}
use Rattle.std.specs.List.{AllByRecursion}
use Rattle.std.proofs.lemmas.Int.{ints}
use Rattle.std.proofs.lemmas.List.Elements.{All-nil, All-cons, All-head, All-tail, All-append, All-map, recursion_from_All}
use Rattle.pb_base.specs.declared.literal.Lit.{Lit}
use Rattle.pb_norm.specs.ClauseForm.{one_of, distinct}
use Rattle.pb_norm.specs.Constraints.{Weighted, Constraint, weight, terms_of}
use Rattle.pb_norm.specs.Reduction.{opposite}
use Rattle.pb_steps.specs.declared.step.Step.{Step}
use Rattle.pb_steps.specs.declared.step.Step.TheVariants.{Pol, Rup, Del, Out}
use Rattle.pb_steps.specs.Sayable.{IsId, IsVariable, IsOp, IsTerm, IsSayable}
use Rattle.pb_derive.specs.Claims.{Claim, claim_steps}
use Rattle.pb_derive.specs.Deletions.{deletion_steps}
use Rattle.pb_derive.specs.Reifications.{Reification, spare, forward_of, reverse_of, redundant, reification_steps}
use Rattle.pb_derive.specs.Phases.{phases}
use Rattle.pb_derive.specs.Justifications.{widest, closing}
use Rattle.pb_derive.specs.Rups.{by_rup}
use Rattle.pb_derive.proofs.ClauseClaims.{distinct-all}
use Rattle.pb_derive.proofs.Reasoned.{closing-all}

abbrev pub IsSlimTerm : Weighted → Type 0
IsSlimTerm t = (t.coef < 2 ^ 126) × IsVariable t.lit.var

terms_sayable : (ts : List Weighted) → All IsSlimTerm ts → AllByRecursion IsTerm (terms_of ts)
terms_sayable [] h = tt
terms_sayable (t ∷ ts) h = (All-head IsSlimTerm t ts h, terms_sayable ts (All-tail IsSlimTerm t ts h))

redundant_sayable : (c : Constraint) (v : ℕ) (value : Bool) → All IsSlimTerm c.terms → c.degree < 2 ^ 126 → IsVariable v → IsSayable (redundant c v value)
redundant_sayable c v value terms degree known =
    let least = known.0 in
    let above : 0 < v = omega (arith, least) in
    (terms_sayable c.terms terms, degree, (above, known.1, tt))

-- a reification whose numbers and variables are within their limits
pub record IsSlimReification (m : Reification) : Type 0 where
  pub sum : All IsSlimTerm m.sum
  pub var : IsVariable m.var
  pub light : weight m.sum + m.least < 2 ^ 124

forward_sayable : (m : Reification) → IsSlimReification m → IsSayable (redundant (forward_of m) m.var false)
forward_sayable m h =
    let light = h.light in
    let least : m.least < 2 ^ 126 = omega (arith, light) in
    redundant_sayable (forward_of m) m.var false (All-cons IsSlimTerm (record { coef = m.least; lit = record { var = m.var; positive = false } }) m.sum (least, h.var) h.sum) least h.var

reverse_sayable : (m : Reification) → IsSlimReification m → IsSayable (redundant (reverse_of m) m.var true)
reverse_sayable m h =
    let light = h.light in
    let least : spare m < 2 ^ 126 = omega (arith, light) in
    redundant_sayable (reverse_of m) m.var true (All-cons IsSlimTerm (record { coef = spare m; lit = record { var = m.var; positive = true } }) (map opposite m.sum) (least, h.var) (All-map IsSlimTerm opposite m.sum h.sum)) least h.var

nothing_sayable : (id : ℕ) → IsId id → IsSayable (Rup [] (pos 0) (id ∷ []))
nothing_sayable id h = let small : 0 < 2 ^ 126 = omega arith in (tt, small, (h, tt))

pub reifications_sayable : (next : ℕ) (ms : List Reification) → 1 ≤ next → next + 2 * length ms < 2 ^ 63 → All IsSlimReification ms → All IsSayable (reification_steps next ms)
reifications_sayable next [] low high h = All-nil IsSayable
reifications_sayable next (m ∷ ms) low high h =
    let own = All-head IsSlimReification m ms h in
    let second : Step = cond {A = Step} (ltb (weight m.sum) m.least) (Rup [] (pos 0) (next ∷ [])) (redundant (reverse_of m) m.var true) in
    let id : IsId next = (low, (let small : next < 2 ^ 63 = omega (arith, high) in small)) in
    All-cons IsSayable (redundant (forward_of m) m.var false) (second ∷ reification_steps (next + 2) ms) (forward_sayable m own)
    (All-cons IsSayable second (reification_steps (next + 2) ms) (either (ltb (weight m.sum) m.least) id own)
    (reifications_sayable (next + 2) ms (omega (arith, low)) (omega (arith, high)) (All-tail IsSlimReification m ms h)))
  where
    either : (b : Bool) → IsId next → IsSlimReification m → IsSayable (cond {A = Step} b (Rup [] (pos 0) (next ∷ [])) (redundant (reverse_of m) m.var true))
    either true id own = nothing_sayable next id
    either false id own = reverse_sayable m own

pub claims_sayable : (next : ℕ) (cs : List Claim) → 1 ≤ next → next + length cs < 2 ^ 63 → All (λ c. IsSayable c.step) cs → All IsSayable (claim_steps next cs)
claims_sayable next [] low high h = All-nil IsSayable
claims_sayable next (c ∷ cs) low high h =
    let id : IsId next = (low, (let small : next < 2 ^ 63 = omega (arith, high) in small)) in
    All-cons IsSayable c.step (Out next ∷ claim_steps (next + 1) cs) (All-head (λ (c : Claim). IsSayable c.step) c cs h)
    (All-cons IsSayable (Out next) (claim_steps (next + 1) cs) id
    (claims_sayable (next + 1) cs (omega (arith, low)) (omega (arith, high)) (All-tail (λ (c : Claim). IsSayable c.step) c cs h)))

some_ids : (id : ℕ) (ids : List ℕ) → id ∷ ids ≡ [] → ⊥
some_ids id ids e = cc

pub deletions_sayable : (id n : ℕ) → 1 ≤ id → id + 2 * n < 2 ^ 63 → All IsSayable (deletion_steps 2 id n)
deletions_sayable id zero low high = All-nil IsSayable
deletions_sayable id (suc n) low high =
    let one : IsId id = (low, (let small : id < 2 ^ 63 = omega (arith, high) in small)) in
    let two : IsId (id + 1) = ((let least : 1 ≤ id + 1 = omega (arith, low) in least), (let small : id + 1 < 2 ^ 63 = omega (arith, high) in small)) in
    All-cons IsSayable (Del (id ∷ (id + 1) ∷ [])) (deletion_steps 2 (id + 2) n) ((one, (two, tt)), some_ids id ((id + 1) ∷ []))
    (deletions_sayable (id + 2) n (omega (arith, low)) (omega (arith, high)))

pub phases_sayable : (next : ℕ) (ms : List Reification) (cs : List Claim) → 1 ≤ next → next + 2 * length ms + length cs < 2 ^ 63 → All IsSlimReification ms → All (λ c. IsSayable c.step) cs → All IsSayable (phases next ms cs)
phases_sayable next ms cs low high h k =
    All-append IsSayable (reification_steps next ms) (claim_steps (next + 2 * length ms) cs ++ deletion_steps 2 next (length ms)) (reifications_sayable next ms low (omega (arith, high)) h)
    (All-append IsSayable (claim_steps (next + 2 * length ms) cs) (deletion_steps 2 next (length ms)) (claims_sayable (next + 2 * length ms) cs (omega (arith, low)) (omega (arith, high)) k) (deletions_sayable next (length ms) low (omega (arith, high))))

-- the line of a justification
pub closing_sayable : (clause : List Lit) (id : ℕ) (ids vs : List ℕ) → All IsId (id ∷ ids) → All IsVariable vs → IsSayable (Pol (closing (record { clause = clause; ids = id ∷ ids; weakened = vs })))
closing_sayable clause id ids vs known gone =
    let one : pos 1 ≤ℤ pos widest = omega (arith, ints) in
    let small : widest < 2 ^ 126 = omega arith in
    recursion_from_All IsOp (closing (record { clause = clause; ids = id ∷ ids; weakened = vs })) (closing-all IsOp clause id ids vs known tt gone (one, small))

ones_sayable : (ls : List Lit) → All (λ l. IsVariable l.var) ls → AllByRecursion IsTerm (map one_of ls)
ones_sayable [] h = tt
ones_sayable (l ∷ ls) h =
    let small : 1 < 2 ^ 126 = omega arith in
    ((small, All-head (λ (l : Lit). IsVariable l.var) l ls h), ones_sayable ls (All-tail (λ (l : Lit). IsVariable l.var) l ls h))

-- the line of a clause by propagation
pub rup_sayable : (ids : List ℕ) (clause : List Lit) → All IsId ids → All (λ l. IsVariable l.var) clause → IsSayable (by_rup ids clause).step
rup_sayable ids clause known vars =
    let small : 1 < 2 ^ 126 = omega arith in
    (ones_sayable (distinct clause) (distinct-all (λ l. IsVariable l.var) clause vars), small, recursion_from_All IsId ids known)
