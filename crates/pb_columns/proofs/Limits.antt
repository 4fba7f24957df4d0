-- Statements under conditions are within the limits of statements.
use Rattle.std.proofs.Common.{◌≡◌, ◌≤◌, ◌<◌, ◌+◌, ◌-◌, ◌^◌, [], ◌∷◌, ℕ, zero, suc, length, length-append, List, pos, negsuc, ℤ, ◌-ℤ◌, ◌≤ℤ◌, neg_ℤ, arith, inl, inr, refl}
use Rattle.std.specs.Prelude.{All}
use Rattle.std.specs.Int.RustNames.{unsigned_abs}
use Rattle.std.proofs.lemmas.Int.{ints}
use Rattle.std.proofs.lemmas.List.Elements.{All-nil, All-cons, All-push}
use Rattle.std.proofs.lemmas.List.Sums.{sum_by-append}
use Rattle.pb_base.specs.declared.literal.Lit.{Lit}
use Rattle.pb_base.specs.declared.literal.Term.{Term}
use Rattle.pb_base.specs.declared.problem.Raw.{Raw}
use Rattle.pb_base.specs.declared.problem.Relation.{Relation}
use Rattle.pb_base.specs.declared.problem.Relation.TheVariants.{AtLeast, AtMost, Equal}
use Rattle.pb_base.specs.Literals.{negated}
use Rattle.pb_base.specs.Problems.{magnitude, IsSumWithin, StaysBelow}
use Rattle.pb_columns.specs.Columns.{IsLight, IsSumUnder}
use Rattle.pb_columns.specs.Conditions.{greatest, halves_under, least, least_under, literal_at, most_terms, most_under, negative_part, posed_under, positive_part, shift_down, shift_up, shifted, weight_limit}
use Rattle.pb_columns.proofs.Reaches.{above_least, abs_above, abs_below, below_greatest}

-- ---- the limits under a condition are no greater than without

pub few : (z : ℤ) → most_terms z ≤ 2 ^ 20
few (pos zero) = omega arith
few (pos (suc n)) = omega arith
few (negsuc n) = omega arith

pub small : (z : ℤ) → weight_limit z ≤ 2 ^ 100
small (pos zero) = omega arith
small (pos (suc n)) = omega arith
small (negsuc n) = omega arith

pub few_under : (z : ℤ) → (z ≡ pos 0 → ⊥) → most_terms z ≡ 2 ^ 20 - 1
few_under (pos zero) some = absurd (some refl)
few_under (pos (suc n)) some = refl
few_under (negsuc n) some = refl

pub small_under : (z : ℤ) → (z ≡ pos 0 → ⊥) → weight_limit z ≡ 2 ^ 99
small_under (pos zero) some = absurd (some refl)
small_under (pos (suc n)) some = refl
small_under (negsuc n) some = refl

pub light : (z : ℤ) (s : Raw) → IsLight z s → StaysBelow (2 ^ 100) s
light z s is = omega (arith, is, small z)

-- ---- numbers

up_small : (z : ℤ) (n : ℕ) → z ≤ℤ pos n → unsigned_abs (positive_part z) ≤ n
up_small (pos k) n h = omega (arith, ints, h)
up_small (negsuc k) n h = omega (arith, ints)

down_small : (z : ℤ) (n : ℕ) → neg_ℤ (pos n) ≤ℤ z → unsigned_abs (negative_part z) ≤ n
down_small (pos k) n h = omega (arith, ints)
down_small (negsuc k) n h = omega (arith, ints, h)

shift_up_small : (ts : List Term) (right : ℤ) → unsigned_abs (shift_up ts right) ≤ magnitude ts + unsigned_abs right
shift_up_small ts right =
    let far = above_least ts right in
    up_small (right -ℤ least ts) (magnitude ts + unsigned_abs right) (omega (arith, ints, far, abs_above (right -ℤ least ts)))

shift_down_small : (ts : List Term) (right : ℤ) → unsigned_abs (shift_down ts right) ≤ magnitude ts + unsigned_abs right
shift_down_small ts right =
    let far = below_greatest ts right in
    down_small (right -ℤ greatest ts) (magnitude ts + unsigned_abs right) (omega (arith, ints, far, abs_below (right -ℤ greatest ts)))

shifted_light : (l : Lit) (shift : ℤ) (r : Relation) (ts : List Term) (right : ℤ) → magnitude ts + unsigned_abs right < 2 ^ 99 → unsigned_abs shift ≤ magnitude ts + unsigned_abs right → StaysBelow (2 ^ 100) (record { terms = shifted l shift ts; relation = r; right = right })
shifted_light l shift r ts right below short =
    let size = sum_by-append (λ (t : Term). unsigned_abs t.coef) ts (record { coef = shift; lit = negated l } ∷ []) in
    omega (arith, below, short, size)

lower_light : (l : Lit) (ts : List Term) (right : ℤ) → magnitude ts + unsigned_abs right < 2 ^ 99 → StaysBelow (2 ^ 100) (least_under l ts right)
lower_light l ts right below = shifted_light l (shift_up ts right) AtLeast ts right below (shift_up_small ts right)

upper_light : (l : Lit) (ts : List Term) (right : ℤ) → magnitude ts + unsigned_abs right < 2 ^ 99 → StaysBelow (2 ^ 100) (most_under l ts right)
upper_light l ts right below = shifted_light l (shift_down ts right) AtMost ts right below (shift_down_small ts right)

halves_light : (l : Lit) (r : Relation) (ts : List Term) (right : ℤ) → magnitude ts + unsigned_abs right < 2 ^ 99 → All (StaysBelow (2 ^ 100)) (halves_under r l ts right)
halves_light l AtLeast ts right below = All-cons (StaysBelow (2 ^ 100)) (least_under l ts right) [] (lower_light l ts right below) (All-nil (StaysBelow (2 ^ 100)))
halves_light l AtMost ts right below = All-cons (StaysBelow (2 ^ 100)) (most_under l ts right) [] (upper_light l ts right below) (All-nil (StaysBelow (2 ^ 100)))
halves_light l Equal ts right below =
    All-cons (StaysBelow (2 ^ 100)) (least_under l ts right) (most_under l ts right ∷ []) (lower_light l ts right below)
    (All-cons (StaysBelow (2 ^ 100)) (most_under l ts right) [] (upper_light l ts right below) (All-nil (StaysBelow (2 ^ 100))))

pub posed_light : (z : ℤ) (s : Raw) → IsLight z s → All (StaysBelow (2 ^ 100)) (posed_under z s)
posed_light (pos zero) s is = All-cons (StaysBelow (2 ^ 100)) s [] is (All-nil (StaysBelow (2 ^ 100)))
posed_light (pos (suc n)) s is = halves_light (literal_at (pos (suc n))) s.relation s.terms s.right is
posed_light (negsuc n) s is = halves_light (literal_at (negsuc n)) s.relation s.terms s.right is

-- ---- variables and lengths

abbrev IsIn : ℕ → Raw → Type 0
IsIn vars s = IsSumWithin vars s.terms

-- a sum that has room for one term more
record HasRoom (vars : ℕ) (ts : List Term) : Type 0 where
  from : All (λ (t : Term). 1 ≤ t.lit.var) ts
  within : All (λ (t : Term). t.lit.var ≤ vars) ts
  short : length ts ≤ 2 ^ 20 - 1

shifted_in : (vars : ℕ) (l : Lit) (shift : ℤ) (ts : List Term) → 1 ≤ l.var → l.var ≤ vars → HasRoom vars ts → IsSumWithin vars (shifted l shift ts)
shifted_in vars l shift ts low high has = record {
  vars_from = All-push (λ (t : Term). 1 ≤ t.lit.var) ts (record { coef = shift; lit = negated l }) has.from low;
  vars_within = All-push (λ (t : Term). t.lit.var ≤ vars) ts (record { coef = shift; lit = negated l }) has.within high;
  count = (let size = length-append ts (record { coef = shift; lit = negated l } ∷ []) in let room = has.short in omega (arith, size, room));
}

halves_in : (vars : ℕ) (l : Lit) (r : Relation) (ts : List Term) (right : ℤ) → 1 ≤ l.var → l.var ≤ vars → HasRoom vars ts → All (IsIn vars) (halves_under r l ts right)
halves_in vars l AtLeast ts right low high has = All-cons (IsIn vars) (least_under l ts right) [] (shifted_in vars l (shift_up ts right) ts low high has) (All-nil (IsIn vars))
halves_in vars l AtMost ts right low high has = All-cons (IsIn vars) (most_under l ts right) [] (shifted_in vars l (shift_down ts right) ts low high has) (All-nil (IsIn vars))
halves_in vars l Equal ts right low high has =
    All-cons (IsIn vars) (least_under l ts right) (most_under l ts right ∷ []) (shifted_in vars l (shift_up ts right) ts low high has)
    (All-cons (IsIn vars) (most_under l ts right) [] (shifted_in vars l (shift_down ts right) ts low high has) (All-nil (IsIn vars)))

below_first : (first : ℕ) (ts : List Term) → All (λ (t : Term). t.lit.var < first) ts → All (λ (t : Term). t.lit.var ≤ first - 1) ts
below_first first ts below = λ k d l. (let h = below k d l in omega (arith, h))

has_room : (first : ℕ) (z : ℤ) (s : Raw) → length s.terms ≤ 2 ^ 20 - 1 → IsSumUnder first z s → HasRoom (first - 1) s.terms
has_room first z s short is = record { from = is.vars_from; within = below_first first s.terms is.vars_below; short = short }

pub posed_in : (first : ℕ) (z : ℤ) (s : Raw) → IsSumUnder first z s → All (λ (s : Raw). IsSumWithin (first - 1) s.terms) (posed_under z s)
posed_in first (pos zero) s is = All-cons (IsIn (first - 1)) s [] (record { vars_from = is.vars_from; vars_within = below_first first s.terms is.vars_below; count = is.short }) (All-nil (IsIn (first - 1)))
posed_in first (pos (suc n)) s is = elim is.condition as (λ _. All (IsIn (first - 1)) (posed_under (pos (suc n)) s)) [
  | inl none ↦ absurd (cc)
  | inr below ↦ halves_in (first - 1) (literal_at (pos (suc n))) s.relation s.terms s.right below.from (omega (arith, below.from, below.to)) (has_room first (pos (suc n)) s is.short is)
]
posed_in first (negsuc n) s is = elim is.condition as (λ _. All (IsIn (first - 1)) (posed_under (negsuc n) s)) [
  | inl none ↦ absurd (cc)
  | inr below ↦ halves_in (first - 1) (literal_at (negsuc n)) s.relation s.terms s.right below.from (omega (arith, below.from, below.to)) (has_room first (negsuc n) s is.short is)
]
