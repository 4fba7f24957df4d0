-- What the clauses of one group say.
use Rattle.std.proofs.Common.{◌≡◌, ◌≤◌, ◌<◌, ◌+◌, ℕ, [], ◌∷◌, length, All, arith}
use Rattle.std.proofs.lemmas.List.Elements.{All-nil, All-cons, All-head, All-tail, All-weaker}
use Rattle.pb_base.specs.Literals.{Assignment, AgreeBelow, IsModel}
use Rattle.pb_norm.specs.Constraints.{Constraint, Holds, Solves}
use Rattle.pb_norm.proofs.Variables.{OfTerm, OfLit}
use Rattle.pb_family.specs.Families.{VarsBelow}
use Rattle.pb_base.specs.declared.options.Options.{Options}
use Rattle.pb_choice.specs.Equals.{equality_clauses, equality_count, equality_fresh}
use Rattle.pb_choice.specs.EqualityLaws.{EncodesBoth, IsEquality}
use Rattle.pb_choice.proofs.Composition.{IsOneBelow, IsReady}
use Rattle.pb_choice.proofs.Encoded.{clauses-count, clauses-extend, clauses-sound, clauses-within, named_within}
use Rattle.pb_choice.proofs.EqualityEncoded.{equalities_encode}
use Rattle.pb_encode.specs.declared.groups.Group.{Group}
use Rattle.pb_encode.specs.Groups.{group_clauses, group_count, group_fresh, members}
use Rattle.pb_encode.specs.declared.groups.Group.TheVariants.{Alone, Paired}
use Rattle.pb_encode.proofs.GroupLists.{AreBoth, OfGroup}

-- in normal form, over variables from 1 and below a number
abbrev pub IsGroupReady : Options → ℕ → Group → Type 0
IsGroupReady o n g = OfGroup (IsReady o n) g

pub constraint-below : (o : Options) (n first : ℕ) (c : Constraint) → n ≤ first → IsReady o n c → VarsBelow first c.terms
constraint-below o n first c le ready = All-weaker (OfTerm (IsOneBelow n)) (λ t. t.lit.var < first) (λ t h. omega (arith, le, h.1)) c.terms ready.within

constraint-within : (o : Options) (n first : ℕ) (c : Constraint) → n ≤ first → IsReady o n c → All (OfTerm (IsOneBelow first)) c.terms
constraint-within o n first c le ready = All-weaker (OfTerm (IsOneBelow n)) (OfTerm (IsOneBelow first)) (λ t h. (h.0, omega (arith, le, h.1))) c.terms ready.within

pub both_equal : (o : Options) (n : ℕ) (c d : Constraint) → AreBoth (IsReady o n) c d → IsEquality c d
both_equal o n c d ready = record { lower_linear = ready.lower.linear; upper_linear = ready.upper.linear; halves = ready.halves }

both_encode : (o : Options) (n first : ℕ) (c d : Constraint) → n ≤ first → AreBoth (IsReady o n) c d → EncodesBoth c d first (equality_fresh o c d) (equality_count o c d) (equality_clauses o c d first)
both_encode o n first c d le ready = equalities_encode o c d first (both_equal o n c d ready) (constraint-below o n first c le ready.lower)

-- a model satisfies the constraints
pub group-sound : (o : Options) (n first : ℕ) (g : Group) → n ≤ first → IsGroupReady o n g → (a : Assignment) → IsModel a (group_clauses o g first) → Solves a (members g)
group-sound o n first (Alone c) le ready a model = All-cons (Holds a) c [] (clauses-sound o c first ready.linear a model) (All-nil (Holds a))
group-sound o n first (Paired c d) le ready a model =
    let holds = (both_encode o n first c d le ready).sound a model in
    All-cons (Holds a) c (d ∷ []) holds.0 (All-cons (Holds a) d [] holds.1 (All-nil (Holds a)))

-- where they hold, a model extends the assignment
pub group-extend : (o : Options) (n first : ℕ) (g : Group) → n ≤ first → IsGroupReady o n g → (a : Assignment) → Solves a (members g) → (b : Assignment) × AgreeBelow first a b × IsModel b (group_clauses o g first)
group-extend o n first (Alone c) le ready a holds = clauses-extend o c first ready.linear (constraint-below o n first c le ready) a (All-head (Holds a) c [] holds)
group-extend o n first (Paired c d) le ready a holds =
    (both_encode o n first c d le ready).extends a (All-head (Holds a) c (d ∷ []) holds, All-head (Holds a) d [] (All-tail (Holds a) c (d ∷ []) holds))

-- the variables are from 1 and below the first number after the fresh ones
pub group-within : (o : Options) (n first : ℕ) (g : Group) → 1 ≤ first → n ≤ first → IsGroupReady o n g → All (All (OfLit (IsOneBelow (first + group_fresh o g)))) (group_clauses o g first)
group-within o n first (Alone c) from le ready = clauses-within o c first ready.linear from (constraint-within o n first c le ready)
group-within o n first (Paired c d) from le ready =
    named_within c.terms first (equality_fresh o c d) (equality_clauses o c d first) from (constraint-within o n first c le ready.lower) (both_encode o n first c d le ready).names

-- so many clauses
pub group-count : (o : Options) (n first : ℕ) (g : Group) → n ≤ first → IsGroupReady o n g → length (group_clauses o g first) ≡ group_count o g
group-count o n first (Alone c) le ready = clauses-count o c first ready.linear
group-count o n first (Paired c d) le ready = (both_encode o n first c d le ready).counts
