-- Constraints that hold and are in order, and what is made of them on a stack.
use Rattle.std.proofs.Common.{◌<◌, ℕ, Bool, true, false, cond, List, [], ◌∷◌, arith, refl, eqb}
use Rattle.std.specs.Prelude.{All, map, Some, None, Option, ℤ, pos, ◌≤ℤ◌, unsigned_abs, option_map, option_and_then}
use Rattle.std.proofs.lemmas.List.Elements.{All-nil, All-cons, All-head, All-tail, All-weaker}
use Rattle.std.proofs.lemmas.List.Kept.{AllPairs-cons}
use Rattle.pb_base.specs.declared.literal.Lit.{Lit}
use Rattle.pb_base.specs.Literals.{Assignment}
use Rattle.pb_base.proofs.Pairs.{AllPairs-nil}
use Rattle.pb_norm.specs.Constraints.{Weighted, Constraint, IsAscending, Holds, Solves}
use Rattle.pb_norm.specs.Addition.{sum_of}
use Rattle.pb_norm.specs.Halves.{is_positive}
use Rattle.pb_norm.specs.Reduction.{cut_to, opposite}
use Rattle.pb_norm.proofs.AdditionOrder.{joined-ascending, map-ascending, filter-ascending}
use Rattle.pb_steps.specs.declared.op.PolOp.{PolOp}
use Rattle.pb_steps.specs.declared.op.PolOp.TheVariants.{Push, Axiom, Add, Mul, Div, Saturate, Weaken}
use Rattle.pb_steps.specs.Steps.{HasFactor}
use Rattle.pb_steps.specs.Operations.{axiom_of, scaled, multiple, shrunk, division, saturation, is_other, weakening, negation, is_narrow}
use Rattle.pb_steps.specs.Database.{Entry, live_constraints, constraint_at}
use Rattle.pb_steps.specs.Stacks.{after_op, with_room, after_ops}
use Rattle.pb_steps.proofs.Holding.{axiom_holds, sum_holds, multiple_holds, divided_holds, saturated_holds, weakened_holds}

-- ---- order

pub axiom-ascending : (l : Lit) → IsAscending (axiom_of l).terms
axiom-ascending l =
    let t : Weighted = record { coef = 1; lit = l } in
    let before : Weighted → Weighted → Type 0 = λ s u. s.lit.var < u.lit.var in
    AllPairs-cons before t [] (All-nil (before t)) (AllPairs-nil before)

pub negation-ascending : (c : Constraint) → IsAscending c.terms → IsAscending (negation c).terms
negation-ascending c ascending = map-ascending opposite (λ t. refl) c.terms ascending

-- ---- constraints that hold and are in order

pub record IsGood (a : Assignment) (c : Constraint) : Type 0 where
  pub holds : Holds a c
  pub ascending : IsAscending c.terms

abbrev pub AllGood : Assignment → List Constraint → Type 0
AllGood a cs = All (IsGood a) cs

pub good-holds : (a : Assignment) (cs : List Constraint) → AllGood a cs → Solves a cs
good-holds a cs h = All-weaker (IsGood a) (Holds a) (λ c g. g.holds) cs h

pub sum-good : (a : Assignment) (c d : Constraint) → IsGood a c → IsGood a d → IsGood a (sum_of c d)
sum-good a c d h k = record {
  holds = sum_holds a c d k.ascending h.holds k.holds;
  ascending = joined-ascending c.terms d.terms k.ascending;
}

-- what the constraints of some, if there are some, are
abbrev pub OptionGood : Assignment → Option Constraint → Type 0
OptionGood a None = Unit {0}
OptionGood a (Some c) = IsGood a c

pub at-good : (a : Assignment) (live : List Entry) (id : ℕ) → AllGood a (live_constraints live) → OptionGood a (constraint_at live id)
at-good a [] id h = tt
at-good a (e ∷ es) id h = found (eqb e.id id) (at-good a es id (All-tail (IsGood a) e.constraint (live_constraints es) h)) where
  found : (b : Bool) → OptionGood a (constraint_at es id) → OptionGood a (cond {A = Option Constraint} b (Some e.constraint) (constraint_at es id))
  found true ih = All-head (IsGood a) e.constraint (live_constraints es) h
  found false ih = ih

-- ---- stacks

-- the stack, if there is one, is good
abbrev pub StackGood : Assignment → Option (List Constraint) → Type 0
StackGood a None = Unit {0}
StackGood a (Some cs) = AllGood a cs

pushed-good : (a : Assignment) (o : Option Constraint) (stack : List Constraint) → OptionGood a o → AllGood a stack → StackGood a (option_map (λ c. c ∷ stack) o)
pushed-good a None stack h g = tt
pushed-good a (Some c) stack h g = All-cons (IsGood a) c stack h g

top-good : (a : Assignment) (f : Constraint → Constraint) → ((c : Constraint) → IsGood a c → IsGood a (f c)) → (c : Constraint) (stack : List Constraint) → AllGood a (c ∷ stack) → AllGood a (f c ∷ stack)
top-good a f each c stack g = All-cons (IsGood a) (f c) stack (each c (All-head (IsGood a) c stack g)) (All-tail (IsGood a) c stack g)

added-good : (a : Assignment) (c d : Constraint) (stack : List Constraint) → AllGood a (d ∷ c ∷ stack) → AllGood a (sum_of c d ∷ stack)
added-good a c d stack g =
    let rest = All-tail (IsGood a) d (c ∷ stack) g in
    All-cons (IsGood a) (sum_of c d) stack (sum-good a c d (All-head (IsGood a) c stack rest) (All-head (IsGood a) d (c ∷ stack) g)) (All-tail (IsGood a) c stack rest)

multiple-good : (a : Assignment) (n : ℕ) (c : Constraint) → IsGood a c → IsGood a (multiple n c)
multiple-good a n c g = record { holds = multiple_holds a n c g.holds; ascending = map-ascending (scaled n) (λ t. refl) c.terms g.ascending }

divided-good : (a : Assignment) (n : ℕ) → 0 < n → (c : Constraint) → IsGood a c → IsGood a (division n c)
divided-good a n h c g = record { holds = divided_holds a n c h g.holds; ascending = map-ascending (shrunk n) (λ t. refl) c.terms g.ascending }

saturated-good : (a : Assignment) (c : Constraint) → IsGood a c → IsGood a (saturation c)
saturated-good a c g = record {
  holds = saturated_holds a c g.holds;
  ascending = filter-ascending is_positive (map (cut_to c.degree) c.terms) (map-ascending (cut_to c.degree) (λ t. refl) c.terms g.ascending);
}

weakened-good : (a : Assignment) (v : ℕ) (c : Constraint) → IsGood a c → IsGood a (weakening v c)
weakened-good a v c g = record { holds = weakened_holds a v c g.holds; ascending = filter-ascending (is_other v) c.terms g.ascending }

pub factor-positive : (n : ℤ) → pos 1 ≤ℤ n → 0 < unsigned_abs n
factor-positive n h = grind arith

after_op-good : (a : Assignment) (live : List Entry) (op : PolOp) (stack : List Constraint) → HasFactor op → AllGood a (live_constraints live) → AllGood a stack → StackGood a (after_op live op stack)
after_op-good a live (Push id) stack f h g = pushed-good a (constraint_at live id) stack (at-good a live id h) g
after_op-good a live (Axiom l) stack f h g = All-cons (IsGood a) (axiom_of l) stack (record { holds = axiom_holds a l; ascending = axiom-ascending l }) g
after_op-good a live Add [] f h g = tt
after_op-good a live Add (c ∷ []) f h g = tt
after_op-good a live Add (d ∷ c ∷ stack) f h g = added-good a c d stack g
after_op-good a live (Mul n) [] f h g = tt
after_op-good a live (Mul n) (c ∷ stack) f h g = top-good a (multiple (unsigned_abs n)) (multiple-good a (unsigned_abs n)) c stack g
after_op-good a live (Div n) [] f h g = tt
after_op-good a live (Div n) (c ∷ stack) f h g = top-good a (division (unsigned_abs n)) (divided-good a (unsigned_abs n) (factor-positive n f)) c stack g
after_op-good a live Saturate [] f h g = tt
after_op-good a live Saturate (c ∷ stack) f h g = top-good a saturation (saturated-good a) c stack g
after_op-good a live (Weaken v) [] f h g = tt
after_op-good a live (Weaken v) (c ∷ stack) f h g = top-good a (weakening v) (weakened-good a v) c stack g

room-good : (a : Assignment) (o : Option (List Constraint)) → StackGood a o → StackGood a (option_and_then with_room o)
room-good a None g = tt
room-good a (Some []) g = tt
room-good a (Some (c ∷ stack)) g = by_test (is_narrow c) where
  by_test : (b : Bool) → StackGood a (cond {A = Option (List Constraint)} b (Some (c ∷ stack)) None)
  by_test true = g
  by_test false = tt

pub after_ops-good : (a : Assignment) (live : List Entry) (ops : List PolOp) (stack : List Constraint) → All HasFactor ops → AllGood a (live_constraints live) → AllGood a stack → StackGood a (after_ops live ops stack)
after_ops-good a live [] stack f h g = g
after_ops-good a live (op ∷ ops) stack f h g =
    go (option_and_then with_room (after_op live op stack))
    (room-good a (after_op live op stack) (after_op-good a live op stack (All-head HasFactor op ops f) h g))
    (λ (s : List Constraint). after_ops-good a live ops s (All-tail HasFactor op ops f) h)
  where
    go : (o : Option (List Constraint)) → StackGood a o → ((s : List Constraint) → AllGood a s → StackGood a (after_ops live ops s)) → StackGood a (option_and_then (after_ops live ops) o)
    go None k ih = tt
    go (Some s) k ih = ih s k
