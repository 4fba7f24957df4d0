-- How high stacks are.
use Rattle.std.proofs.Common.{◌≡◌, ℕ, suc, Bool, true, false, cond, List, [], ◌∷◌, arith, refl, ◌∙◌, length, ltb, subst}
use Rattle.std.specs.Prelude.{Some, None, Option, option_map, option_and_then}
use Rattle.std.proofs.lemmas.Bool.{eqb-true, both_ways}
use Rattle.pb_norm.specs.Constraints.{Constraint}
use Rattle.pb_steps.specs.declared.op.PolOp.{PolOp}
use Rattle.pb_steps.specs.declared.op.PolOp.TheVariants.{Push, Axiom, Add, Mul, Div, Saturate, Weaken}
use Rattle.pb_steps.specs.Operations.{axiom_of, is_narrow}
use Rattle.pb_steps.specs.Database.{Entry, constraint_at}
use Rattle.pb_steps.specs.Stacks.{higher, height_after, height_from, leaves_one, is_stacked, after_op, with_room, after_ops}

-- the stack, if there is one, is as high as told, if it is told
abbrev IsAsHigh : Option (List Constraint) → Option ℕ → Type 0
IsAsHigh (Some stack) (Some h) = length stack ≡ h
IsAsHigh _ _ = Unit {0}

higher-high : (o : Option Constraint) (stack : List Constraint) → IsAsHigh (option_map (λ c. c ∷ stack) o) (higher (length stack))
higher-high None stack = tt
higher-high (Some c) stack = by_test (ltb (length stack) 65536) where
  by_test : (b : Bool) → IsAsHigh (Some (c ∷ stack)) (cond {A = Option ℕ} b (Some (suc (length stack))) None)
  by_test true = omega arith
  by_test false = tt

op-high : (live : List Entry) (op : PolOp) (stack : List Constraint) → IsAsHigh (after_op live op stack) (height_after op (length stack))
op-high live (Push id) stack = higher-high (constraint_at live id) stack
op-high live (Axiom l) stack = higher-high (Some (axiom_of l)) stack
op-high live Add [] = tt
op-high live Add (c ∷ []) = tt
op-high live Add (d ∷ c ∷ stack) = refl
op-high live (Mul n) [] = tt
op-high live (Mul n) (c ∷ stack) = refl
op-high live (Div n) [] = tt
op-high live (Div n) (c ∷ stack) = refl
op-high live Saturate [] = tt
op-high live Saturate (c ∷ stack) = refl
op-high live (Weaken v) [] = tt
op-high live (Weaken v) (c ∷ stack) = refl

room-high : (o : Option (List Constraint)) (h : Option ℕ) → IsAsHigh o h → IsAsHigh (option_and_then with_room o) h
room-high None h k = tt
room-high (Some []) h k = tt
room-high (Some (c ∷ stack)) h k = by_test (is_narrow c) h k where
  by_test : (b : Bool) (h : Option ℕ) → IsAsHigh (Some (c ∷ stack)) h → IsAsHigh (cond {A = Option (List Constraint)} b (Some (c ∷ stack)) None) h
  by_test true h k = k
  by_test false h k = tt

untold : (o : Option (List Constraint)) → IsAsHigh o None
untold None = tt
untold (Some s) = tt

ops-high : (live : List Entry) (ops : List PolOp) (stack : List Constraint) → IsAsHigh (after_ops live ops stack) (height_from (length stack) ops)
ops-high live [] stack = refl
ops-high live (op ∷ ops) stack =
    go (option_and_then with_room (after_op live op stack)) (height_after op (length stack)) (room-high (after_op live op stack) (height_after op (length stack)) (op-high live op stack)) (ops-high live ops)
  where
    go : (o : Option (List Constraint)) (h : Option ℕ) → IsAsHigh o h → ((s : List Constraint) → IsAsHigh (after_ops live ops s) (height_from (length s) ops)) →
        IsAsHigh (option_and_then (after_ops live ops) o) (option_and_then (λ k. height_from k ops) h)
    go None h k ih = tt
    go (Some s) None k ih = untold (after_ops live ops s)
    go (Some s) (Some h) k ih = subst (λ (n : ℕ). IsAsHigh (after_ops live ops s) (height_from n ops)) k (ih s)

-- where one constraint is to be left, one is
pub one_left : (live : List Entry) (ops : List PolOp) (stack : List Constraint) → is_stacked ops ≡ true → after_ops live ops [] ≡ Some stack → (c : Constraint) × (stack ≡ c ∷ [])
one_left live ops stack stacked e =
    of_height (height_from 0 ops) stacked (subst (λ (o : Option (List Constraint)). IsAsHigh o (height_from 0 ops)) e (ops-high live ops [])) where
      of_length : (s : List Constraint) → length s ≡ 1 → (c : Constraint) × (s ≡ c ∷ [])
      of_length [] h = absurd (omega (arith, h))
      of_length (c ∷ []) h = (c, refl)
      of_length (c ∷ d ∷ s) h = absurd (omega (arith, h))

      of_height : (h : Option ℕ) → leaves_one h ≡ true → IsAsHigh (Some stack) h → (c : Constraint) × (stack ≡ c ∷ [])
      of_height None h k = absurd (both_ways false refl h)
      of_height (Some n) h k = of_length stack (k ∙ eqb-true n 1 h)
