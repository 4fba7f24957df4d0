-- The operations that close a clause, done on a stack.
use Rattle.std.proofs.Common.{append-nil, ◌≡◌, ◌≤◌, ◌<◌, ◌+◌, ◌*◌, ◌^◌, ℕ, Bool, true, cond, List, [], ◌∷◌, ◌++◌, refl, ap, ◌∙◌, arith, ltb, pos, sym}
use Rattle.std.specs.Prelude.{map, flat_map, Option, Some, None, option_map, IsTrue}
use Rattle.std.specs.Option.{option_and_then}
use Rattle.std.proofs.lemmas.Bool.{lt-ltb, and_from}
use Rattle.pb_base.specs.declared.literal.Lit.{Lit}
use Rattle.pb_norm.specs.Constraints.{Weighted, Constraint, weight}
use Rattle.pb_norm.specs.Addition.{sum_of}
use Rattle.pb_norm.proofs.AdditionSizes.{weight-joined, weight-cons}
use Rattle.pb_norm.specs.Reduction.{quotient_up}
use Rattle.pb_norm.proofs.Opened.{quotient_up-least}
use Rattle.std.proofs.Math.Nat.{mul-le-mul_right}
use Rattle.pb_steps.specs.declared.op.PolOp.{PolOp}
use Rattle.pb_steps.specs.declared.op.PolOp.TheVariants.{Push, Add, Div, Weaken}
use Rattle.pb_steps.specs.Operations.{weakening, division, shrunk, is_narrow}
use Rattle.pb_steps.specs.Database.{Entry, constraint_at}
use Rattle.pb_steps.specs.Stacks.{height_from, is_stacked, leaves_one, after_op, after_ops, with_room}
use Rattle.pb_derive.specs.Justifications.{widest, push_and_add, closing, adding}
use Rattle.pb_derive.specs.inner.Follows.{degrees, weight_in}
use Rattle.pb_derive.proofs.Closing.{sum_from, sum_from-weight, sum_from-degree, weaken_from, weakened_lighter, weaken_from_lighter, degrees-cons, weight_in-cons}

-- ---- the height

pub height-added : (ids : List ℕ) (ops : List PolOp) → height_from 1 (flat_map push_and_add ids ++ ops) ≡ height_from 1 ops
height-added [] ops = refl
height-added (id ∷ ids) ops = height-added ids ops

height-weakened : (vs : List ℕ) (ops : List PolOp) → height_from 1 (map Weaken vs ++ ops) ≡ height_from 1 ops
height-weakened [] ops = refl
height-weakened (v ∷ vs) ops = height-weakened vs ops

pub closing-stacked : (clause : List Lit) (id : ℕ) (ids vs : List ℕ) → IsTrue (is_stacked (closing (record { clause = clause; ids = id ∷ ids; weakened = vs })))
closing-stacked clause id ids vs = ap leaves_one (height-added ids (map Weaken vs ++ Div (pos widest) ∷ []) ∙ height-weakened vs (Div (pos widest) ∷ []))

-- ---- division makes no number greater

pub k-le-mul : (n k : ℕ) → 0 < n → k ≤ n * k
k-le-mul n k h = let more : 1 * k ≤ n * k = mul-le-mul_right k (omega arith) in omega arith

quotient_up-le : (n k : ℕ) → 0 < n → quotient_up n k ≤ k
quotient_up-le n k h = quotient_up-least n k k h (k-le-mul n k h)

shrunk-weight : (n : ℕ) (ts : List Weighted) → 0 < n → weight (map (shrunk n) ts) ≤ weight ts
shrunk-weight n [] h = omega arith
shrunk-weight n (t ∷ ts) h =
    omega (arith, weight-cons t ts, weight-cons (shrunk n t) (map (shrunk n) ts), shrunk-weight n ts h, quotient_up-le n t.coef h)

pub divided_lighter : (n : ℕ) (c : Constraint) → 0 < n → (weight (division n c).terms ≤ weight c.terms) × ((division n c).degree ≤ c.degree)
divided_lighter n c h = (shrunk-weight n c.terms h, quotient_up-le n c.degree h)

-- ---- what is on it

-- the ids are of these constraints
abbrev pub Found : List Entry → List ℕ → List Constraint → Type 0
Found live [] [] = Unit {0}
Found live (id ∷ ids) (c ∷ cs) = (constraint_at live id ≡ Some c) × Found live ids cs
Found live _ _ = ⊥

narrow : (c : Constraint) → weight c.terms < 2 ^ 126 → c.degree < 2 ^ 126 → is_narrow c ≡ true
narrow c h k = and_from (ltb (weight c.terms) (2 ^ 126)) (ltb c.degree (2 ^ 126)) (lt-ltb (weight c.terms) (2 ^ 126) h) (lt-ltb c.degree (2 ^ 126) k)

roomy : (c : Constraint) (stack : List Constraint) → weight c.terms < 2 ^ 126 → c.degree < 2 ^ 126 → with_room (c ∷ stack) ≡ Some (c ∷ stack)
roomy c stack h k = ap (λ (b : Bool). cond {A = Option (List Constraint)} b (Some (c ∷ stack)) None) (narrow c h k)

module _ (live : List Entry) where
  -- an operation whose result has room
  pub after_step : (op : PolOp) (ops : List PolOp) (stack : List Constraint) (c : Constraint) (rest : List Constraint) → after_op live op stack ≡ Some (c ∷ rest) → weight c.terms < 2 ^ 126 → c.degree < 2 ^ 126 →
      after_ops live (op ∷ ops) stack ≡ after_ops live ops (c ∷ rest)
  after_step op ops stack c rest e h k =
      ap (λ (o : Option (List Constraint)). option_and_then (after_ops live ops) (option_and_then with_room o)) e
      ∙ ap (λ (o : Option (List Constraint)). option_and_then (after_ops live ops) o) (roomy c rest h k)

  pub push_step : (id : ℕ) (ops : List PolOp) (stack : List Constraint) (c : Constraint) → constraint_at live id ≡ Some c → weight c.terms < 2 ^ 126 → c.degree < 2 ^ 126 →
      after_ops live (Push id ∷ ops) stack ≡ after_ops live ops (c ∷ stack)
  push_step id ops stack c e h k = after_step (Push id) ops stack c stack (ap (λ (o : Option Constraint). option_map (λ (c : Constraint). c ∷ stack) o) e) h k

  added_ops : (ids : List ℕ) (cs : List Constraint) (ops : List PolOp) (c : Constraint) → Found live ids cs → weight c.terms + weight_in cs < 2 ^ 126 → c.degree + degrees cs < 2 ^ 126 →
      after_ops live (flat_map push_and_add ids ++ ops) (c ∷ []) ≡ after_ops live ops (sum_from c cs ∷ [])
  added_ops [] [] ops c found h k = refl
  added_ops [] (d ∷ ds) ops c found h k = absurd found
  added_ops (id ∷ ids) [] ops c found h k = absurd found
  added_ops (id ∷ ids) (d ∷ ds) ops c found h k =
      let heavier = weight-joined c.terms d.terms in
      push_step id (Add ∷ (flat_map push_and_add ids ++ ops)) (c ∷ []) d found.0 (omega (arith, weight_in-cons d ds)) (omega (arith, degrees-cons d ds))
      ∙ after_step Add (flat_map push_and_add ids ++ ops) (d ∷ c ∷ []) (sum_of c d) [] refl (omega (arith, heavier, weight_in-cons d ds)) (omega (arith, degrees-cons d ds))
      ∙ added_ops ids ds ops (sum_of c d) found.1 (omega (arith, heavier, weight_in-cons d ds)) (omega (arith, degrees-cons d ds))

  -- what a sum leaves
  pub adding_ops : (id : ℕ) (ids : List ℕ) (c : Constraint) (cs : List Constraint) → constraint_at live id ≡ Some c → Found live ids cs → weight_in (c ∷ cs) < 2 ^ 126 → degrees (c ∷ cs) < 2 ^ 126 →
      after_ops live (adding (id ∷ ids)) [] ≡ Some (sum_from c cs ∷ [])
  adding_ops id ids c cs e found h k =
      let weights = weight_in-cons c cs in
      let numbers = degrees-cons c cs in
      push_step id (flat_map push_and_add ids) [] c e (omega arith) (omega arith)
      ∙ ap (λ (ops : List PolOp). after_ops live ops (c ∷ [])) (sym (append-nil (flat_map push_and_add ids)))
      ∙ added_ops ids cs [] c found (omega arith) (omega arith)

  weakened_ops : (vs : List ℕ) (ops : List PolOp) (c : Constraint) → weight c.terms < 2 ^ 126 → c.degree < 2 ^ 126 →
      after_ops live (map Weaken vs ++ ops) (c ∷ []) ≡ after_ops live ops (weaken_from c vs ∷ [])
  weakened_ops [] ops c h k = refl
  weakened_ops (v ∷ vs) ops c h k =
      let lighter = weakened_lighter v c in
      after_step (Weaken v) (map Weaken vs ++ ops) (c ∷ []) (weakening v c) [] refl (omega (arith, lighter.0)) (omega (arith, lighter.1))
      ∙ weakened_ops vs ops (weakening v c) (omega (arith, lighter.0)) (omega (arith, lighter.1))

  -- what the operations of a justification leave
  pub closing_ops : (clause : List Lit) (id : ℕ) (ids vs : List ℕ) (c : Constraint) (cs : List Constraint) → constraint_at live id ≡ Some c → Found live ids cs → weight_in (c ∷ cs) < 2 ^ 126 → degrees (c ∷ cs) < 2 ^ 126 →
      after_ops live (closing (record { clause = clause; ids = id ∷ ids; weakened = vs })) [] ≡ Some (division widest (weaken_from (sum_from c cs) vs) ∷ [])
  closing_ops clause id ids vs c cs e found h k =
      let weights = weight_in-cons c cs in
      let numbers = degrees-cons c cs in
      let s : Constraint = sum_from c cs in
      let w : Constraint = weaken_from s vs in
      let lighter = weaken_from_lighter s vs in
      let weight_s = sum_from-weight c cs in
      let degree_s = sum_from-degree c cs in
      let smaller = divided_lighter widest w (omega arith) in
      push_step id (flat_map push_and_add ids ++ (map Weaken vs ++ Div (pos widest) ∷ [])) [] c e (omega arith) (omega arith)
      ∙ added_ops ids cs (map Weaken vs ++ Div (pos widest) ∷ []) c found (omega arith) (omega arith)
      ∙ weakened_ops vs (Div (pos widest) ∷ []) s (omega arith) (omega arith)
      ∙ after_step (Div (pos widest)) [] (w ∷ []) (division widest w) [] refl (omega arith) (omega arith)
