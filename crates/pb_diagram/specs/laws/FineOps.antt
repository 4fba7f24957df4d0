-- Operations that a line can say, and how many bytes they take.
use Rattle.std.proofs.Common.{◌≡◌, ◌≤◌, ◌<◌, ◌+◌, ◌-◌, ◌*◌, ◌^◌, ℕ, zero, suc, ltb, List, [], ◌∷◌, ◌++◌, refl, arith, pos}
use Rattle.std.specs.Prelude.{All, sum_by, flat_map}
use Rattle.std.specs.List.{range_with_len}
use Rattle.std.proofs.lemmas.Bool.{cond_both}
use Rattle.std.proofs.lemmas.Int.{ints}
use Rattle.std.proofs.lemmas.List.Elements.{All-nil, All-cons, All-head, All-tail, All-append, recursion_from_All}
use Rattle.std.proofs.lemmas.List.FromFn.{length-range_with_len}
use Rattle.std.proofs.lemmas.List.Sums.{sum_by-cons, sum_by-append}
use Rattle.pb_base.specs.declared.literal.Lit.{Lit}
use Rattle.pb_steps.specs.declared.op.PolOp.{PolOp}
use Rattle.pb_steps.specs.declared.op.PolOp.TheVariants.{Push, Axiom, Add, Mul, Div}
use Rattle.pb_steps.specs.declared.step.Step.TheVariants.{Pol}
use Rattle.pb_steps.specs.Sayable.{IsId, IsFactor, IsVariable, IsOp}
use Rattle.pb_steps.specs.StepSizes.{op_size}
use Rattle.pb_derive.specs.Justifications.{adding, push_and_add}
use Rattle.pb_derive.proofs.FineStages.{IsFine}
use Rattle.pb_derive.proofs.IdRanges.{each_between}
use Rattle.pb_derive.proofs.Sizes.{adding-size}
use Rattle.pb_diagram.specs.Guards.{plus_times, path, plus_path}

abbrev pub AreOps : ℕ → List PolOp → Type 0
AreOps size ops = All IsOp ops × (sum_by op_size ops ≤ size)

pub pol_fine : (n : ℕ) (ops : List PolOp) → AreOps n ops → IsFine (4 + n) (Pol ops)
pol_fine n ops h = (recursion_from_All IsOp ops h.0, omega (arith, h.1))

pub ops_within : (n m : ℕ) (ops : List PolOp) → n ≤ m → AreOps n ops → AreOps m ops
ops_within n m ops le h = (h.0, omega (arith, h.1, le))

pub ops_none : AreOps 0 []
ops_none = (All-nil IsOp, omega arith)

pub ops_cons : (n m : ℕ) (op : PolOp) (ops : List PolOp) → IsOp op → op_size op ≤ n → AreOps m ops → AreOps (n + m) (op ∷ ops)
ops_cons n m op ops is le h = (All-cons IsOp op ops is h.0, omega (arith, sum_by-cons op_size op ops, le, h.1))

pub ops_append : (n m : ℕ) (xs ys : List PolOp) → AreOps n xs → AreOps m ys → AreOps (n + m) (xs ++ ys)
ops_append n m xs ys h k = (All-append IsOp xs ys h.0 k.0, omega (arith, sum_by-append op_size xs ys, h.1, k.1))

pub factor : (n : ℕ) → 1 ≤ n → n < 2 ^ 126 → IsFactor (pos n)
factor n some small = (omega (arith, ints, some), small)

pub literal_ops : (l : Lit) → IsVariable l.var → AreOps 15 (Axiom l ∷ Add ∷ [])
literal_ops l is =
    let one : op_size (Axiom l) ≡ 13 = refl in
    let two : op_size Add ≡ 2 = refl in
    ops_within (13 + (2 + 0)) 15 (Axiom l ∷ Add ∷ []) (omega arith) (ops_cons 13 (2 + 0) (Axiom l) (Add ∷ []) is (omega (arith, one)) (ops_cons 2 0 Add [] tt (omega (arith, two)) ops_none))

pub div_ops : (n : ℕ) → 1 ≤ n → n < 2 ^ 126 → AreOps 41 (Div (pos n) ∷ [])
div_ops n some small =
    let one : op_size (Div (pos n)) ≡ 41 = refl in
    ops_within (41 + 0) 41 (Div (pos n) ∷ []) (omega arith) (ops_cons 41 0 (Div (pos n)) [] (factor n some small) (omega (arith, one)) ops_none)

pub push_ops : (id : ℕ) → IsId id → AreOps 20 (Push id ∷ [])
push_ops id is =
    let one : op_size (Push id) ≡ 20 = refl in
    ops_within (20 + 0) 20 (Push id ∷ []) (omega arith) (ops_cons 20 0 (Push id) [] is (omega (arith, one)) ops_none)

pub axiom_ops : (l : Lit) → IsVariable l.var → AreOps 13 (Axiom l ∷ [])
axiom_ops l is =
    let one : op_size (Axiom l) ≡ 13 = refl in
    ops_within (13 + 0) 13 (Axiom l ∷ []) (omega arith) (ops_cons 13 0 (Axiom l) [] is (omega (arith, one)) ops_none)

pub times_ops : (n size : ℕ) (ops : List PolOp) → n < 2 ^ 126 → AreOps size ops → AreOps (size + 43) (plus_times n ops)
times_ops zero size ops small h = ops_within 0 (size + 43) [] (omega arith) ops_none
times_ops (suc zero) size ops small h =
    let two : op_size Add ≡ 2 = refl in
    ops_within (size + (2 + 0)) (size + 43) (ops ++ Add ∷ []) (omega arith) (ops_append size (2 + 0) ops (Add ∷ []) h (ops_cons 2 0 Add [] tt (omega (arith, two)) ops_none))
times_ops (suc (suc n)) size ops small h =
    let two : op_size Add ≡ 2 = refl in
    let many : op_size (Mul (pos (suc (suc n)))) ≡ 41 = refl in
    ops_within (size + (41 + (2 + 0))) (size + 43) (ops ++ Mul (pos (suc (suc n))) ∷ Add ∷ []) (omega arith)
    (ops_append size (41 + (2 + 0)) ops (Mul (pos (suc (suc n))) ∷ Add ∷ []) h (ops_cons 41 (2 + 0) (Mul (pos (suc (suc n)))) (Add ∷ []) (factor (suc (suc n)) (omega arith) small) (omega (arith, many)) (ops_cons 2 0 Add [] tt (omega (arith, two)) ops_none)))

pushes_are : (ids : List ℕ) → All IsId ids → All IsOp (flat_map push_and_add ids)
pushes_are [] h = All-nil IsOp
pushes_are (id ∷ ids) h = All-cons IsOp (Push id) (Add ∷ flat_map push_and_add ids) (All-head IsId id ids h) (All-cons IsOp Add (flat_map push_and_add ids) tt (pushes_are ids (All-tail IsId id ids h)))

adding_are : (ids : List ℕ) → All IsId ids → All IsOp (adding ids)
adding_are [] h = All-nil IsOp
adding_are (id ∷ ids) h = All-cons IsOp (Push id) (flat_map push_and_add ids) (All-head IsId id ids h) (pushes_are ids (All-tail IsId id ids h))

pub path_ops : (order i j : ℕ) → 1 ≤ order → order + i + (j - i) < 2 ^ 63 → AreOps (22 * (j - i)) (path order i j)
path_ops order i j from small =
    let ids : List ℕ = range_with_len (order + i) (j - i) in
    (adding_are ids (each_between IsId (order + i) (j - i) (λ k low high. (omega (arith, from, low), omega (arith, high, small)))), omega (arith, adding-size ids, length-range_with_len (order + i) (j - i)))

pub plus_path_ops : (n order i j : ℕ) → n < 2 ^ 126 → 1 ≤ order → order + i + (j - i) < 2 ^ 63 → AreOps (22 * (j - i) + 43) (plus_path n order i j)
plus_path_ops n order i j few from small =
    cond_both (ltb i j) (plus_times n (path order i j)) [] (AreOps (22 * (j - i) + 43)) (λ _. times_ops n (22 * (j - i)) (path order i j) few (path_ops order i j from small)) (λ _. ops_within 0 (22 * (j - i) + 43) [] (omega arith) ops_none)
