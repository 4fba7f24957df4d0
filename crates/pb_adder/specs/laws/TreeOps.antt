-- What an adder says, on a stack, and blocks of adders as trees of operations.
use Rattle.std.proofs.Common.{◌≡◌, ◌≤◌, ◌<◌, ◌+◌, ◌-◌, ◌*◌, ◌^◌, ℕ, Bool, true, false, zero, suc, cond, List, [], ◌∷◌, ◌++◌, length, take, drop, arith, refl, ap, sym, ◌∙◌, subst, leb, append_assoc, pos, ◌≤ℤ◌}
use Rattle.std.specs.Prelude.{All, map, flat_map, is_some, sum_by, Option, Some, None}
use Rattle.std.proofs.Math.Nat.{mul-le-mul_left, two-pow-succ}
use Rattle.std.proofs.lemmas.Bool.{cond_both, leb-true, leb-false, lt-ltb}
use Rattle.std.proofs.lemmas.Nat.{pow_pos}
use Rattle.std.proofs.lemmas.List.{length-map, length-take-le, length-drop, take-append-drop, take-map, drop-map}
use Rattle.std.proofs.lemmas.List.Elements.{All-nil, All-cons, All-head, All-tail, All-map, All-append}
use Rattle.std.proofs.lemmas.List.Sums.{sum_by-cons, sum_by-append}
use Rattle.pb_base.specs.declared.literal.Lit.{Lit}
use Rattle.pb_base.specs.Literals.{Assignment, lit_value}
use Rattle.pb_base.proofs.Members.{All-append_both}
use Rattle.pb_family.specs.Fresh.{positive_of}
use Rattle.pb_norm.specs.Constraints.{Weighted, Constraint, weight}
use Rattle.pb_norm.specs.Addition.{sum_of}
use Rattle.pb_norm.proofs.Proper.{apart}
use Rattle.pb_norm.proofs.Variables.{joined-vars}
use Rattle.pb_steps.specs.declared.op.PolOp.{PolOp}
use Rattle.pb_steps.specs.declared.op.PolOp.TheVariants.{Add, Push, Mul, Div}
use Rattle.pb_steps.specs.Database.{Database, Entry, constraint_at, IsLive}
use Rattle.pb_steps.specs.Operations.{scaled, multiple}
use Rattle.pb_steps.specs.Stacks.{after_ops, height_from}
use Rattle.pb_derive.specs.Forms.{AreApartTerms, IsFormOf}
use Rattle.pb_derive.specs.Reifications.{Reification, forward_of}
use Rattle.pb_derive.specs.Ones.{ones}
use Rattle.pb_derive.specs.inner.Meant.{AreMeant}
use Rattle.pb_derive.proofs.Rups.{ones-weight}
use Rattle.pb_derive.proofs.SameTerms.{written-all}
use Rattle.pb_derive.proofs.Stacked.{after_step, push_step}
use Rattle.pb_adder.specs.declared.gate.Gate.{Gate}
use Rattle.pb_adder.specs.declared.gate.Gate.TheVariants.{Full, Half}
use Rattle.pb_adder.specs.AdderSteps.{line_ops, tree_ops}
use Rattle.pb_adder.specs.Gates.{made_of}
use Rattle.pb_adder.specs.GateReifications.{carry_reification, sum_reification, input_lits, gate_reifications, sum_var, carry_var}
use Rattle.pb_adder.specs.LeveledGates.{Leveled}
use Rattle.pb_adder.specs.laws.Chains.{part-outputs}
use Rattle.pb_adder.specs.laws.GateTables.{one}
use Rattle.pb_adder.specs.laws.RunningSteps.{balanced_as, balanced_both, balanced_small, balanced_times, line_exact, line_is, weight-scaled}
use Rattle.pb_adder.specs.inner.RunningSums.{outputs, balance, line_of, part, IsBalanced, IsApart, taken_by, given_by, taken, given}
use Rattle.std.specs.Option.{option_and_then}
use Rattle.std.proofs.lemmas.Int.{ints}
use Rattle.pb_norm.proofs.AdditionSizes.{weight-joined}
use Rattle.pb_steps.specs.Steps.{HasFactor, ids_of_op, vars_of_op}

-- ---- what is on the stack

-- its numbers are below a number
pub record IsBelow (n : ℕ) (c : Constraint) : Type 0 where
  pub weight : weight c.terms < n
  pub degree : c.degree < n

pub line_after : (live : List Entry) (level id : ℕ) (c e : Constraint) (rest : List PolOp) (stack : List Constraint) → constraint_at live id ≡ Some c → constraint_at live (id + 2) ≡ Some e
    → IsBelow (2 ^ 120) c → IsBelow (2 ^ 120) e → IsBelow (2 ^ 126) (line_of c e) → IsBelow (2 ^ 126) (multiple (2 ^ level) (line_of c e))
    → after_ops live (line_ops level id ++ rest) stack ≡ after_ops live rest (multiple (2 ^ level) (line_of c e) ∷ stack)
line_after live level id c e rest stack at_c at_e small_c small_e small_line small_times =
    let twice : Constraint = multiple 2 c in
    let both : Constraint = sum_of twice e in
    let line : Constraint = line_of c e in
    let times : Constraint = multiple (2 ^ level) line in
    let small_twice : IsBelow (2 ^ 121) twice = record { weight = omega (arith, weight-scaled 2 c.terms, small_c.weight); degree = omega (arith, small_c.degree) } in
    push_step live id (Mul (pos 2) ∷ Push (id + 2) ∷ Add ∷ Div (pos 3) ∷ Mul (pos (2 ^ level)) ∷ rest) stack c at_c (omega (arith, small_c.weight)) (omega (arith, small_c.degree))
    ∙ after_step live (Mul (pos 2)) (Push (id + 2) ∷ Add ∷ Div (pos 3) ∷ Mul (pos (2 ^ level)) ∷ rest) (c ∷ stack) twice stack refl (omega (arith, small_twice.weight)) (omega (arith, small_twice.degree))
    ∙ push_step live (id + 2) (Add ∷ Div (pos 3) ∷ Mul (pos (2 ^ level)) ∷ rest) (twice ∷ stack) e at_e (omega (arith, small_e.weight)) (omega (arith, small_e.degree))
    ∙ after_step live Add (Div (pos 3) ∷ Mul (pos (2 ^ level)) ∷ rest) (e ∷ twice ∷ stack) both stack refl
    (omega (arith, weight-joined twice.terms e.terms, small_twice.weight, small_e.weight)) (omega (arith, small_twice.degree, small_e.degree))
    ∙ after_step live (Div (pos 3)) (Mul (pos (2 ^ level)) ∷ rest) (both ∷ stack) line stack refl small_line.weight small_line.degree
    ∙ after_step live (Mul (pos (2 ^ level))) rest (line ∷ stack) times stack refl small_times.weight small_times.degree

-- ---- how high the stack is

pub height_push : (h id : ℕ) (rest : List PolOp) → h < 65536 → height_from h (Push id ∷ rest) ≡ height_from (suc h) rest
height_push h id rest low =
    ap (λ (b : Bool). option_and_then (λ k. height_from k rest) (cond {A = Option ℕ} b (Some (suc h)) None)) (lt-ltb h 65536 low)

pub line_height : (h level id : ℕ) (rest : List PolOp) → h + 1 < 65536 → height_from h (line_ops level id ++ rest) ≡ height_from (suc h) rest
line_height h level id rest low =
    height_push h id (Mul (pos 2) ∷ Push (id + 2) ∷ Add ∷ Div (pos 3) ∷ Mul (pos (2 ^ level)) ∷ rest) (omega (arith, low))
    ∙ height_push (suc h) (id + 2) (Add ∷ Div (pos 3) ∷ Mul (pos (2 ^ level)) ∷ rest) (omega (arith, low))

-- ---- what rules ask of the operations

-- the constraints that it names stand, its variables are there, and a factor is one
pub record IsReady (db : Database) (op : PolOp) : Type 0 where
  pub ids : All (IsLive db.live) (ids_of_op op)
  pub vars : All (λ v. v ≤ db.vars) (vars_of_op op)
  pub factor : HasFactor op

pub push_ready : (db : Database) (id : ℕ) → IsLive db.live id → IsReady db (Push id)
push_ready db id live = record { ids = All-cons (IsLive db.live) id [] live (All-nil (IsLive db.live)); vars = All-nil (λ v. v ≤ db.vars); factor = tt }

pub add_ready : (db : Database) → IsReady db Add
add_ready db = record { ids = All-nil (IsLive db.live); vars = All-nil (λ v. v ≤ db.vars); factor = tt }

mul_ready : (db : Database) (n : ℕ) → 1 ≤ n → IsReady db (Mul (pos n))
mul_ready db n from = record { ids = All-nil (IsLive db.live); vars = All-nil (λ v. v ≤ db.vars); factor = (let h : pos 1 ≤ℤ pos n = omega (arith, ints, from) in h) }

div_ready : (db : Database) (n : ℕ) → 1 ≤ n → IsReady db (Div (pos n))
div_ready db n from = record { ids = All-nil (IsLive db.live); vars = All-nil (λ v. v ≤ db.vars); factor = (let h : pos 1 ≤ℤ pos n = omega (arith, ints, from) in h) }

pub line_ready : (db : Database) (level id : ℕ) → IsLive db.live id → IsLive db.live (id + 2) → All (IsReady db) (line_ops level id)
line_ready db level id carry sum =
    let P = IsReady db in
    All-cons P (Push id) (Mul (pos 2) ∷ Push (id + 2) ∷ Add ∷ Div (pos 3) ∷ Mul (pos (2 ^ level)) ∷ []) (push_ready db id carry)
    (All-cons P (Mul (pos 2)) (Push (id + 2) ∷ Add ∷ Div (pos 3) ∷ Mul (pos (2 ^ level)) ∷ []) (mul_ready db 2 (omega arith))
    (All-cons P (Push (id + 2)) (Add ∷ Div (pos 3) ∷ Mul (pos (2 ^ level)) ∷ []) (push_ready db (id + 2) sum)
    (All-cons P Add (Div (pos 3) ∷ Mul (pos (2 ^ level)) ∷ []) (add_ready db)
    (All-cons P (Div (pos 3)) (Mul (pos (2 ^ level)) ∷ []) (div_ready db 3 (omega arith))
    (All-cons P (Mul (pos (2 ^ level))) [] (mul_ready db (2 ^ level) (pow_pos level)) (All-nil P))))))

-- ---- what is known of an adder

pub gate_apart : (first : ℕ) (g : Gate) → IsApart first g → AreApartTerms (balance (input_lits first g) (sum_var first g) (carry_var first g))
gate_apart first (Full a b c made) h = apart (balance (input_lits first (Full a b c made)) (sum_var first (Full a b c made)) (carry_var first (Full a b c made))) h
gate_apart first (Half a b made) h = apart (balance (input_lits first (Half a b made)) (sum_var first (Half a b made)) (carry_var first (Half a b made))) h

few_inputs : (first : ℕ) (g : Gate) → length (input_lits first g) ≤ 3
few_inputs first (Full a b c made) = omega arith
few_inputs first (Half a b made) = omega arith

small_carry : (first : ℕ) (g : Gate) (d : ℕ) → weight (forward_of (carry_reification (input_lits first g) d)).terms ≤ 5
small_carry first (Full a b c made) d = omega arith
small_carry first (Half a b made) d = omega arith

small_sum : (first : ℕ) (g : Gate) (s d : ℕ) → weight (forward_of (sum_reification (input_lits first g) s d)).terms ≤ 8
small_sum first (Full a b c made) s d = omega arith
small_sum first (Half a b made) s d = omega arith

pub part-le : (ts : List Weighted) (p : Lit → Bool) → part ts p ≤ weight ts
part-le [] p = omega arith
part-le (t ∷ ts) p =
    omega (arith, sum_by-cons (λ (t : Weighted). cond (p t.lit) t.coef 0) t ts, sum_by-cons {X = Weighted} (λ t. t.coef) t ts, part-le ts p, one (p t.lit))
  where
    one : (b : Bool) → cond b t.coef 0 ≤ t.coef
    one true = omega arith
    one false = omega arith

inputs_part : (first : ℕ) (g : Gate) (p : Lit → Bool) → part (ones (input_lits first g)) p ≤ 3
inputs_part first g p = omega (arith, part-le (ones (input_lits first g)) p, ones-weight (input_lits first g), few_inputs first g)

outputs_few : (p : Lit → Bool) (s d : ℕ) → part (outputs s d) p ≤ 3
outputs_few p s d = part-le (outputs s d) p

-- all fresh variables are true
abbrev pub MakesFresh : ℕ → Assignment → Type 0
MakesFresh first a = (k : ℕ) → lit_value a (positive_of (first + k)) ≡ true

outputs_part : (first : ℕ) (g : Gate) (a : Assignment) → MakesFresh first a → part (outputs (sum_var first g) (carry_var first g)) (lit_value a) ≡ 3
outputs_part first g a fresh =
    let s : one (lit_value a (positive_of (sum_var first g))) ≡ 1 = ap one (fresh (made_of g)) in
    let d : one (lit_value a (positive_of (carry_var first g))) ≡ 1 = ap one (fresh (made_of g + 1)) in
    omega (arith, part-outputs (lit_value a) (sum_var first g) (carry_var first g), s, d)

-- an adder as a line needs it
pub record IsLaid (P : ℕ → Type 0) (first : ℕ) (x : Leveled) : Type 0 where
  pub apart : IsApart first x.gate
  pub level : 2 ^ x.level ≤ 2 ^ 100
  pub named : All (λ t. P t.lit.var) (balance (input_lits first x.gate) (sum_var first x.gate) (carry_var first x.gate))

-- ---- what several take and give

-- no more is taken than given, where all fresh variables are true
pub taken_less : (first : ℕ) (xs : List Leveled) (a : Assignment) → MakesFresh first a → taken first xs (lit_value a) ≤ given first xs (lit_value a)
taken_less first [] a fresh = omega arith
taken_less first (x ∷ xs) a fresh =
    let p = lit_value a in
    let here : taken_by first x p ≤ given_by first x p = mul-le-mul_left (2 ^ x.level) (omega (arith, inputs_part first x.gate p, outputs_part first x.gate a fresh)) in
    omega (arith, sum_by-cons (λ (x : Leveled). taken_by first x p) x xs, sum_by-cons (λ (x : Leveled). given_by first x p) x xs, taken_less first xs a fresh, here)

times_small : (n k : ℕ) → n ≤ 2 ^ 100 → k ≤ 3 → n * k ≤ 3 * 2 ^ 100
times_small n k h l = let less : n * k ≤ n * 3 = mul-le-mul_left n l in omega (arith, less, h)

each_small : (P : ℕ → Type 0) (first : ℕ) (f : Leveled → ℕ) (xs : List Leveled) → All (IsLaid P first) xs → ((x : Leveled) → IsLaid P first x → f x ≤ 3 * 2 ^ 100) → sum_by f xs ≤ 3 * 2 ^ 100 * length xs
each_small P first f [] laid each = omega arith
each_small P first f (x ∷ xs) laid each =
    let here : f x ≤ 3 * 2 ^ 100 = each x (All-head (IsLaid P first) x xs laid) in
    omega (arith, sum_by-cons f x xs, here, each_small P first f xs (All-tail (IsLaid P first) x xs laid) each)

pub taken_small : (P : ℕ → Type 0) (first : ℕ) (xs : List Leveled) (p : Lit → Bool) → All (IsLaid P first) xs → taken first xs p ≤ 3 * 2 ^ 100 * length xs
taken_small P first xs p laid = each_small P first (λ (x : Leveled). taken_by first x p) xs laid (λ x h. times_small (2 ^ x.level) (part (ones (input_lits first x.gate)) p) h.level (inputs_part first x.gate p))

pub given_small : (P : ℕ → Type 0) (first : ℕ) (xs : List Leveled) (p : Lit → Bool) → All (IsLaid P first) xs → given first xs p ≤ 3 * 2 ^ 100 * length xs
given_small P first xs p laid = each_small P first (λ (x : Leveled). given_by first x p) xs laid (λ x h. times_small (2 ^ x.level) (part (outputs (sum_var first x.gate) (carry_var first x.gate)) p) h.level (outputs_few p (sum_var first x.gate) (carry_var first x.gate)))

-- ---- trees

abbrev pub reifications_of : ℕ → List Leveled → List Reification
reifications_of first xs = flat_map {X = Leveled} (λ x. gate_reifications first x.gate) xs

abbrev pub levels_in : List Leveled → List ℕ
levels_in xs = map (λ (x : Leveled). x.level) xs

-- operations of adders leave one constraint on the stack, which says that the adders take no less than they give
pub record Leaves (P : ℕ → Type 0) (db : Database) (first n : ℕ) (xs : List Leveled) (ops : List PolOp) : Type 0 where
  pub sum : Constraint
  pub after : (rest : List PolOp) (stack : List Constraint) → after_ops db.live (ops ++ rest) stack ≡ after_ops db.live rest (sum ∷ stack)
  pub height : (h : ℕ) (rest : List PolOp) → h + n + 1 < 65536 → height_from h (ops ++ rest) ≡ height_from (suc h) rest
  pub ready : All (IsReady db) ops
  pub balanced : IsBalanced (taken first xs) (given first xs) sum
  pub named : All (λ t. P t.lit.var) sum.terms

-- the ids of adders, behind others
pub meant_behind : (db : Database) (first id : ℕ) (xs ys : List Leveled) → AreMeant db id (reifications_of first (xs ++ ys)) → AreMeant db id (reifications_of first xs) × AreMeant db (id + 4 * length xs) (reifications_of first ys)
meant_behind db first id [] ys h = (tt, subst (λ (i : ℕ). AreMeant db i (reifications_of first ys)) (let e : id ≡ id + 4 * 0 = omega arith in e) h)
meant_behind db first id (x ∷ xs) ys h =
    let rest = meant_behind db first (id + 2 + 2) xs ys h.1.1 in
    ((h.0, (h.1.0, rest.0)), subst (λ (i : ℕ). AreMeant db i (reifications_of first ys)) (let e : id + 2 + 2 + 4 * length xs ≡ id + 4 * length (x ∷ xs) = omega arith in e) rest.1)

-- the first adders of a list, and the rest
pub laid_parts : (P : ℕ → Type 0) (first k : ℕ) (xs : List Leveled) → All (IsLaid P first) xs → All (IsLaid P first) (take k xs) × All (IsLaid P first) (drop k xs)
laid_parts P first k xs laid = All-append_both (IsLaid P first) (take k xs) (drop k xs) (subst (All (IsLaid P first)) (sym (take-append-drop k xs)) laid)

module _ (P : ℕ → Type 0) (db : Database) (first : ℕ) (a : Assignment) (fresh : MakesFresh first a) where
  line_leaves : (id : ℕ) (x : Leveled) → AreMeant db id (reifications_of first (x ∷ [])) → IsLaid P first x → Leaves P db first 0 (x ∷ []) (line_ops x.level id)
  line_leaves id x meant laid =
      let g : Gate = x.gate in
      let inputs = input_lits first g in
      let s = sum_var first g in
      let d = carry_var first g in
      let n = 2 ^ x.level in
      let carry = meant.0.first in
      let both = meant.1.0.first in
      let c : Constraint = carry.0 in
      let form_c : IsFormOf (forward_of (carry_reification inputs d)) c = carry.2 in
      let e : Constraint = both.0 in
      let form_e : IsFormOf (forward_of (sum_reification inputs s d)) e = both.2 in
      let line : Constraint = line_of c e in
      let apart_all = gate_apart first g laid.apart in
      let exact = line_exact inputs s d c e apart_all form_c form_e in
      let small = balanced_small 3 (part (ones inputs)) (part (outputs s d)) line exact (λ p. inputs_part first g p) (λ p. outputs_few p s d) in
      let times = balanced_times n (part (ones inputs)) (part (outputs s d)) line (pow_pos x.level) exact in
      let level = laid.level in
      let less = balanced_small (3 * 2 ^ 100) (λ p. n * part (ones inputs) p) (λ p. n * part (outputs s d) p) (multiple n line) times
      (λ p. times_small n (part (ones inputs) p) level (inputs_part first g p)) (λ p. times_small n (part (outputs s d) p) level (outputs_few p s d)) in
      let line_named : All (λ t. P t.lit.var) line.terms =
      subst (λ (k : Constraint). All (λ t. P t.lit.var) k.terms) (sym (line_is inputs s d c e apart_all form_c form_e)) (written-all (λ t. P t.lit.var) (balance inputs s d) 3 apart_all laid.named) in
      record {
        sum = multiple n line;
        after = λ rest stack.
            line_after db.live x.level id c e rest stack carry.1 both.1
            (record { weight = omega (arith, form_c.terms (λ t. t.coef), small_carry first g d); degree = omega (arith, form_c.degree) })
            (record { weight = omega (arith, form_e.terms (λ t. t.coef), small_sum first g s d); degree = omega (arith, form_e.degree) })
            (record { weight = omega (arith, small); degree = omega (arith, small) })
            (record { weight = omega (arith, less); degree = omega (arith, less) });
        height = λ h rest low. line_height h x.level id rest (omega (arith, low));
        ready = line_ready db x.level id (ap is_some carry.1) (ap is_some both.1);
        balanced = balanced_as (λ p. n * part (ones inputs) p) (taken first (x ∷ [])) (λ p. n * part (outputs s d) p) (given first (x ∷ [])) (multiple n line) (λ p. omega arith) (λ p. omega arith) times;
        named = All-map (λ (t : Weighted). P t.lit.var) (scaled n) line.terms line_named;
      }

  -- the two halves are added
  both_leave : (n : ℕ) (xs ys : List Leveled) (us vs : List PolOp) → All (IsLaid P first) xs → All (IsLaid P first) ys → length xs + length ys ≤ 2 ^ 16 → Leaves P db first n xs us → Leaves P db first n ys vs
      → Leaves P db first (suc n) (xs ++ ys) (us ++ (vs ++ Add ∷ []))
  both_leave n xs ys us vs laid others few left right =
      let c : Constraint = left.sum in
      let d : Constraint = right.sum in
      let made : Constraint = sum_of c d in
      let m : ℕ = 3 * 2 ^ 100 * length xs + 3 * 2 ^ 100 * length ys in
      let both = balanced_both (taken first xs) (given first xs) (taken first ys) (given first ys) c d a left.balanced right.balanced (omega (arith, taken_less first xs a fresh, taken_less first ys a fresh)) in
      let small = balanced_small m (λ p. taken first xs p + taken first ys p) (λ p. given first xs p + given first ys p) made both
      (λ p. omega (arith, taken_small P first xs p laid, taken_small P first ys p others)) (λ p. omega (arith, given_small P first xs p laid, given_small P first ys p others)) in
      let least : m ≤ 3 * 2 ^ 116 = omega (arith, few) in
      let joint : (rest : List PolOp) → (us ++ (vs ++ Add ∷ [])) ++ rest ≡ us ++ (vs ++ Add ∷ rest) = λ rest.
      append_assoc us (vs ++ Add ∷ []) rest ∙ ap (λ (ops : List PolOp). us ++ ops) (append_assoc vs (Add ∷ []) rest) in
      record {
        sum = made;
        after = λ rest stack.
            ap (λ (ops : List PolOp). after_ops db.live ops stack) (joint rest)
            ∙ left.after (vs ++ Add ∷ rest) stack
            ∙ right.after (Add ∷ rest) (c ∷ stack)
            ∙ after_step db.live Add rest (d ∷ c ∷ stack) made stack refl (omega (arith, small, least)) (omega (arith, small, least));
        height = λ h rest low.
            ap (λ (ops : List PolOp). height_from h ops) (joint rest)
            ∙ left.height h (vs ++ Add ∷ rest) (omega (arith, low))
            ∙ right.height (suc h) (Add ∷ rest) (omega (arith, low));
        ready = All-append (IsReady db) us (vs ++ Add ∷ []) left.ready (All-append (IsReady db) vs (Add ∷ []) right.ready (All-cons (IsReady db) Add [] (add_ready db) (All-nil (IsReady db))));
        balanced = balanced_as (λ p. taken first xs p + taken first ys p) (taken first (xs ++ ys)) (λ p. given first xs p + given first ys p) (given first (xs ++ ys)) made
            (λ p. sym (sum_by-append (λ (x : Leveled). taken_by first x p) xs ys)) (λ p. sym (sum_by-append (λ (x : Leveled). given_by first x p) xs ys)) both;
        named = joined-vars P c.terms d.terms left.named right.named;
      }

  -- a tree that could be higher
  less_high : (n : ℕ) (xs : List Leveled) (ops : List PolOp) → Leaves P db first n xs ops → Leaves P db first (suc n) xs ops
  less_high n xs ops h = record { sum = h.sum; after = h.after; height = λ k rest low. h.height k rest (omega (arith, low)); ready = h.ready; balanced = h.balanced; named = h.named }

  pub tree_leaves : (n id : ℕ) (xs : List Leveled) → 1 ≤ length xs → length xs ≤ 2 ^ n → length xs ≤ 2 ^ 16 → AreMeant db id (reifications_of first xs) → All (IsLaid P first) xs
      → Leaves P db first n xs (tree_ops n id (levels_in xs))
  unfolding tree_ops
  tree_leaves zero id [] some few short meant laid = absurd (omega (arith, some))
  tree_leaves zero id (x ∷ []) some few short meant laid = line_leaves id x meant (All-head (IsLaid P first) x [] laid)
  tree_leaves zero id (x ∷ y ∷ xs) some few short meant laid = absurd (omega (arith, few))
  tree_leaves (suc n) id xs some few short meant laid =
      let k = 2 ^ n in
      let ls = levels_in xs in
      let size = length-map xs (λ (x : Leveled). x.level) in
      let front = take k xs in
      let back = drop k xs in
      let whole : front ++ back ≡ xs = take-append-drop k xs in
      let parts = laid_parts P first k xs laid in
      let two = two-pow-succ n in
      cond_both (leb (length ls) k) (tree_ops n id ls) (tree_ops n id (take k ls) ++ (tree_ops n (id + 4 * k) (drop k ls) ++ Add ∷ [])) (Leaves P db first (suc n) xs)
      (λ e. less_high n xs (tree_ops n id ls) (tree_leaves n id xs some (omega (arith, leb-true (length ls) k e, size)) short meant laid))
      (λ e.
      let more : k < length xs = omega (arith, leb-false (length ls) k e, size) in
      let one : length front ≡ k = length-take-le k xs (omega (arith, more)) in
      let other : length back ≡ length xs - k = length-drop k xs in
      let met = meant_behind db first id front back (subst (λ (ys : List Leveled). AreMeant db id (reifications_of first ys)) (sym whole) meant) in
      let left = tree_leaves n id front (omega (arith, one, pow_pos n)) (omega (arith, one)) (omega (arith, one, more, short)) met.0 parts.0 in
      let right = tree_leaves n (id + 4 * k) back (omega (arith, other, more)) (omega (arith, other, few, two)) (omega (arith, other, short))
      (subst (λ (i : ℕ). AreMeant db (id + 4 * i) (reifications_of first back)) one met.1) parts.1 in
      subst (λ (ys : List Leveled). Leaves P db first (suc n) ys (tree_ops n id (take k ls) ++ (tree_ops n (id + 4 * k) (drop k ls) ++ Add ∷ []))) whole
      (subst (λ (us : List ℕ). Leaves P db first (suc n) (front ++ back) (tree_ops n id us ++ (tree_ops n (id + 4 * k) (drop k ls) ++ Add ∷ []))) (sym (take-map (λ (x : Leveled). x.level) k xs))
      (subst (λ (us : List ℕ). Leaves P db first (suc n) (front ++ back) (tree_ops n id (levels_in front) ++ (tree_ops n (id + 4 * k) us ++ Add ∷ []))) (sym (drop-map (λ (x : Leveled). x.level) k xs))
      (both_leave n front back (tree_ops n id (levels_in front)) (tree_ops n (id + 4 * k) (levels_in back)) parts.0 parts.1 (omega (arith, one, other, more, short)) left right))))
