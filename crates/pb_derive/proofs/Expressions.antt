-- Expressions over constraints that are known, which a line computes on its stack.
use Rattle.std.proofs.Common.{◌≡◌, ◌≤◌, ◌<◌, ◌+◌, ◌*◌, ◌^◌, ℕ, suc, Bool, cond, List, [], ◌∷◌, ◌++◌, refl, ap, sym, ◌∙◌, subst, append-nil, append_assoc, pos, zero, arith}
use Rattle.std.specs.Prelude.{All, map, flat_map, max, Option, Some, None, is_some}
use Rattle.std.specs.List.{range_with_len}
use Rattle.std.specs.Option.{option_and_then}
use Rattle.std.proofs.Math.Nat.{mul-add, mul-le-mul_left}
use Rattle.std.proofs.lemmas.Bool.{lt-ltb}
use Rattle.std.proofs.lemmas.Int.{ints}
use Rattle.std.proofs.lemmas.List.Concat.{flat_map-append}
use Rattle.std.proofs.lemmas.List.Elements.{All-nil, All-cons, All-head, All-tail}
use Rattle.std.proofs.lemmas.List.FromFn.{map-range_with_len_more}
use Rattle.pb_base.specs.declared.literal.Lit.{Lit}
use Rattle.pb_norm.specs.Constraints.{Weighted, Constraint, AllPositive, weight}
use Rattle.pb_norm.specs.Addition.{sum_of}
use Rattle.pb_norm.proofs.AdditionSizes.{weight-joined, weight-cons}
use Rattle.pb_steps.specs.declared.op.PolOp.{PolOp}
use Rattle.pb_steps.specs.declared.op.PolOp.TheVariants.{Push, Axiom, Add, Mul, Div, Weaken}
use Rattle.pb_steps.specs.declared.step.Step.TheVariants.{Pol}
use Rattle.pb_steps.specs.Database.{Database, IsLive}
use Rattle.pb_steps.specs.Operations.{axiom_of, scaled, multiple, division, weakening}
use Rattle.pb_steps.specs.Stacks.{higher, height_from, leaves_one, after_ops}
use Rattle.pb_steps.specs.Steps.{HasFactor, vars_of_op, ids_of_op}
use Rattle.pb_derive.specs.Forms.{AreApartTerms, IsFormOf}
use Rattle.pb_derive.specs.Justifications.{push_and_add}
use Rattle.pb_derive.specs.Later.{Knows}
use Rattle.pb_derive.proofs.Closing.{weaken_from, weakened_lighter}
use Rattle.pb_derive.proofs.FormOperations.{form_all}
use Rattle.pb_derive.proofs.Lines.{Adds}
use Rattle.pb_derive.proofs.Reasoned.{All-flat_map}
use Rattle.pb_derive.proofs.Stacked.{k-le-mul, divided_lighter, after_step, push_step}

pub data Expression (db : Database) : Type 0 where
  known : (id : ℕ) (s : Constraint) → Knows db id s → Expression db
  literal : Lit → Expression db
  plus : Expression db → Expression db → Expression db
  times : ℕ → Expression db → Expression db
  over : ℕ → Expression db → Expression db
  without : ℕ → Expression db → Expression db

-- its operations in postfix notation, before others
abbrev pub ops_before : {db : Database} → Expression db → List PolOp → List PolOp
ops_before (known id s h) ops = Push id ∷ ops
ops_before (literal l) ops = Axiom l ∷ ops
ops_before (plus e f) ops = ops_before e (ops_before f (Add ∷ ops))
ops_before (times n e) ops = ops_before e (Mul (pos n) ∷ ops)
ops_before (over n e) ops = ops_before e (Div (pos n) ∷ ops)
ops_before (without v e) ops = ops_before e (Weaken v ∷ ops)

-- the constraint that they leave
abbrev pub left_of : {db : Database} → Expression db → Constraint
left_of (known id s h) = h.0
left_of (literal l) = axiom_of l
left_of (plus e f) = sum_of (left_of e) (left_of f)
left_of (times n e) = multiple n (left_of e)
left_of (over n e) = division n (left_of e)
left_of (without v e) = weakening v (left_of e)

-- no number on the way is greater
abbrev pub size_of : {db : Database} → Expression db → ℕ
size_of (known id s h) = weight s.terms + s.degree
size_of (literal l) = 1
size_of (plus e f) = size_of e + size_of f
size_of (times n e) = n * size_of e
size_of (over n e) = size_of e
size_of (without v e) = size_of e

-- how high the stack gets
abbrev pub height_of : {db : Database} → Expression db → ℕ
height_of (known id s h) = 1
height_of (literal l) = 1
height_of (plus e f) = max (height_of e) (suc (height_of f))
height_of (times n e) = height_of e
height_of (over n e) = height_of e
height_of (without v e) = height_of e

-- factors are from 1 on, and variables are those of the database
abbrev pub IsFit : {db : Database} → Expression db → Type 0
IsFit (known id s h) = Unit {0}
IsFit {db} (literal l) = l.var ≤ db.vars
IsFit (plus e f) = IsFit e × IsFit f
IsFit (times n e) = (1 ≤ n) × IsFit e
IsFit (over n e) = (1 ≤ n) × IsFit e
IsFit {db} (without v e) = (v ≤ db.vars) × IsFit e

weight-scaled : (n : ℕ) (ts : List Weighted) → weight (map (scaled n) ts) ≡ n * weight ts
weight-scaled n [] = omega arith
weight-scaled n (t ∷ ts) = omega (arith, weight-cons (scaled n t) (map (scaled n) ts), weight-scaled n ts, ap (λ (k : ℕ). n * k) (weight-cons t ts) ∙ mul-add n t.coef (weight ts))

module _ (db : Database) where
  -- ---- sizes

  abbrev Within : Constraint → ℕ → Type 0
  Within c n = weight c.terms + c.degree ≤ n

  left-within : (e : Expression db) → IsFit e → Within (left_of e) (size_of e)
  left-within (known id s h) fit = omega (arith, h.2.terms (λ t. t.coef), h.2.degree)
  left-within (literal l) fit = omega arith
  left-within (plus e f) fit = omega (arith, left-within e fit.0, left-within f fit.1, weight-joined (left_of e).terms (left_of f).terms)
  left-within (times n e) fit =
      let c : Constraint = left_of e in
      omega (arith, weight-scaled n c.terms, mul-add n (weight c.terms) c.degree, mul-le-mul_left n (left-within e fit.1))
  left-within (over n e) fit = let lighter = divided_lighter n (left_of e) fit.0 in omega (arith, lighter.0, lighter.1, left-within e fit.1)
  left-within (without v e) fit = let lighter = weakened_lighter v (left_of e) in omega (arith, lighter.0, lighter.1, left-within e fit.1)

  -- ---- what is on the stack

  abbrev after : List PolOp → List Constraint → Option (List Constraint)
  after ops stack = after_ops db.live ops stack

  ran_ops : (e : Expression db) → IsFit e → size_of e < 2 ^ 126 → (ops : List PolOp) (stack : List Constraint) → after (ops_before e ops) stack ≡ after ops (left_of e ∷ stack)
  ran_ops (known id s h) fit small ops stack =
      let within = left-within (known id s h) tt in
      push_step db.live id ops stack h.0 h.1 (omega (arith, within, small)) (omega (arith, within, small))
  ran_ops (literal l) fit small ops stack = after_step db.live (Axiom l) ops stack (axiom_of l) stack refl (omega arith) (omega arith)
  ran_ops (plus e f) fit small ops stack =
      let within = left-within (plus e f) fit in
      ran_ops e fit.0 (omega (arith, small)) (ops_before f (Add ∷ ops)) stack
      ∙ ran_ops f fit.1 (omega (arith, small)) (Add ∷ ops) (left_of e ∷ stack)
      ∙ after_step db.live Add ops (left_of f ∷ left_of e ∷ stack) (left_of (plus e f)) stack refl (omega (arith, within, small)) (omega (arith, within, small))
  ran_ops (times n e) fit small ops stack =
      let within = left-within (times n e) fit in
      ran_ops e fit.1 (omega (arith, small, k-le-mul n (size_of e) fit.0)) (Mul (pos n) ∷ ops) stack
      ∙ after_step db.live (Mul (pos n)) ops (left_of e ∷ stack) (left_of (times n e)) stack refl (omega (arith, within, small)) (omega (arith, within, small))
  ran_ops (over n e) fit small ops stack =
      let within = left-within (over n e) fit in
      ran_ops e fit.1 small (Div (pos n) ∷ ops) stack
      ∙ after_step db.live (Div (pos n)) ops (left_of e ∷ stack) (left_of (over n e)) stack refl (omega (arith, within, small)) (omega (arith, within, small))
  ran_ops (without v e) fit small ops stack =
      let within = left-within (without v e) fit in
      ran_ops e fit.1 small (Weaken v ∷ ops) stack
      ∙ after_step db.live (Weaken v) ops (left_of e ∷ stack) (left_of (without v e)) stack refl (omega (arith, within, small)) (omega (arith, within, small))

  -- ---- its height

  one_higher : (h : ℕ) (ops : List PolOp) → h < 65536 → option_and_then (λ k. height_from k ops) (higher h) ≡ height_from (suc h) ops
  one_higher h ops low = ap (λ (b : Bool). option_and_then (λ k. height_from k ops) (cond {A = Option ℕ} b (Some (suc h)) None)) (lt-ltb h 65536 low)

  height-ops : (e : Expression db) (h : ℕ) (ops : List PolOp) → h + height_of e ≤ 65536 → height_from h (ops_before e ops) ≡ height_from (suc h) ops
  height-ops (known id s k) h ops low = one_higher h ops (omega (arith, low))
  height-ops (literal l) h ops low = one_higher h ops (omega (arith, low))
  height-ops (plus e f) h ops low =
      height-ops e h (ops_before f (Add ∷ ops)) (omega (arith, low)) ∙ height-ops f (suc h) (Add ∷ ops) (omega (arith, low))
  height-ops (times n e) h ops low = height-ops e h (Mul (pos n) ∷ ops) low
  height-ops (over n e) h ops low = height-ops e h (Div (pos n) ∷ ops) low
  height-ops (without v e) h ops low = height-ops e h (Weaken v ∷ ops) low

  -- ---- what holds of each operation

  ops-all : (Q : PolOp → Type 0) → ((id : ℕ) → IsLive db.live id → Q (Push id)) → ((l : Lit) → l.var ≤ db.vars → Q (Axiom l)) → Q Add → ((n : ℕ) → 1 ≤ n → Q (Mul (pos n)) × Q (Div (pos n)))
      → ((v : ℕ) → v ≤ db.vars → Q (Weaken v)) → (e : Expression db) → IsFit e → (ops : List PolOp) → All Q ops → All Q (ops_before e ops)
  ops-all Q pushed literally added factor gone (known id s h) fit ops all = All-cons Q (Push id) ops (pushed id (ap is_some h.1)) all
  ops-all Q pushed literally added factor gone (literal l) fit ops all = All-cons Q (Axiom l) ops (literally l fit) all
  ops-all Q pushed literally added factor gone (plus e f) fit ops all =
      ops-all Q pushed literally added factor gone e fit.0 (ops_before f (Add ∷ ops)) (ops-all Q pushed literally added factor gone f fit.1 (Add ∷ ops) (All-cons Q Add ops added all))
  ops-all Q pushed literally added factor gone (times n e) fit ops all = ops-all Q pushed literally added factor gone e fit.1 (Mul (pos n) ∷ ops) (All-cons Q (Mul (pos n)) ops (factor n fit.0).0 all)
  ops-all Q pushed literally added factor gone (over n e) fit ops all = ops-all Q pushed literally added factor gone e fit.1 (Div (pos n) ∷ ops) (All-cons Q (Div (pos n)) ops (factor n fit.0).1 all)
  ops-all Q pushed literally added factor gone (without v e) fit ops all = ops-all Q pushed literally added factor gone e fit.1 (Weaken v ∷ ops) (All-cons Q (Weaken v) ops (gone v fit.0) all)

  ops-vars : (e : Expression db) → IsFit e → All (λ op. All (λ v. v ≤ db.vars) (vars_of_op op)) (ops_before e [])
  ops-vars e fit =
      let Low : ℕ → Type 0 = λ v. v ≤ db.vars in
      let Q : PolOp → Type 0 = λ op. All Low (vars_of_op op) in
      ops-all Q (λ id live. All-nil Low) (λ l low. All-cons Low l.var [] low (All-nil Low)) (All-nil Low) (λ n some. (All-nil Low, All-nil Low)) (λ v low. All-cons Low v [] low (All-nil Low)) e fit [] (All-nil Q)

  ops-ids : (e : Expression db) → IsFit e → All (λ op. All (IsLive db.live) (ids_of_op op)) (ops_before e [])
  ops-ids e fit =
      let Live : ℕ → Type 0 = IsLive db.live in
      let Q : PolOp → Type 0 = λ op. All Live (ids_of_op op) in
      ops-all Q (λ id live. All-cons Live id [] live (All-nil Live)) (λ l low. All-nil Live) (All-nil Live) (λ n some. (All-nil Live, All-nil Live)) (λ v low. All-nil Live) e fit [] (All-nil Q)

  ops-factors : (e : Expression db) → IsFit e → All HasFactor (ops_before e [])
  ops-factors e fit = ops-all HasFactor (λ id live. tt) (λ l low. tt) tt (λ n some. (omega (arith, ints, some), omega (arith, ints, some))) (λ v low. tt) e fit [] (All-nil HasFactor)

-- ---- the line

-- what is asked of the form that is left
pub record IsNormal (P : ℕ → Type 0) (t : Constraint) : Type 0 where
  pub apart : AreApartTerms t.terms
  pub positive : AllPositive t.terms
  pub named : All (λ u. P u.lit.var) t.terms

-- an expression adds the constraint that it leaves
pub expression_adds : (P : ℕ → Type 0) (db : Database) (e : Expression db) (t : Constraint) → IsFit e → height_of e ≤ 65536 → size_of e < 2 ^ 126 → IsFormOf t (left_of e) → IsNormal P t → Adds P db (Pol (ops_before e [])) t
expression_adds P db e t fit low small form normal = record {
  constraint = left_of e;
  allowed = λ next. record {
    vars = All-flat_map (λ v. v ≤ db.vars) vars_of_op (ops_before e []) (ops-vars db e fit);
    ids = All-flat_map (IsLive db.live) ids_of_op (ops_before e []) (ops-ids db e fit);
    rule = record {
      factors = ops-factors db e fit;
      stacked = ap leaves_one (height-ops db e 0 [] (omega (arith, low)));
      sum = left_of e;
      result = ran_ops db e fit small [] [];
      after = refl;
    };
  };
  form = form;
  takes = refl;
  named = form_all (λ (u : Weighted). P u.lit.var) t (left_of e) normal.apart normal.positive form normal.named;
}

-- ---- an expression without some variables

abbrev pub without_all : {db : Database} → Expression db → List ℕ → Expression db
without_all e [] = e
without_all e (v ∷ vs) = without_all (without v e) vs

module _ (db : Database) where
  without-ops : (e : Expression db) (vs : List ℕ) (ops : List PolOp) → ops_before (without_all e vs) ops ≡ ops_before e (map Weaken vs ++ ops)
  without-ops e [] ops = refl
  without-ops e (v ∷ vs) ops = without-ops (without v e) vs ops

  without-left : (e : Expression db) (vs : List ℕ) → left_of (without_all e vs) ≡ weaken_from (left_of e) vs
  without-left e [] = refl
  without-left e (v ∷ vs) = without-left (without v e) vs

  without-size : (e : Expression db) (vs : List ℕ) → (size_of (without_all e vs) ≡ size_of e) × (height_of (without_all e vs) ≡ height_of e)
  without-size e [] = (refl, refl)
  without-size e (v ∷ vs) = without-size (without v e) vs

  without-fit : (e : Expression db) (vs : List ℕ) → All (λ v. v ≤ db.vars) vs → IsFit e → IsFit (without_all e vs)
  without-fit e [] low fit = fit
  without-fit e (v ∷ vs) low fit = without-fit (without v e) vs (All-tail (λ v. v ≤ db.vars) v vs low) (All-head (λ v. v ≤ db.vars) v vs low, fit)

pub weakened_adds : (P : ℕ → Type 0) (db : Database) (e : Expression db) (vs : List ℕ) (t : Constraint) → IsFit e → All (λ v. v ≤ db.vars) vs → height_of e ≤ 65536 → size_of e < 2 ^ 126 → IsFormOf t (weaken_from (left_of e) vs) → IsNormal P t
    → Adds P db (Pol (ops_before e (map Weaken vs))) t
weakened_adds P db e vs t fit vars low small form normal =
    let sizes = without-size db e vs in
    subst (λ (ops : List PolOp). Adds P db (Pol ops) t) (without-ops db e vs [] ∙ ap (ops_before e) (append-nil (map Weaken vs)))
    (expression_adds P db (without_all e vs) t (without-fit db e vs vars fit) (omega (arith, sizes.1, low)) (omega (arith, sizes.0, small)) (subst (IsFormOf t) (sym (without-left db e vs)) form) normal)

-- ---- constraints by their places, added to an expression

pub below_more : (j n : ℕ) → j < n → j < suc n
below_more j n within = omega (arith, within)

pub last_below : (n : ℕ) → n < suc n
last_below n = omega arith

abbrev pub sum_up : {db : Database} (e : Expression db) (ids : ℕ → ℕ) (s : ℕ → Constraint) (n : ℕ) → ((j : ℕ) → j < n → Knows db (ids j) (s j)) → Expression db
sum_up e ids s zero h = e
sum_up e ids s (suc n) h = plus (sum_up e ids s n (λ j within. h j (below_more j n within))) (known (ids n) (s n) (h n (last_below n)))

module _ (db : Database) (e : Expression db) (ids : ℕ → ℕ) (s : ℕ → Constraint) where
  abbrev AllThere : ℕ → Type 0
  AllThere n = (j : ℕ) → j < n → Knows db (ids j) (s j)

  abbrev pushes : ℕ → List PolOp
  pushes n = flat_map push_and_add (map ids (range_with_len 0 n))

  pushes-more : (n : ℕ) → pushes (suc n) ≡ pushes n ++ Push (ids n) ∷ Add ∷ []
  pushes-more n =
      subst (λ (k : ℕ). pushes k ≡ pushes n ++ Push (ids n) ∷ Add ∷ []) (let same : n + 1 ≡ suc n = omega arith in same) (ap (flat_map push_and_add) (map-range_with_len_more ids 0 n n (omega arith)) ∙ flat_map-append push_and_add (map ids (range_with_len 0 n)) (ids n ∷ []))

  sum_up-ops : (n : ℕ) (h : AllThere n) (ops : List PolOp) → ops_before (sum_up e ids s n h) ops ≡ ops_before e (pushes n ++ ops)
  sum_up-ops zero h ops = refl
  sum_up-ops (suc n) h ops =
      sum_up-ops n (λ j within. h j (below_more j n within)) (Push (ids n) ∷ Add ∷ ops)
      ∙ ap (ops_before e) (sym (append_assoc (pushes n) (Push (ids n) ∷ Add ∷ []) ops) ∙ ap (λ (ps : List PolOp). ps ++ ops) (sym (pushes-more n)))

  sum_up-fit : (n : ℕ) (h : AllThere n) → IsFit e → IsFit (sum_up e ids s n h)
  sum_up-fit zero h fit = fit
  sum_up-fit (suc n) h fit = (sum_up-fit n (λ j within. h j (below_more j n within)) fit, tt)

  sum_up-height : (n : ℕ) (h : AllThere n) → height_of e ≤ 65536 → height_of (sum_up e ids s n h) ≤ 65536
  sum_up-height zero h low = low
  sum_up-height (suc n) h low = omega (arith, sum_up-height n (λ j within. h j (below_more j n within)) low)

  sum_up-size : (m n : ℕ) (h : AllThere n) → ((j : ℕ) → j < n → weight (s j).terms + (s j).degree ≤ m) → size_of (sum_up e ids s n h) ≤ size_of e + n * m
  sum_up-size m zero h each = omega arith
  sum_up-size m (suc n) h each =
      omega (arith, sum_up-size m n (λ j within. h j (below_more j n within)) (λ j within. each j (below_more j n within)), each n (omega arith), (let more : suc n * m ≡ n * m + m = omega arith in more))

-- the sum of all of them
pub sum_up_adds : (P : ℕ → Type 0) (db : Database) (e : Expression db) (ids : ℕ → ℕ) (s : ℕ → Constraint) (m n : ℕ) (h : (j : ℕ) → j < n → Knows db (ids j) (s j)) (t : Constraint)
    → IsFit e → height_of e ≤ 65536 → ((j : ℕ) → j < n → weight (s j).terms + (s j).degree ≤ m) → size_of e + n * m < 2 ^ 126 → IsFormOf t (left_of (sum_up e ids s n h)) → IsNormal P t
    → Adds P db (Pol (ops_before e (flat_map push_and_add (map ids (range_with_len 0 n))))) t
sum_up_adds P db e ids s m n h t fit low each small form normal =
    subst (λ (ops : List PolOp). Adds P db (Pol ops) t) (sum_up-ops db e ids s n h [] ∙ ap (ops_before e) (append-nil (flat_map push_and_add (map ids (range_with_len 0 n)))))
    (expression_adds P db (sum_up e ids s n h) t (sum_up-fit db e ids s n h fit) (sum_up-height db e ids s n h low) (omega (arith, sum_up-size db e ids s m n h each, small)) form normal)
