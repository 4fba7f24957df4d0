-- Of a tree no fewer leaves are true than outputs: the lines that say so run.
use Rattle.std.proofs.Common.{◌≡◌, ◌≤◌, ◌<◌, ◌+◌, ◌-◌, ◌*◌, ◌^◌, ◌++◌, ℕ, zero, suc, false, List, [], ◌∷◌, refl, ap, sym, ◌∙◌, subst, arith, append_assoc, pos}
use Rattle.std.specs.Prelude.{All, map, Some, is_some}
use Rattle.std.proofs.lemmas.Int.{ints}
use Rattle.std.proofs.lemmas.List.Elements.{All-nil, All-cons, All-append, All-weaker}
use Rattle.pb_base.specs.Literals.{Assignment}
use Rattle.pb_norm.specs.Addition.{sum_of}
use Rattle.pb_norm.specs.Constraints.{Weighted, Constraint, AllPositive, weight, value}
use Rattle.pb_norm.proofs.AdditionSizes.{weight-cons, weight-joined}
use Rattle.std.proofs.Math.Nat.{mul-add}
use Rattle.pb_steps.specs.declared.op.PolOp.{PolOp}
use Rattle.pb_steps.specs.declared.op.PolOp.TheVariants.{Push, Add, Mul, Div}
use Rattle.pb_steps.specs.declared.step.Step.TheVariants.{Pol}
use Rattle.pb_steps.specs.Database.{Database, IsLive, constraint_at}
use Rattle.pb_steps.specs.Operations.{scaled, multiple, division}
use Rattle.pb_steps.specs.Stacks.{height_from, leaves_one, after_ops}
use Rattle.pb_steps.specs.Steps.{HasFactor, vars_of_op, ids_of_op}
use Rattle.pb_derive.specs.Forms.{AreApartTerms, IsFormOf}
use Rattle.pb_derive.specs.Later.{Knows}
use Rattle.pb_derive.specs.Ones.{ones}
use Rattle.pb_derive.specs.Reifications.{forward_of}
use Rattle.pb_derive.proofs.Appends.{weight-append}
use Rattle.pb_derive.proofs.Expressions.{IsNormal}
use Rattle.pb_derive.proofs.FormOperations.{form_sum, form_all, form_weight}
use Rattle.pb_derive.proofs.Lines.{Adds}
use Rattle.pb_derive.proofs.Reasoned.{All-flat_map}
use Rattle.pb_derive.proofs.Stacked.{after_step, push_step}
use Rattle.pb_derive.proofs.UnaryRows.{missed, places_of, places-weight, count}
use Rattle.pb_tree.specs.Tree.{Tree, empty, leaf, node}
use Rattle.pb_totalizer.specs.Exact.{outputs_of}
use Rattle.pb_totalizer.specs.OutputSteps.{outputs, before}
use Rattle.pb_totalizer.specs.TotalizerSteps.{count_ops, give_way}
use Rattle.pb_totalizer.specs.laws.CountForms.{counted_of, counted_form, GivesWay, counted_gives}
use Rattle.pb_totalizer.specs.laws.OutputAdds.{IsReified, times-small}
use Rattle.pb_totalizer.specs.laws.OutputForms.{meaning_at}
use Rattle.pb_totalizer.specs.laws.OutputLeaves.{leaf_terms}
use Rattle.pb_totalizer.specs.laws.OutputParts.{IsFull, some_outputs, node-counted, outputs-weight}
use Rattle.pb_totalizer.specs.laws.TotalizerLaws.{values_length}

-- ---- a line that names ids that stand, and no variable

abbrev pub IsPlain : Database → PolOp → Type 0
IsPlain db op = All (λ v. v ≤ db.vars) (vars_of_op op) × All (IsLive db.live) (ids_of_op op) × HasFactor op

pub plain_adds : (P : ℕ → Type 0) (db : Database) (ops : List PolOp) (c t : Constraint) → All (IsPlain db) ops → height_from 0 ops ≡ height_from 1 [] → after_ops db.live ops [] ≡ Some (c ∷ []) → IsFormOf t c → IsNormal P t → Adds P db (Pol ops) t
plain_adds P db ops c t plain high runs form normal = record {
  constraint = c;
  allowed = λ next. record {
    vars = All-flat_map (λ v. v ≤ db.vars) vars_of_op ops (All-weaker (IsPlain db) (λ op. All (λ v. v ≤ db.vars) (vars_of_op op)) (λ op h. h.0) ops plain);
    ids = All-flat_map (IsLive db.live) ids_of_op ops (All-weaker (IsPlain db) (λ op. All (IsLive db.live) (ids_of_op op)) (λ op h. h.1) ops plain);
    rule = record { factors = All-weaker (IsPlain db) HasFactor (λ op h. h.2) ops plain; stacked = ap leaves_one high; sum = c; result = runs; after = refl };
  };
  form = form;
  takes = refl;
  named = form_all (λ (u : Weighted). P u.lit.var) t c normal.apart normal.positive form normal.named;
}

module _ (db : Database) where
  pub plain_push : (id : ℕ) → IsLive db.live id → IsPlain db (Push id)
  plain_push id live = (All-nil (λ v. v ≤ db.vars), All-cons (IsLive db.live) id [] live (All-nil (IsLive db.live)), tt)

  pub plain_add : IsPlain db Add
  plain_add = (All-nil (λ v. v ≤ db.vars), All-nil (IsLive db.live), tt)

  pub plain_mul : (n : ℕ) → 1 ≤ n → IsPlain db (Mul (pos n))
  plain_mul n some = (All-nil (λ v. v ≤ db.vars), All-nil (IsLive db.live), omega (arith, ints, some))

  pub plain_div : (n : ℕ) → 1 ≤ n → IsPlain db (Div (pos n))
  plain_div n some = (All-nil (λ v. v ≤ db.vars), All-nil (IsLive db.live), omega (arith, ints, some))

-- ---- no fewer inputs are true than outputs

weight-multiple : (n : ℕ) (ts : List Weighted) → weight (map (scaled n) ts) ≡ n * weight ts
weight-multiple n [] = omega arith
weight-multiple n (t ∷ ts) = omega (arith, weight-cons (scaled n t) (map (scaled n) ts), weight-multiple n ts, ap (λ (k : ℕ). n * k) (weight-cons t ts) ∙ mul-add n t.coef (weight ts))

module _ (p row last m : ℕ) (ts : List Weighted) (db : Database) (few : m ≤ 2 ^ 32) (reified : IsReified db p row last m ts) (apart : AreApartTerms ts) (positive : AllPositive ts) (low : All (λ t. t.lit.var < p) ts) where
  forward : (j : ℕ) → j < suc last → Knows db (row + 2 * j) (forward_of (meaning_at p ts j))
  forward = reified.forward

  abbrev Here : ℕ → Type 0
  Here n = n < suc last

  one_less : (n : ℕ) → Here (suc n) → Here n
  one_less n here = omega (arith, here)

  left_count : (n : ℕ) → Here n → Constraint
  left_count zero here = (forward 0 here).0
  left_count (suc n) here = division (suc (suc n)) (sum_of (multiple (suc n) (left_count n (one_less n here))) (forward (suc n) here).0)

  count-form : (n : ℕ) (here : Here n) → IsFormOf (counted_of p ts n) (left_count n here)
  unfolding left_count
  count-form zero here = (forward 0 here).2
  count-form (suc n) here = counted_form p n ts apart positive low (left_count n (one_less n here)) (forward (suc n) here).0 (count-form n (one_less n here)) (forward (suc n) here).2

  counted-weight : (n : ℕ) → weight (counted_of p ts n).terms ≡ suc n + m
  counted-weight n = omega (arith, weight-append (places_of false 1 p (suc n)) ts, places-weight false 1 p (suc n), reified.size)

  count_runs : (n : ℕ) (here : Here n) (ops : List PolOp) (stack : List Constraint) → after_ops db.live (count_ops row n ++ ops) stack ≡ after_ops db.live ops (left_count n here ∷ stack)
  unfolding left_count
  count_runs zero here ops stack =
      let c : Constraint = (forward 0 here).0 in
      let form = (forward 0 here).2 in
      let found : constraint_at db.live row ≡ Some c = subst (λ (k : ℕ). constraint_at db.live k ≡ Some c) (let e : row + 2 * 0 ≡ row = omega arith in e) (forward 0 here).1 in
      push_step db.live row ops stack c found (omega (arith, form_weight (counted_of p ts 0) c form, counted-weight 0, few)) (omega (arith, form.degree))
  count_runs (suc n) here ops stack =
      let k : ℕ = suc n in
      let more : List PolOp = Mul (pos k) ∷ Push (row + 2 * k) ∷ Add ∷ Div (pos (suc k)) ∷ [] in
      let c : Constraint = left_count n (one_less n here) in
      let hc = count-form n (one_less n here) in
      let d : Constraint = (forward k here).0 in
      let hd = (forward k here).2 in
      let cw = form_weight (counted_of p ts n) c hc in
      let dw = form_weight (forward_of (meaning_at p ts k)) d hd in
      let within = reified.within in
      let product : k * (k + m) ≤ 2 ^ 72 = times-small k (k + m) (omega (arith, here, within, few)) (omega (arith, here, within, few)) in
      let square : k * k ≤ 2 ^ 72 = times-small k k (omega (arith, here, within, few)) (omega (arith, here, within, few)) in
      let mw : weight (multiple k c).terms ≡ k * (k + m) = weight-multiple k c.terms ∙ ap (λ (x : ℕ). k * x) (let e : weight c.terms ≡ k + m = omega (arith, cw, counted-weight n) in e) in
      let md : (multiple k c).degree ≡ k * k = ap (λ (x : ℕ). k * x) hc.degree in
      let dweight : weight d.terms ≡ suc k + m = omega (arith, dw, weight-cons (missed (suc k) (p + k)) ts, reified.size) in
      let s : Constraint = sum_of (multiple k c) d in
      let joined = weight-joined (multiple k c).terms d.terms in
      let last_form = count-form (suc n) here in
      let lw = form_weight (counted_of p ts k) (left_count k here) last_form in
      ap (λ (os : List PolOp). after_ops db.live os stack) (append_assoc (count_ops row n) more ops)
      ∙ count_runs n (one_less n here) (more ++ ops) stack
      ∙ after_step db.live (Mul (pos k)) (Push (row + 2 * k) ∷ Add ∷ Div (pos (suc k)) ∷ ops) (c ∷ stack) (multiple k c) stack refl (omega (arith, mw, product)) (omega (arith, md, square))
      ∙ push_step db.live (row + 2 * k) (Add ∷ Div (pos (suc k)) ∷ ops) (multiple k c ∷ stack) d (forward k here).1 (omega (arith, dweight, here, within, few)) (omega (arith, hd.degree, here, within, few))
      ∙ after_step db.live Add (Div (pos (suc k)) ∷ ops) (d ∷ multiple k c ∷ stack) s stack refl (omega (arith, joined, mw, product, dweight, here, within, few)) (omega (arith, md, square, hd.degree, here, within, few))
      ∙ after_step db.live (Div (pos (suc k))) ops (s ∷ stack) (left_count k here) stack refl (omega (arith, lw, counted-weight k, here, within, few)) (omega (arith, last_form.degree, here, within, few))

  count_plain : (n : ℕ) → Here n → All (IsPlain db) (count_ops row n)
  count_plain zero here =
      All-cons (IsPlain db) (Push row) [] (plain_push db row (subst (IsLive db.live) (let e : row + 2 * 0 ≡ row = omega arith in e) (ap is_some (forward 0 here).1))) (All-nil (IsPlain db))
  count_plain (suc n) here =
      let k : ℕ = suc n in
      All-append (IsPlain db) (count_ops row n) (Mul (pos k) ∷ Push (row + 2 * k) ∷ Add ∷ Div (pos (suc k)) ∷ []) (count_plain n (one_less n here))
      (All-cons (IsPlain db) (Mul (pos k)) (Push (row + 2 * k) ∷ Add ∷ Div (pos (suc k)) ∷ []) (plain_mul db k (omega arith))
      (All-cons (IsPlain db) (Push (row + 2 * k)) (Add ∷ Div (pos (suc k)) ∷ []) (plain_push db (row + 2 * k) (ap is_some (forward k here).1))
      (All-cons (IsPlain db) Add (Div (pos (suc k)) ∷ []) (plain_add db) (All-cons (IsPlain db) (Div (pos (suc k))) [] (plain_div db (suc k) (omega arith)) (All-nil (IsPlain db))))))

  -- all outputs
  pub record CountRan : Type 0 where
    pub left : Constraint
    pub form : IsFormOf (counted_of p ts last) left
    pub runs : (ops : List PolOp) (stack : List Constraint) → after_ops db.live (count_ops row last ++ ops) stack ≡ after_ops db.live ops (left ∷ stack)
    pub plain : All (IsPlain db) (count_ops row last)

  pub count_ran : CountRan
  count_ran =
      let here : Here last = omega arith in
      record { left = left_count last here; form = count-form last here; runs = count_runs last here; plain = count_plain last here }

pub count-height : (row n : ℕ) (ops : List PolOp) → height_from 0 (count_ops row n ++ ops) ≡ height_from 1 ops
count-height row zero ops = refl
count-height row (suc n) ops =
    let more : List PolOp = Mul (pos (suc n)) ∷ Push (row + 2 * suc n) ∷ Add ∷ Div (pos (suc (suc n))) ∷ [] in
    ap (height_from 0) (append_assoc (count_ops row n) more ops) ∙ count-height row n (more ++ ops)

-- ---- outputs give way to leaves

-- of a node it is known that no fewer leaves are true than outputs
abbrev pub IsSummed : Database → ℕ → Tree → ℕ → ℕ → Type 0
IsSummed db bound empty first at = ⊥
IsSummed db bound (leaf t) first at = Unit {0}
IsSummed db bound (node l r) first at = Knows db at (counted_of (first + before bound l r) (leaf_terms (node l r)) (outputs_of bound (node l r) - 1))

pub record WayGiven (db : Database) (t : Tree) (at : ℕ) (after : Constraint) (c : Constraint) : Type 0 where
  pub left : Constraint
  pub form : IsFormOf after left
  pub runs : (ops : List PolOp) (stack : List Constraint) → after_ops db.live (give_way t at ++ ops) (c ∷ stack) ≡ after_ops db.live ops (left ∷ stack)
  pub plain : All (IsPlain db) (give_way t at)

-- in a list of terms
pub give : (db : Database) (bound : ℕ) (t : Tree) (first at k : ℕ) (T : List Weighted → List Weighted) (c : Constraint) → IsFull t → bound + 1 ≤ 2 ^ 31 → IsSummed db bound t first at
    → ((a : Assignment) (ts us : List Weighted) → value a (T ts) + value a us ≡ value a (T us) + value a ts) → AreApartTerms (T (leaf_terms t)) → AllPositive (T (leaf_terms t))
    → weight (T (leaf_terms t)) ≤ 2 ^ 40 → k ≤ 2 ^ 40 → weight (leaf_terms t) ≤ 2 ^ 40
    → IsFormOf (record { terms = T (ones (outputs bound t first)); degree = k }) c → WayGiven db t at (record { terms = T (leaf_terms t); degree = k }) c
give db bound empty first at k T c full few summed gap apart positive light low less form = absurd full
give db bound (leaf t) first at k T c full few summed gap apart positive light low less form = record { left = c; form = form; runs = λ ops stack. refl; plain = All-nil (IsPlain db) }
give db bound (node l r) first at k T c full few summed gap apart positive light low less form =
    let t : Tree = node l r in
    let p : ℕ = first + before bound l r in
    let last : ℕ = outputs_of bound t - 1 in
    let size : suc last ≡ outputs_of bound t = omega (arith, some_outputs bound t full) in
    let outs : List Weighted = ones (outputs bound t first) in
    let us : List Weighted = leaf_terms t in
    let g : Constraint = counted_of p us last in
    let way : GivesWay outs us g = counted_gives p last outs us (λ a. node-counted bound l r first a ∙ ap (count a p) (sym size)) (omega (arith, outputs-weight bound t first, size)) in
    let d : Constraint = summed.0 in
    let hd = summed.2 in
    let s : Constraint = sum_of c d in
    let done : IsFormOf (record { terms = T us; degree = k }) s =
    form_sum (record { terms = T outs; degree = k }) g (record { terms = T us; degree = k }) c d (weight outs) form hd apart positive
    (λ a. omega (arith, gap a outs us, way.law a)) (omega (arith, way.degree)) in
    let dw : weight d.terms ≡ suc last + weight us = omega (arith, form_weight g d hd, weight-append (places_of false 1 p (suc last)) us, places-weight false 1 p (suc last)) in
    let sw = form_weight (record { terms = T us; degree = k }) s done in
    record {
      left = s;
      form = done;
      runs = λ ops stack.
          push_step db.live at (Add ∷ ops) (c ∷ stack) d summed.1 (omega (arith, dw, less, size, values_length bound t, few)) (omega (arith, hd.degree, size, values_length bound t, few))
          ∙ after_step db.live Add ops (d ∷ c ∷ stack) s stack refl (omega (arith, sw, light)) (omega (arith, done.degree, low));
      plain = All-cons (IsPlain db) (Push at) (Add ∷ []) (plain_push db at (ap is_some summed.1)) (All-cons (IsPlain db) Add [] (plain_add db) (All-nil (IsPlain db)));
    }

pub give-height : (t : Tree) (at : ℕ) (ops : List PolOp) → height_from 1 (give_way t at ++ ops) ≡ height_from 1 ops
give-height empty at ops = refl
give-height (leaf t) at ops = refl
give-height (node l r) at ops = refl
