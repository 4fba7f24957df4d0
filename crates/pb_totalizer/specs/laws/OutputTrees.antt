-- The lines by which no fewer leaves of a tree are true than outputs run, and the clause of the root follows.
use Rattle.std.proofs.Common.{◌≡◌, ◌≤◌, ◌<◌, ◌+◌, ◌-◌, ◌*◌, ◌^◌, ◌++◌, ℕ, suc, false, List, [], ◌∷◌, refl, ap, sym, ◌∙◌, subst, arith, append-nil, pos}
use Rattle.std.specs.Prelude.{All, map, Some, is_some}
use Rattle.std.proofs.lemmas.List.Elements.{All-nil, All-cons, All-append, All-weaker}
use Rattle.std.proofs.lemmas.List.Kept.{AllPairs-cons}
use Rattle.pb_base.specs.declared.literal.Lit.{Lit}
use Rattle.pb_base.specs.Literals.{negated}
use Rattle.pb_base.proofs.Pairs.{AllPairs-nil}
use Rattle.pb_norm.specs.Addition.{sum_of}
use Rattle.pb_norm.specs.Constraints.{Weighted, Constraint, AllPositive, weight}
use Rattle.pb_norm.specs.Reduction.{opposite}
use Rattle.pb_norm.proofs.AdditionSizes.{weight-cons, weight-joined}
use Rattle.pb_steps.specs.declared.op.PolOp.{PolOp}
use Rattle.pb_steps.specs.declared.op.PolOp.TheVariants.{Push, Add, Div}
use Rattle.pb_steps.specs.declared.step.Step.{Step}
use Rattle.pb_steps.specs.declared.step.Step.TheVariants.{Pol}
use Rattle.pb_steps.specs.Database.{Database}
use Rattle.pb_steps.specs.Operations.{division}
use Rattle.pb_steps.specs.Stacks.{height_from, after_ops}
use Rattle.pb_derive.specs.Forms.{AreApartTerms, IsFormOf}
use Rattle.pb_derive.specs.Later.{IsLater, Knows}
use Rattle.pb_derive.specs.Ones.{unit_of, ones}
use Rattle.pb_derive.specs.Reifications.{forward_of}
use Rattle.pb_derive.specs.inner.Ran.{StepGives}
use Rattle.pb_derive.proofs.Appends.{value-append, weight-append}
use Rattle.pb_derive.proofs.ClauseClaims.{claim_of}
use Rattle.pb_derive.proofs.FormOperations.{form_weight}
use Rattle.pb_derive.proofs.Laters.{later_then, later_knows}
use Rattle.pb_derive.proofs.Lines.{Adds, Added, added_none, added_then, added_as, line_ran}
use Rattle.pb_derive.proofs.Opposites.{weight-opposite}
use Rattle.pb_derive.proofs.Stacked.{after_step, push_step}
use Rattle.pb_derive.proofs.UnaryRows.{Other, missed, places_of, places_within, places_positive, places-weight}
use Rattle.pb_family.specs.Fresh.{positive_of}
use Rattle.pb_tree.specs.Scheme.{fresh_of}
use Rattle.pb_tree.specs.Tree.{Tree, empty, leaf, node}
use Rattle.pb_totalizer.specs.Exact.{outputs_of}
use Rattle.pb_totalizer.specs.OutputSteps.{outputs, inputs, input_count, before}
use Rattle.pb_totalizer.specs.TotalizerSteps.{count_ops, give_way, nodes_in, sum_at, sum_lines}
use Rattle.pb_totalizer.specs.Totalizer.{totalizer}
use Rattle.pb_totalizer.specs.laws.CountForms.{counted_of, row-low-apart, root_form}
use Rattle.pb_totalizer.specs.laws.OutputAdds.{Below, Named, IsReified}
use Rattle.pb_totalizer.specs.laws.OutputClaims.{claim_gives}
use Rattle.pb_totalizer.specs.laws.OutputForms.{Some as Positive, meaning_at}
use Rattle.pb_totalizer.specs.laws.OutputKnown.{node_reified}
use Rattle.pb_totalizer.specs.laws.OutputLeaves.{leaf_terms, leaf_terms-node, leaf_terms-low, mixed-apart, both-leaves-apart}
use Rattle.pb_totalizer.specs.laws.OutputNodes.{MayDerive, derive_later, left_may, right_may}
use Rattle.pb_totalizer.specs.laws.OutputParts.{some_outputs, outputs-weight, inputs-apart, inputs-positive, inputs-low, left_below, right_below, rights-low, ones-some}
use Rattle.pb_totalizer.specs.laws.OutputSums.{IsPlain, plain_adds, plain_push, plain_add, plain_div, CountRan, count_ran, count-height, IsSummed, WayGiven, give, give-height}
use Rattle.pb_totalizer.specs.laws.TotalizerLaws.{values_length}

-- it stays known
pub summed_later : (P : ℕ → Type 0) (db end : Database) (bound : ℕ) (t : Tree) (first at : ℕ) → IsLater P db end → at < db.next → IsSummed db bound t first at → IsSummed end bound t first at
summed_later P db end bound empty first at later below h = h
summed_later P db end bound (leaf t) first at later below h = tt
summed_later P db end bound (node l r) first at later below h = later_knows P db end at (counted_of (first + before bound l r) (leaf_terms (node l r)) (outputs_of bound (node l r) - 1)) later below h

-- a leaf has no line, and the one of a node stands below what follows
pub below_next : (t : Tree) (next end : ℕ) → 1 ≤ next → next + nodes_in t ≤ end → sum_at t next < end
below_next t next end some le = omega (arith, some, le)

-- outputs of both parts give way, behind other terms
module _ (db : Database) (top bound : ℕ) (l r : Tree) (low first id : ℕ) (h : MayDerive db top bound (node l r) low first id) (few_leaves : weight (leaf_terms (node l r)) ≤ 2 ^ 32) where
  abbrev middle : ℕ
  middle = first + fresh_of (totalizer bound) l

  abbrev lts : List Weighted
  lts = ones (outputs bound l first)

  abbrev rts : List Weighted
  rts = ones (outputs bound r middle)

  abbrev lus : List Weighted
  lus = leaf_terms l

  abbrev rus : List Weighted
  rus = leaf_terms r

  abbrev p : ℕ
  p = first + before bound l r

  split_weight : weight lus + weight rus ≡ weight (leaf_terms (node l r))
  split_weight = omega (arith, weight-append lus rus, ap weight (leaf_terms-node l r))

  lus-low : All (λ t. t.lit.var < p) lus
  lus-low = All-weaker (λ (t : Weighted). t.lit.var < low) (λ (t : Weighted). t.lit.var < p) (λ t k. omega (arith, k, h.below)) lus (leaf_terms-low l low (left_below bound l r low first h.below h.over))

  rus-low : All (λ t. t.lit.var < p) rus
  rus-low = All-weaker (λ (t : Weighted). t.lit.var < low) (λ (t : Weighted). t.lit.var < p) (λ t k. omega (arith, k, h.below)) rus (leaf_terms-low r low (right_below bound l r low first h.below h.over))

  mixed-low : All (λ t. t.lit.var < p) (lus ++ rts)
  mixed-low = All-append (λ (t : Weighted). t.lit.var < p) lus rts lus-low (rights-low bound l r low first h.below h.over)

  pub leaves-below : All (λ t. t.lit.var < first + before bound l r) (leaf_terms l ++ leaf_terms r)
  leaves-below = All-append (λ (t : Weighted). t.lit.var < p) lus rus lus-low rus-low

  rights_few : weight rts ≤ 2 ^ 32
  rights_few = omega (arith, outputs-weight bound r middle, values_length bound r, h.few)

  -- fronts of terms over the row that weigh little
  pub record IsFront (front : List Weighted) : Type 0 where
    pub apart : (ts : List Weighted) → AreApartTerms ts → All (λ t. t.lit.var < first + before bound l r) ts → AreApartTerms (front ++ ts)
    pub positive : AllPositive front
    pub light : weight front ≤ 2 ^ 33

  module _ (front : List Weighted) (is : IsFront front) (k : ℕ) (low_degree : k ≤ 2 ^ 33) (la ra : ℕ) (left : IsSummed db bound l first la) (right : IsSummed db bound r (first + fresh_of (totalizer bound) l) ra)
      (c : Constraint) (form : IsFormOf (record { terms = front ++ (ones (outputs bound l first) ++ ones (outputs bound r (first + fresh_of (totalizer bound) l))); degree = k }) c) where
    abbrev T : List Weighted → List Weighted
    T ts = front ++ (ts ++ rts)

    abbrev U : List Weighted → List Weighted
    U ts = front ++ (lus ++ ts)

    one : WayGiven db l la (record { terms = front ++ (leaf_terms l ++ ones (outputs bound r (first + fresh_of (totalizer bound) l))); degree = k }) c
    one =
        give db bound l first la k T c h.full.0 h.few left
        (λ a ts us. omega (arith, value-append a front (ts ++ rts), value-append a front (us ++ rts), value-append a ts rts, value-append a us rts))
        (is.apart (lus ++ rts) (mixed-apart bound l r low first h.below h.over) mixed-low)
        (All-append Positive front (lus ++ rts) is.positive (All-append Positive lus rts (ones-some _) (ones-some (outputs bound r middle))))
        (omega (arith, weight-append front (lus ++ rts), weight-append lus rts, is.light, split_weight, few_leaves, rights_few)) (omega (arith, low_degree)) (omega (arith, split_weight, few_leaves)) form

    other : WayGiven db r ra (record { terms = front ++ (leaf_terms l ++ leaf_terms r); degree = k }) one.left
    other =
        give db bound r middle ra k U one.left h.full.1 h.few right
        (λ a ts us. omega (arith, value-append a front (lus ++ ts), value-append a front (lus ++ us), value-append a lus ts, value-append a lus us))
        (is.apart (lus ++ rus) (both-leaves-apart bound l r low first h.below h.over) leaves-below)
        (All-append Positive front (lus ++ rus) is.positive (All-append Positive lus rus (ones-some _) (ones-some _)))
        (omega (arith, weight-append front (lus ++ rus), weight-append lus rus, is.light, split_weight, few_leaves)) (omega (arith, low_degree)) (omega (arith, split_weight, few_leaves)) one.form

    abbrev wl : List PolOp
    wl = give_way l la

    abbrev wr : List PolOp
    wr = give_way r ra

    pub record BothGiven : Type 0 where
      pub rest : Constraint
      pub shape : IsFormOf (record { terms = front ++ (leaf_terms l ++ leaf_terms r); degree = k }) rest
      pub runs : (ops : List PolOp) → after_ops db.live (give_way l la ++ (give_way r ra ++ ops)) (c ∷ []) ≡ after_ops db.live ops (rest ∷ [])
      pub plain : (ops : List PolOp) → All (IsPlain db) ops → All (IsPlain db) (give_way l la ++ (give_way r ra ++ ops))
      pub height : (ops : List PolOp) → height_from 1 (give_way l la ++ (give_way r ra ++ ops)) ≡ height_from 1 ops
      pub apart : AreApartTerms (front ++ (leaf_terms l ++ leaf_terms r))
      pub positive : AllPositive (front ++ (leaf_terms l ++ leaf_terms r))

    pub both_given : BothGiven
    both_given = record {
      rest = other.left;
      shape = other.form;
      runs = λ ops. one.runs (wr ++ ops) [] ∙ other.runs ops [];
      plain = λ ops all. All-append (IsPlain db) wl (wr ++ ops) one.plain (All-append (IsPlain db) wr ops other.plain all);
      height = λ ops. give-height l la (wr ++ ops) ∙ give-height r ra ops;
      apart = is.apart (lus ++ rus) (both-leaves-apart bound l r low first h.below h.over) leaves-below;
      positive = All-append Positive front (lus ++ rus) is.positive (All-append Positive lus rus (ones-some _) (ones-some _));
    }

  -- ---- the line of a node

  abbrev last : ℕ
  last = outputs_of bound (node l r) - 1

  abbrev row : ℕ
  row = id + 2 * before bound l r

  size : suc last ≡ outputs_of bound (node l r)
  size = omega (arith, some_outputs bound (node l r) h.full)

  reified : IsReified db p row last (input_count bound l r) (inputs bound l r first)
  reified = node_reified db bound l r first id h.full h.known

  abbrev row_places : List Weighted
  row_places = places_of false 1 p (suc last)

  row-front : IsFront row_places
  row-front = record {
    apart = λ ts apart under. row-low-apart false 1 p (suc last) ts apart under;
    positive = places_positive false 1 p (suc last) (omega arith);
    light = omega (arith, places-weight false 1 p (suc last), size, values_length bound (node l r), h.few);
  }

  counted : CountRan p row last (input_count bound l r) (inputs bound l r first) db (omega (arith, values_length bound l, values_length bound r, h.few)) reified (inputs-apart bound l r low first h.below h.over) (inputs-positive bound l r first) (inputs-low bound l r low first h.below h.over)
  counted = count_ran p row last (input_count bound l r) (inputs bound l r first) db (omega (arith, values_length bound l, values_length bound r, h.few)) reified (inputs-apart bound l r low first h.below h.over) (inputs-positive bound l r first) (inputs-low bound l r low first h.below h.over)

  pub node_adds : (la ra : ℕ) → IsSummed db bound l first la → IsSummed db bound r (first + fresh_of (totalizer bound) l) ra
      → Adds (Below top) db (Pol (count_ops (id + 2 * before bound l r) (outputs_of bound (node l r) - 1) ++ (give_way l la ++ give_way r ra))) (counted_of (first + before bound l r) (leaf_terms (node l r)) (outputs_of bound (node l r) - 1))
  node_adds la ra left right =
      let given = both_given row_places row-front (suc last) (omega (arith, size, values_length bound (node l r), h.few)) la ra left right counted.left counted.form in
      let ways : List PolOp = give_way l la ++ (give_way r ra ++ []) in
      let ops : List PolOp = count_ops row last ++ ways in
      let all : List Weighted = lus ++ rus in
      let top_row : All (Named top) (row_places ++ all) =
      All-append (Named top) row_places all (All-weaker (λ (t : Weighted). (p ≤ t.lit.var) × (t.lit.var < p + suc last)) (Named top) (λ t k. omega (arith, k.1, size, h.under)) row_places (places_within false 1 p (suc last) (suc last) (omega arith)))
      (All-weaker (λ (t : Weighted). t.lit.var < p) (Named top) (λ t k. omega (arith, k, h.under)) all leaves-below) in
      let adds : Adds (Below top) db (Pol ops) (record { terms = row_places ++ all; degree = suc last }) =
      plain_adds (Below top) db ops given.rest (record { terms = row_places ++ all; degree = suc last })
      (All-append (IsPlain db) (count_ops row last) ways counted.plain (given.plain [] (All-nil (IsPlain db)))) (count-height row last ways ∙ given.height [])
      (counted.runs ways [] ∙ given.runs []) given.shape (record { apart = given.apart; positive = given.positive; named = top_row }) in
      let same : ops ≡ count_ops row last ++ (give_way l la ++ give_way r ra) = ap (λ (os : List PolOp). count_ops row last ++ (give_way l la ++ os)) (append-nil (give_way r ra)) in
      subst (λ (os : List PolOp). Adds (Below top) db (Pol os) (counted_of p (leaf_terms (node l r)) last)) same
      (subst (λ (ts : List Weighted). Adds (Below top) db (Pol ops) (record { terms = row_places ++ ts; degree = suc last })) (sym (leaf_terms-node l r)) adds)

  -- ---- the line of the root's clause

  module _ (wide : outputs_of bound (node l r) ≡ bound + 1) (proper : bound ≤ weight (leaf_terms (node l r))) where
    abbrev v : ℕ
    v = p + bound

    abbrev head : Weighted
    head = missed (suc bound) v

    head-front : IsFront (head ∷ [])
    head-front = record {
      apart = λ ts apart under. AllPairs-cons Other head ts (All-weaker (λ (t : Weighted). t.lit.var < p) (Other head) (λ t k e. omega (arith, k, e)) ts under) apart;
      positive = All-cons Positive head [] (omega arith) (All-nil Positive);
      light = omega (arith, weight-cons head [], h.few);
    }

    abbrev us : List Weighted
    us = leaf_terms (node l r)

    pub root_gives : (own la ra : ℕ) → IsSummed db bound l first la → IsSummed db bound r (first + fresh_of (totalizer bound) l) ra → Knows db own (record { terms = map opposite (leaf_terms (node l r)); degree = weight (leaf_terms (node l r)) - bound })
        → StepGives db (Pol (Push (id + 2 * before bound l r + 2 * bound) ∷ give_way l la ++ (give_way r ra ++ Push own ∷ Add ∷ Div (pos (bound + 1)) ∷ []))) (negated (positive_of (first + before bound l r + bound)) ∷ [])
    root_gives own la ra left right held =
        let forward = reified.forward bound (omega (arith, size, wide)) in
        let c : Constraint = forward.0 in
        let given = both_given (head ∷ []) head-front (suc bound) (omega (arith, h.few)) la ra left right c forward.2 in
        let d : Constraint = held.0 in
        let hd = held.2 in
        let s : Constraint = sum_of given.rest d in
        let whole : IsFormOf (record { terms = head ∷ us; degree = suc bound }) given.rest = subst (λ (ts : List Weighted). IsFormOf (record { terms = head ∷ ts; degree = suc bound }) given.rest) (sym (leaf_terms-node l r)) given.shape in
        let clause : List Lit = negated (positive_of v) ∷ [] in
        let form : IsFormOf (claim_of clause) (division (suc bound) s) = root_form v bound us proper given.rest d whole hd in
        let one : bound + 1 ≡ suc bound = omega arith in
        let tail : List PolOp = Push own ∷ Add ∷ Div (pos (suc bound)) ∷ [] in
        let ops : List PolOp = Push (row + 2 * bound) ∷ give_way l la ++ (give_way r ra ++ tail) in
        let gw = form_weight (record { terms = head ∷ us; degree = suc bound }) given.rest whole in
        let dw : weight d.terms ≡ weight us = form_weight (record { terms = map opposite us; degree = weight us - bound }) d hd ∙ weight-opposite us in
        let joined = weight-joined given.rest.terms d.terms in
        let fw = form_weight (forward_of (meaning_at p (inputs bound l r first) bound)) c forward.2 in
        let heavy : weight (head ∷ us) ≡ suc bound + weight us = weight-cons head us in
        let last_weight = form_weight (claim_of clause) (division (suc bound) s) form in
        let apart : AreApartTerms (ones clause) = AllPairs-cons Other (unit_of (negated (positive_of v))) [] (All-nil (Other (unit_of (negated (positive_of v))))) (AllPairs-nil Other) in
        let runs : after_ops db.live ops [] ≡ Some (division (suc bound) s ∷ []) =
        push_step db.live (row + 2 * bound) (give_way l la ++ (give_way r ra ++ tail)) [] c forward.1 (omega (arith, fw, weight-cons head (inputs bound l r first), reified.size, values_length bound l, values_length bound r, h.few)) (omega (arith, forward.2.degree, h.few))
        ∙ given.runs tail
        ∙ push_step db.live own (Add ∷ Div (pos (suc bound)) ∷ []) (given.rest ∷ []) d held.1 (omega (arith, dw, few_leaves)) (omega (arith, hd.degree, few_leaves))
        ∙ after_step db.live Add (Div (pos (suc bound)) ∷ []) (d ∷ given.rest ∷ []) s [] refl (omega (arith, joined, gw, heavy, dw, few_leaves, h.few)) (omega (arith, whole.degree, hd.degree, few_leaves, h.few))
        ∙ after_step db.live (Div (pos (suc bound))) [] (s ∷ []) (division (suc bound) s) [] refl (omega (arith, last_weight)) (omega (arith, form.degree)) in
        let plain : All (IsPlain db) ops =
        All-cons (IsPlain db) (Push (row + 2 * bound)) (give_way l la ++ (give_way r ra ++ tail)) (plain_push db (row + 2 * bound) (ap is_some forward.1))
        (given.plain tail (All-cons (IsPlain db) (Push own) (Add ∷ Div (pos (suc bound)) ∷ []) (plain_push db own (ap is_some held.1)) (All-cons (IsPlain db) Add (Div (pos (suc bound)) ∷ []) (plain_add db) (All-cons (IsPlain db) (Div (pos (suc bound))) [] (plain_div db (suc bound) (omega arith)) (All-nil (IsPlain db)))))) in
        subst (λ (n : ℕ). StepGives db (Pol (Push (row + 2 * bound) ∷ give_way l la ++ (give_way r ra ++ Push own ∷ Add ∷ Div (pos n) ∷ []))) clause) (sym one)
        (claim_gives (Below top) db (Pol ops) clause apart
        (plain_adds (Below top) db ops (division (suc bound) s) (claim_of clause) plain (given.height tail) runs form
        (record { apart = apart; positive = ones-some clause; named = All-cons (Named top) (unit_of (negated (positive_of v))) [] (omega (arith, h.under, size, wide)) (All-nil (Named top)) })))

-- ---- along the tree

pub record SumsRan (db : Database) (top bound : ℕ) (t : Tree) (first id next : ℕ) : Type 0 where
  pub added : Added (Below top) db (sum_lines bound t id next) (nodes_in t)
  pub summed : IsSummed added.ran.end bound t first (sum_at t next)

pub leaf_weight-left : (l r : Tree) → weight (leaf_terms l) + weight (leaf_terms r) ≡ weight (leaf_terms (node l r))
leaf_weight-left l r = omega (arith, weight-append (leaf_terms l) (leaf_terms r), ap weight (leaf_terms-node l r))

pub sums_ran : (db : Database) (top bound : ℕ) (t : Tree) (low first id next : ℕ) → MayDerive db top bound t low first id → weight (leaf_terms t) ≤ 2 ^ 32 → 1 ≤ next → db.next ≡ next → SumsRan db top bound t first id next
sums_ran db top bound empty low first id next h few some at = absurd h.full
sums_ran db top bound (leaf t) low first id next h few some at = record { added = added_none (Below top) db h.numbered; summed = tt }
sums_ran db top bound (node l r) low first id next h few some at =
    let P : ℕ → Type 0 = Below top in
    let middle : ℕ = first + fresh_of (totalizer bound) l in
    let right_id : ℕ = id + 2 * fresh_of (totalizer bound) l in
    let split = leaf_weight-left l r in
    let one = sums_ran db top bound l low first id next (left_may db top bound l r low first id h) (omega (arith, split, few)) some at in
    let mid1 : Database = one.added.ran.end in
    let later = one.added.ran.later in
    let next1 : ℕ = next + nodes_in l in
    let at1 : mid1.next ≡ next1 = omega (arith, one.added.ran.next, at) in
    let two = sums_ran mid1 top bound r low middle right_id next1 (derive_later db mid1 top bound r low middle right_id later (right_may db top bound l r low first id h)) (omega (arith, split, few)) (omega (arith, some)) at1 in
    let mid2 : Database = two.added.ran.end in
    let next2 : ℕ = next1 + nodes_in r in
    let at2 : mid2.next ≡ next2 = omega (arith, two.added.ran.next, at1) in
    let la : ℕ = sum_at l next in
    let ra : ℕ = sum_at r next1 in
    let still = derive_later db mid2 top bound (node l r) low first id (later_then P db mid1 mid2 later two.added.ran.later) h in
    let left = summed_later P mid1 mid2 bound l first la two.added.ran.later (below_next l next mid1.next some (omega (arith, at1))) one.summed in
    let step : Step = Pol (count_ops (id + 2 * before bound l r) (outputs_of bound (node l r) - 1) ++ (give_way l la ++ give_way r ra)) in
    let sum : Constraint = counted_of (first + before bound l r) (leaf_terms (node l r)) (outputs_of bound (node l r) - 1) in
    let three = line_ran P mid2 step next2 sum still.numbered at2 (node_adds mid2 top bound l r low first id still few la ra left two.summed) in
    record {
      added = added_as P db (sum_lines bound l id next ++ (sum_lines bound r right_id next1 ++ step ∷ [])) (nodes_in l + (nodes_in r + 1)) (nodes_in (node l r)) (omega arith)
          (added_then P db (sum_lines bound l id next) (sum_lines bound r right_id next1 ++ step ∷ []) (nodes_in l) (nodes_in r + 1) one.added
          (added_then P mid1 (sum_lines bound r right_id next1) (step ∷ []) (nodes_in r) 1 two.added three.added));
      summed = subst (λ (k : ℕ). Knows three.added.ran.end k sum) (let e : next2 ≡ sum_at (node l r) next = omega arith in e) three.known;
    }
