-- The lines about the blocks of a part run: each number of its outputs stands alone in its block then, and each block in the part.
use Rattle.std.proofs.Common.{◌≡◌, ◌≤◌, ◌<◌, ◌+◌, ◌-◌, ◌*◌, ◌/◌, ◌%◌, ◌==◌, ◌^◌, inl, inr, ℕ, zero, suc, Bool, true, cond, List, [], ◌∷◌, ap, sym, ◌∙◌, subst, arith}
use Rattle.std.proofs.lemmas.Bool.{cases_eq, eq-eqb, ne_eqb}
use Rattle.pb_base.specs.declared.literal.Lit.{Lit}
use Rattle.pb_norm.specs.Constraints.{Weighted, Constraint, weight}
use Rattle.pb_norm.proofs.AdditionSizes.{weight-cons}
use Rattle.pb_steps.specs.declared.op.PolOp.TheVariants.{Axiom, Weaken}
use Rattle.pb_steps.specs.declared.step.Step.TheVariants.{Pol}
use Rattle.pb_steps.specs.Database.{Database}
use Rattle.pb_derive.specs.Later.{IsLater, Knows}
use Rattle.pb_derive.specs.Ones.{ones}
use Rattle.pb_derive.proofs.Appends.{weight-append}
use Rattle.pb_derive.proofs.Laters.{later_knows}
use Rattle.pb_derive.proofs.Lines.{Added, added_then, LineRan, line_ran}
use Rattle.pb_derive.proofs.UnaryRows.{weighing, reached, missed, places_of, places-weight, front_of, front-size, count}
use Rattle.pb_tree.specs.Scheme.{fresh_of, output}
use Rattle.pb_tree.specs.Tree.{Tree, empty, leaf, node}
use Rattle.pb_totalizer.specs.Exact.{outputs_of}
use Rattle.pb_totalizer.specs.OutputBlocks.{block_start, block_end}
use Rattle.pb_totalizer.specs.OutputSteps.{outputs, inputs, input_count, before}
use Rattle.pb_totalizer.specs.OutputWindows.{last_of, blocks_of, wide_lines, wide_size, wide_others, wide_narrows, block_with}
use Rattle.pb_totalizer.specs.Totalizer.{totalizer}
use Rattle.pb_totalizer.specs.laws.BlockAdds.{all_but, outside_at}
use Rattle.pb_totalizer.specs.laws.BlockForms.{Narrows, block_of, block_front, places_behind, block_others, alone, first-narrows, others-narrows, none-narrows, outside_of, outside-narrows}
use Rattle.pb_totalizer.specs.laws.BlockRuns.{BlocksTold, blocks_told}
use Rattle.pb_totalizer.specs.laws.OutputAdds.{Below, nothing, axiom_adds, nothing_adds}
use Rattle.pb_totalizer.specs.laws.OutputForms.{leaf_others}
use Rattle.pb_totalizer.specs.laws.OutputParts.{some_outputs, node-counted}
use Rattle.pb_totalizer.specs.laws.OutputTold.{MayTellPart}
use Rattle.pb_totalizer.specs.laws.TotalizerLaws.{values_length}
use Rattle.pb_totalizer.specs.laws.WindowForms.{single}

-- the terms of a block of a part's outputs
abbrev pub block_terms : ℕ → Tree → ℕ → ℕ → List Weighted
block_terms bound empty first k = []
block_terms bound (leaf t) first k = weighing 1 t.lit ∷ []
block_terms bound (node l r) first k = block_of (first + before bound l r) (32 * k) (block_end (last_of bound (node l r)) (32 * k) - 32 * k)

-- a constraint that narrows terms to others stands under an id
pub record NarrowsKnown (db : Database) (id : ℕ) (ts us : List Weighted) : Type 0 where
  pub said : Constraint
  pub known : Knows db id said
  pub narrows : Narrows ts us said
  pub small : weight said.terms + said.degree ≤ 2 ^ 40

pub narrows_later : (P : ℕ → Type 0) (db end : Database) (id : ℕ) (ts us : List Weighted) → IsLater P db end → id < db.next → NarrowsKnown db id ts us → NarrowsKnown end id ts us
narrows_later P db end id ts us later below h = record { said = h.said; known = later_knows P db end id h.said later below h.known; narrows = h.narrows; small = h.small }

pub record WideTold (db : Database) (top bound : ℕ) (t : Tree) (first id next : ℕ) : Type 0 where
  pub added : Added (Below top) db (wide_lines bound t first id next) (wide_size bound t)
  pub known : (i : ℕ) → i ≤ outputs_of bound t → NarrowsKnown added.ran.end (wide_others bound t next + i) (block_terms bound t first (block_with i)) (single (output (totalizer bound) t first) i)
  pub narrow : (k : ℕ) → k < blocks_of bound t → NarrowsKnown added.ran.end (wide_narrows bound t next + k) (ones (outputs bound t first)) (block_terms bound t first k)

-- ---- a leaf

module _ (db : Database) (top bound : ℕ) (t : Weighted) (first id next : ℕ) (h : MayTellPart db top bound (leaf t) first id next) where
  abbrev L : ℕ → Type 0
  L = Below top

  own : LineRan L db (Pol (Axiom t.lit ∷ [])) next (leaf_others t.lit 0)
  own = line_ran L db (Pol (Axiom t.lit ∷ [])) next (leaf_others t.lit 0) h.numbered h.at (axiom_adds top t.lit db (omega (arith, h.known, h.vars)) h.known)

  abbrev mid : Database
  mid = own.added.ran.end

  at_mid : mid.next ≡ next + 1
  at_mid = omega (arith, own.added.ran.next, h.at)

  none : LineRan L mid (Pol (Axiom t.lit ∷ Weaken t.lit.var ∷ [])) (next + 1) nothing
  none = line_ran L mid (Pol (Axiom t.lit ∷ Weaken t.lit.var ∷ [])) (next + 1) nothing own.added.ran.later.numbered at_mid (nothing_adds top t.lit mid (omega (arith, h.known, h.vars, own.added.ran.later.vars)))

  abbrev last : Database
  last = none.added.ran.end

  leaf_alone : (i : ℕ) → i ≤ 1 → NarrowsKnown last (next + i) (weighing 1 t.lit ∷ []) (single (output (totalizer bound) (leaf t) first) i)
  leaf_alone zero le = record {
    said = leaf_others t.lit 0;
    known = later_knows L mid last (next + 0) (leaf_others t.lit 0) none.added.ran.later (omega (arith, at_mid)) (subst (λ (k : ℕ). Knows mid k (leaf_others t.lit 0)) (let e : next ≡ next + 0 = omega arith in e) own.known);
    narrows = λ a. omega arith;
    small = omega arith;
  }
  leaf_alone (suc zero) le = record { said = nothing; known = none.known; narrows = λ a. omega arith; small = omega arith }
  leaf_alone (suc (suc i)) le = absurd (omega (arith, le))

  leaf_wide : WideTold db top bound (leaf t) first id next
  leaf_wide = record {
    added = added_then L db (Pol (Axiom t.lit ∷ []) ∷ []) (Pol (Axiom t.lit ∷ Weaken t.lit.var ∷ []) ∷ []) 1 1 own.added none.added;
    known = leaf_alone;
    narrow = λ k within. record {
      said = nothing;
      known = subst (λ (n : ℕ). Knows last n nothing) (let e : next + 1 ≡ next + 1 + k = omega (arith, within) in e) none.known;
      narrows = λ a. omega arith;
      small = omega arith;
    };
  }

-- ---- a node

module _ (db : Database) (top bound : ℕ) (l r : Tree) (first id next : ℕ) (h : MayTellPart db top bound (node l r) first id next) where
  abbrev t : Tree
  t = node l r

  abbrev p : ℕ
  p = first + before bound l r

  abbrev z : ℕ
  z = last_of bound (node l r)

  size : suc z ≡ outputs_of bound t
  size = omega (arith, some_outputs bound t h.full)

  few : suc z ≤ 2 ^ 31
  few = omega (arith, size, values_length bound t, h.few)

  told : BlocksTold db top p (id + 2 * before bound l r) z (input_count bound l r) next
  told = blocks_told db top p (id + 2 * before bound l r) z (input_count bound l r) next (inputs bound l r first)
      (record { few = omega (arith, values_length bound l, values_length bound r, h.few); under = omega (arith, size, h.under); vars = h.vars; numbered = h.numbered; at = h.at; reified = h.known; before = omega (arith, size, h.before) })

  abbrev end : Database
  end = told.added.ran.end

  abbrev f : ℕ → Lit
  f = output (totalizer bound) t first

  same_literal : (x : ℕ) → alone p x ≡ single f (suc x)
  same_literal x = ap (λ (v : ℕ). reached (suc x) v ∷ []) (let e : p + x ≡ first + fresh_of (totalizer bound) l + fresh_of (totalizer bound) r + (suc x - 1) = omega arith in e)

  block_small : (u n k : ℕ) → u + n + k ≤ suc z → weight (block_others p u n k).terms + (block_others p u n k).degree ≤ 2 ^ 40
  block_small u n k le =
      omega (
        arith,
        weight-append (block_front p u n).terms (places_of true 1 (p + suc (suc (u + n))) k),
        weight-cons (missed (suc (u + n)) (p + suc (u + n))) (block_of p u n),
        weight-cons (reached (suc u) (p + u)) (places_of true 1 (p + suc u) n),
        places-weight true 1 (p + suc u) n,
        places-weight true 1 (p + suc (suc (u + n))) k,
        le,
        few,
      )

  behind_small : (q n : ℕ) → n ≤ suc z → weight (places_behind q n).terms + (places_behind q n).degree ≤ 2 ^ 40
  behind_small q n le = omega (arith, places-weight true 1 q n, le, few)

  abbrev terms_at : ℕ → ℕ → List Weighted
  terms_at u e = block_of p u (e - u)

  abbrev Alone : ℕ → ℕ → ℕ → Type 0
  Alone x u e = NarrowsKnown end (wide_others bound t next + suc x) (terms_at u e) (single f (suc x))

  first_alone : (x e : ℕ) → x ≤ e → e ≤ z → Knows end (wide_others bound t next + suc x) (places_behind (p + suc x) (e - x)) → Alone x x e
  first_alone x e from to known = record {
    said = places_behind (p + suc x) (e - x);
    known = known;
    narrows = subst (λ (us : List Weighted). Narrows (terms_at x e) us (places_behind (p + suc x) (e - x))) (same_literal x) (first-narrows p x (e - x));
    small = behind_small (p + suc x) (e - x) (omega (arith, to));
  }

  later_alone : (x u n e : ℕ) → suc (u + n) ≡ x → x ≤ e → e ≤ z → Knows end (wide_others bound t next + suc x) (block_others p u n (e - x)) → Alone x u e
  later_alone x u n e at from to known =
      let k : ℕ = e - x in
      let whole : n + suc k ≡ e - u = omega (arith, at, from) in
      let one : alone p (suc (u + n)) ≡ single f (suc x) = ap (alone p) at ∙ same_literal x in
      record {
        said = block_others p u n k;
        known = known;
        narrows = subst (λ (us : List Weighted). Narrows (terms_at u e) us (block_others p u n k)) one (subst (λ (j : ℕ). Narrows (block_of p u j) (alone p (suc (u + n))) (block_others p u n k)) whole (others-narrows p u n k));
        small = block_small u n k (omega (arith, at, from, to));
      }

  place_alone : (x : ℕ) → x ≤ z → Alone x (block_start x) (block_end z x)
  place_alone x within =
      let e : ℕ = block_end z x in
      let u : ℕ = block_start x in
      let by_sum : Bool → Constraint = λ b. cond {A = Constraint} b (places_behind (p + suc x) (e - x)) (block_others p u (x - 1 - u) (e - x)) in
      let known : Knows end (wide_others bound t next + suc x) (by_sum (x % 32 == 0)) = told.known (suc x) (omega (arith, within)) in
      elim (cases_eq (x % 32) 0) as (λ _. Alone x u e) [
        | inl start ↦
            let same : x ≡ u = omega (arith, start) in
            subst (λ (v : ℕ). Alone x v e) same (first_alone x e (omega (arith, within)) (omega arith) (subst (Knows end (wide_others bound t next + suc x)) (ap by_sum (eq-eqb (x % 32) 0 start)) known))
        | inr some ↦ later_alone x u (x - 1 - u) e (omega (arith, some)) (omega (arith, within)) (omega arith) (subst (Knows end (wide_others bound t next + suc x)) (ap by_sum (ne_eqb (x % 32) 0 some)) known)
      ]

  alone_known : (i : ℕ) → i ≤ outputs_of bound t → NarrowsKnown end (wide_others bound t next + i) (block_terms bound t first (block_with i)) (single f i)
  alone_known zero le =
      let e : ℕ = block_end z 0 in
      record { said = all_but p z 0; known = told.known 0 (omega arith); narrows = subst (λ (n : ℕ). Narrows (block_of p 0 n) [] (places_behind p (suc e))) (let whole : e ≡ e - 0 = omega arith in whole) (none-narrows p e); small = behind_small p (suc e) (omega arith) }
  alone_known (suc x) le =
      let k : ℕ = (suc x - 1) / 32 in
      let start : block_start x ≡ 32 * k = omega arith in
      let stop : block_end z x ≡ block_end z (32 * k) = omega arith in
      subst (λ (e : ℕ). NarrowsKnown end (wide_others bound t next + suc x) (terms_at (32 * k) e) (single f (suc x))) stop
      (subst (λ (u : ℕ). NarrowsKnown end (wide_others bound t next + suc x) (terms_at u (block_end z x)) (single f (suc x))) start (place_alone x (omega (arith, le, size))))

  outside_small : (u n k : ℕ) → u + n + k ≤ z → weight (outside_of p u n k).terms + (outside_of p u n k).degree ≤ 2 ^ 40
  outside_small u n k le = omega (arith, weight-append (front_of p u).terms (places_of true 1 (p + suc (u + n)) k), front-size p u, places-weight true 1 (p + suc (u + n)) k, le, few)

  narrow_known : (k : ℕ) → k < blocks_of bound t → NarrowsKnown end (wide_narrows bound t next + k) (ones (outputs bound t first)) (block_terms bound t first k)
  narrow_known k within =
      let u : ℕ = 32 * k in
      let e : ℕ = block_end z u in
      let low : u ≤ z = omega (arith, within) in
      let whole : suc z ≡ u + suc (e - u + (z - e)) = omega (arith, low) in
      record {
        said = outside_at p z k;
        known = told.narrow k within;
        narrows = outside-narrows p u (e - u) (z - e) (ones (outputs bound t first)) (λ a. node-counted bound l r first a ∙ ap (count a p) (sym size ∙ whole));
        small = outside_small u (e - u) (z - e) (omega (arith, low));
      }

  node_wide : WideTold db top bound (node l r) first id next
  node_wide = record { added = told.added; known = alone_known; narrow = narrow_known }

pub wide_told : (db : Database) (top bound : ℕ) (t : Tree) (first id next : ℕ) → MayTellPart db top bound t first id next → WideTold db top bound t first id next
wide_told db top bound empty first id next h = absurd h.full
wide_told db top bound (leaf t) first id next h = leaf_wide db top bound t first id next h
wide_told db top bound (node l r) first id next h = node_wide db top bound l r first id next h
