-- The lines about a part of a tree run: for each number of its outputs it is known then what the others say.
use Rattle.std.proofs.Common.{◌≡◌, ◌≤◌, ◌<◌, ◌+◌, ◌-◌, ◌*◌, ◌^◌, ℕ, zero, suc, true, [], ◌∷◌, ap, sym, ◌∙◌, subst, arith}
use Rattle.pb_base.specs.declared.literal.Lit.{Lit}
use Rattle.pb_base.specs.Literals.{Assignment}
use Rattle.pb_norm.specs.Constraints.{Weighted, Constraint, weight, value}
use Rattle.pb_steps.specs.declared.op.PolOp.TheVariants.{Axiom, Weaken}
use Rattle.pb_steps.specs.declared.step.Step.TheVariants.{Pol}
use Rattle.pb_steps.specs.Database.{Database}
use Rattle.pb_derive.specs.Later.{IsNumbered, IsLater, Knows}
use Rattle.pb_derive.specs.Ones.{ones}
use Rattle.pb_derive.proofs.Laters.{later_knows}
use Rattle.pb_derive.proofs.Lines.{Added, added_then, LineRan, line_ran}
use Rattle.pb_derive.proofs.UnaryRows.{places-weight, count}
use Rattle.pb_family.specs.Fresh.{positive_of}
use Rattle.pb_tree.specs.Tree.{Tree, empty, leaf, node}
use Rattle.pb_tree.specs.Scheme.{fresh_of, output}
use Rattle.pb_totalizer.specs.Exact.{outputs_of}
use Rattle.pb_totalizer.specs.OutputSteps.{outputs, inputs, input_count, before, part_lines, part_size, part_others}
use Rattle.pb_totalizer.specs.Totalizer.{totalizer}
use Rattle.pb_totalizer.specs.laws.OutputAdds.{Below, IsReified, axiom_adds, nothing_adds, others-size}
use Rattle.pb_totalizer.specs.laws.OutputForms.{others_of, IsOthers, row_others, leaf_others, leaf-is-others}
use Rattle.pb_totalizer.specs.laws.OutputParts.{IsFull, some_outputs, node-counted}
use Rattle.pb_totalizer.specs.laws.OutputRuns.{RowTold, row_told}
use Rattle.pb_totalizer.specs.laws.TotalizerLaws.{values_length}

-- what is known of a part before: of a node, what its outputs mean; of a leaf, that its variable is one of the database's
abbrev pub IsPartKnown : Database → ℕ → ℕ → Tree → ℕ → ℕ → Type 0
IsPartKnown db top bound empty first id = ⊥
IsPartKnown db top bound (leaf t) first id = t.lit.var < top
IsPartKnown db top bound (node l r) first id = IsReified db (first + before bound l r) (id + 2 * before bound l r) (outputs_of bound (node l r) - 1) (input_count bound l r) (inputs bound l r first)

-- what these lines start from
pub record MayTellPart (db : Database) (top bound : ℕ) (t : Tree) (first id next : ℕ) : Type 0 where
  pub full : IsFull t
  pub few : bound + 1 ≤ 2 ^ 31
  pub under : first + fresh_of (totalizer bound) t ≤ top
  pub vars : top ≤ db.vars + 1
  pub numbered : IsNumbered db
  pub at : db.next ≡ next
  pub known : IsPartKnown db top bound t first id
  pub before : id + 2 * fresh_of (totalizer bound) t ≤ next

-- what the other outputs say is known under an id
pub record OthersKnown (db : Database) (bound : ℕ) (t : Tree) (first id i : ℕ) : Type 0 where
  pub said : Constraint
  pub known : Knows db id said
  pub others : IsOthers (ones (outputs bound t first)) (output (totalizer bound) t first i) i said
  pub small : weight said.terms + said.degree ≤ 2 ^ 40

pub others_later : (P : ℕ → Type 0) (db end : Database) (bound : ℕ) (t : Tree) (first id i : ℕ) → IsLater P db end → id < db.next → OthersKnown db bound t first id i → OthersKnown end bound t first id i
others_later P db end bound t first id i later below h = record { said = h.said; known = later_knows P db end id h.said later below h.known; others = h.others; small = h.small }

pub record PartTold (db : Database) (top bound : ℕ) (t : Tree) (first id next : ℕ) : Type 0 where
  pub added : Added (Below top) db (part_lines bound t first id next) (part_size bound t)
  pub known : (i : ℕ) → i ≤ outputs_of bound t → OthersKnown added.ran.end bound t first (part_others bound t next + i) i

-- ---- a leaf

module _ (db : Database) (top bound : ℕ) (t : Weighted) (first id next : ℕ) (h : MayTellPart db top bound (leaf t) first id next) where
  abbrev L : ℕ → Type 0
  L = Below top

  var : t.lit.var ≤ db.vars
  var = omega (arith, h.known, h.vars)

  own : LineRan L db (Pol (Axiom t.lit ∷ [])) next (leaf_others t.lit 0)
  own = line_ran L db (Pol (Axiom t.lit ∷ [])) next (leaf_others t.lit 0) h.numbered h.at (axiom_adds top t.lit db var h.known)

  abbrev mid : Database
  mid = own.added.ran.end

  at_mid : mid.next ≡ next + 1
  at_mid = omega (arith, own.added.ran.next, h.at)

  none : LineRan L mid (Pol (Axiom t.lit ∷ Weaken t.lit.var ∷ [])) (next + 1) (leaf_others t.lit 1)
  none = line_ran L mid (Pol (Axiom t.lit ∷ Weaken t.lit.var ∷ [])) (next + 1) (leaf_others t.lit 1) own.added.ran.later.numbered at_mid (nothing_adds top t.lit mid (omega (arith, var, own.added.ran.later.vars)))

  abbrev last : Database
  last = none.added.ran.end

  leaf_known : (i : ℕ) → i ≤ 1 → Knows last (next + i) (leaf_others t.lit i)
  leaf_known zero le = later_knows L mid last (next + 0) (leaf_others t.lit 0) none.added.ran.later (omega (arith, at_mid)) (subst (λ (k : ℕ). Knows mid k (leaf_others t.lit 0)) (let e : next ≡ next + 0 = omega arith in e) own.known)
  leaf_known (suc i) le = subst (λ (k : ℕ). Knows last k (leaf_others t.lit 1)) (let e : next + 1 ≡ next + suc i = omega (arith, le) in e) none.known

  leaf_small : (i : ℕ) → weight (leaf_others t.lit i).terms + (leaf_others t.lit i).degree ≤ 2 ^ 40
  leaf_small zero = omega arith
  leaf_small (suc i) = omega arith

  leaf_told : PartTold db top bound (leaf t) first id next
  leaf_told = record {
    added = added_then L db (Pol (Axiom t.lit ∷ []) ∷ []) (Pol (Axiom t.lit ∷ Weaken t.lit.var ∷ []) ∷ []) 1 1 own.added none.added;
    known = λ i le. record { said = leaf_others t.lit i; known = leaf_known i le; others = leaf-is-others t.lit i le; small = leaf_small i };
  }

-- ---- a node

module _ (db : Database) (top bound : ℕ) (l r : Tree) (first id next : ℕ) (h : MayTellPart db top bound (node l r) first id next) where
  abbrev t : Tree
  t = node l r

  abbrev p : ℕ
  p = first + before bound l r

  abbrev end_place : ℕ
  end_place = outputs_of bound (node l r) - 1

  size : suc end_place ≡ outputs_of bound t
  size = omega (arith, some_outputs bound t h.full)

  fresh : fresh_of (totalizer bound) t ≡ before bound l r + outputs_of bound t
  fresh = omega arith

  counts : input_count bound l r ≤ 2 ^ 32
  counts = omega (arith, values_length bound l, values_length bound r, h.few)

  told : RowTold db top p (id + 2 * before bound l r) end_place (input_count bound l r) next
  told = row_told db top p (id + 2 * before bound l r) end_place (input_count bound l r) next (inputs bound l r first)
      (record { few = counts; under = omega (arith, size, fresh, h.under); vars = h.vars; numbered = h.numbered; at = h.at; reified = h.known; before = omega (arith, size, fresh, h.before) })

  counted : (a : Assignment) → value a (ones (outputs bound t first)) ≡ count a p (suc end_place)
  counted a = node-counted bound l r first a ∙ ap (count a p) (sym size)

  row_small : (i : ℕ) → i ≤ suc end_place → weight (others_of p end_place i).terms + (others_of p end_place i).degree ≤ 2 ^ 40
  row_small zero le = omega (arith, places-weight true 1 (p + (suc end_place - suc end_place)) (suc end_place), size, values_length bound t, h.few)
  row_small (suc j) le = omega (arith, others-size top p (id + 2 * before bound l r) end_place (input_count bound l r) (inputs bound l r first) db counts (omega (arith, size, fresh, h.under)) h.vars j, le, size, values_length bound t, h.few)

  named : (i : ℕ) → positive_of (p + (i - 1)) ≡ output (totalizer bound) t first i
  named i = ap positive_of (let e : p + (i - 1) ≡ first + fresh_of (totalizer bound) l + fresh_of (totalizer bound) r + (i - 1) = omega arith in e)

  node_told : PartTold db top bound (node l r) first id next
  node_told = record {
    added = told.added;
    known = λ i le. record {
      said = others_of p end_place i;
      known = told.known i (omega (arith, le, size));
      others = subst (λ (k : Lit). IsOthers (ones (outputs bound t first)) k i (others_of p end_place i)) (named i) (row_others p end_place (ones (outputs bound t first)) counted i (omega (arith, le, size)));
      small = row_small i (omega (arith, le, size));
    };
  }

pub part_told : (db : Database) (top bound : ℕ) (t : Tree) (first id next : ℕ) → MayTellPart db top bound t first id next → PartTold db top bound t first id next
part_told db top bound empty first id next h = absurd h.full
part_told db top bound (leaf t) first id next h = leaf_told db top bound t first id next h
part_told db top bound (node l r) first id next h = node_told db top bound l r first id next h
