-- Each clause of a diagram follows from the constraints that its justification names. It serves proofs alone.
use Rattle.std.proofs.Common.{◌≡◌, ◌≢◌, ◌≤◌, ◌<◌, ◌+◌, ◌-◌, ◌*◌, ◌^◌, ℕ, suc, Bool, true, cond, ltb, leb, List, [], ◌∷◌, length, get_or, refl, ap, sym, ◌∙◌, subst, arith, inl, inr}
use Rattle.std.specs.Prelude.{Contains, All, map}
use Rattle.std.specs.List.{position_or_len}
use Rattle.std.proofs.lemmas.Bool.{cases_Bool, ltb-true, ltb-false, leb-false, cond_both}
use Rattle.std.proofs.lemmas.List.Elements.{All-nil, All-cons, All-append, All-contains, All-contains_itself, All-map}
use Rattle.pb_base.specs.declared.literal.Lit.{Lit}
use Rattle.pb_base.specs.Literals.{negated, is_among}
use Rattle.pb_base.proofs.Members.{Contains-nil, Contains-here, Contains-there, Contains-cons_cases, Contains-map}
use Rattle.pb_base.proofs.Pairs.{AllPairs-head, AllPairs-tail}
use Rattle.pb_norm.specs.Constraints.{Weighted, Constraint, weight}
use Rattle.pb_norm.specs.BoundedSums.{vars_of}
use Rattle.pb_norm.specs.Reduction.{opposite}
use Rattle.pb_norm.proofs.AdditionSizes.{weight-cons}
use Rattle.pb_derive.specs.Forms.{AreApartTerms}
use Rattle.pb_derive.specs.Reifications.{forward_of, reverse_of}
use Rattle.pb_derive.specs.Justifications.{Justification}
use Rattle.pb_derive.proofs.Justified.{IsJustified, ReificationsKnown}
use Rattle.pb_derive.proofs.Opposites.{vars-opposite, weight-opposite}
use Rattle.pb_derive.proofs.Fronts.{Front, front_weakened, front_false, follows_rest, follows_alone, follows_top}
use Rattle.pb_derive.proofs.Sides.{Side, side_fresh}
use Rattle.pb_family.specs.Fresh.{positive_of}
use Rattle.pb_family.proofs.ShortClauses.{first_among, second_among, third_among}
use Rattle.pb_diagram.specs.declared.interval.Interval.{Interval}
use Rattle.pb_diagram.specs.Clauses.{node_at, head_level}
use Rattle.pb_diagram.specs.DiagramSteps.{node_reification, node_reifications, Below, child_id, false_justifications, true_justification, level_justifications, below_of, node_justifications, top_justification, justifications_over}
use Rattle.pb_diagram.specs.Levels.{lies_in}
use Rattle.pb_diagram.specs.inner.Links.{Child, Linked, AreLinked, IsRootNode}
use Rattle.pb_diagram.specs.laws.NodeReifications.{IsNodeAt, child_at, AreWithin, tops_within, AreRising, level_known, levels_known}

-- of the next level, by what stands of it
abbrev pub NextKnown : (ℕ → Constraint → Type 0) → Below → List Weighted → Type 0
NextKnown K next ts = (p : ℕ) (g : Interval) → IsNodeAt next.nodes p g → K (next.id + 2 * p + 1) (reverse_of (node_reification (next.first + p) ts g))

-- ---- a node's clauses follow

weight-both : (t : Weighted) (ts : List Weighted) → weight (map opposite (t ∷ ts)) ≡ t.coef + weight ts
weight-both t ts = weight-opposite (t ∷ ts) ∙ weight-cons t ts

-- the side of a node that the clause negates
node_side : (clause : List Lit) (x : ℕ) (ts : List Weighted) (g : Interval) → 1 ≤ g.top → is_among clause (negated (positive_of x)) ≡ true → Side clause (map opposite ts) (weight ts + 1 - g.top) (forward_of (node_reification x ts g) ∷ []) []
node_side clause x ts g some among = side_fresh clause (node_reification x ts g) (omega (arith, some, weight-opposite ts)) among

-- what is asked of a node
pub record NodeFacts (K : ℕ → Constraint → Type 0) (low : ℕ) (t : Weighted) (ts : List Weighted) (next : Below) (x id : ℕ) (g : Interval) : Type 0 where
  pub linked : Linked t.coef (weight ts) next.nodes g
  pub known : K id (forward_of (node_reification x (t ∷ ts) g))
  pub some : 1 ≤ g.top
  pub above : low ≤ x

-- and of its level
pub record LevelHas (K : ℕ → Constraint → Type 0) (low : ℕ) (t : Weighted) (ts : List Weighted) (next : Below) : Type 0 where
  pub known : NextKnown K next ts
  pub within : AreWithin (weight ts) next.nodes
  pub above : low ≤ next.first
  pub below : (u : Weighted) → Contains (t ∷ ts) u → u.lit.var < low
  pub apart : AreApartTerms (t ∷ ts)
  pub light : t.coef + weight ts < 2 ^ 100

-- from a node's reification and that of a child, with a shift, which with what goes of the term is its coefficient
child_justified : (K : ℕ → Constraint → Type 0) (low : ℕ) (t : Weighted) (ts : List Weighted) (next : Below) (x id : ℕ) (g : Interval) → LevelHas K low t ts next → NodeFacts K low t ts next x id g
    → (residue shift gone : ℕ) → gone + shift ≡ t.coef → Child next.nodes residue shift g.top → (clause : List Lit) (vars : List ℕ) → Front clause (opposite t ∷ []) vars gone
    → is_among clause (negated (positive_of x)) ≡ true → is_among clause (node_at next.first next.nodes residue) ≡ true → IsJustified K (record { clause = clause; ids = id ∷ child_id next residue ∷ []; weakened = vars })
child_justified K low t ts next x id g level facts residue shift gone whole child clause vars front own among =
    let p = position_or_len (lies_in residue) next.nodes in
    let m = node_reification x (t ∷ ts) g in
    let n = node_reification (next.first + p) ts child.interval in
    let at = child_at next.nodes residue shift g.top child in
    let top = level.within p child.interval at in
    let ends = child.ends in
    let light = level.light in
    let heavy = weight-both t ts in (
      forward_of m ∷ reverse_of n ∷ [],
      (facts.known, (level.known p child.interval at, tt)),
      follows_rest clause (opposite t ∷ []) (map opposite ts) (weight (t ∷ ts) + 1 - g.top) gone (forward_of m ∷ []) vars n
          (node_side clause x (t ∷ ts) g facts.some own)
          front
          refl
          (omega (arith, top, ends, whole, weight-cons t ts))
          (omega (arith, weight-opposite ts))
          among
          (omega (arith, light, heavy))
          (id ∷ child_id next residue ∷ []),
    )

off_justified : (K : ℕ → Constraint → Type 0) (low : ℕ) (t : Weighted) (ts : List Weighted) (next : Below) (x id : ℕ) (g : Interval) → LevelHas K low t ts next → NodeFacts K low t ts next x id g → g.low < weight ts
    → IsJustified K (record { clause = negated (positive_of x) ∷ node_at next.first next.nodes g.low ∷ []; ids = id ∷ child_id next g.low ∷ []; weakened = t.lit.var ∷ [] })
off_justified K low t ts next x id g level facts inner =
    let f = node_at next.first next.nodes g.low in
    let clause = negated (positive_of x) ∷ f ∷ [] in
    let above = level.above in
    let mine = facts.above in
    let own = level.below t (Contains-here t ts) in
    let apart : (l : Lit) → Contains clause l → l.var ≡ t.lit.var → ⊥ = λ l h e.
    elim (Contains-cons_cases (negated (positive_of x)) (f ∷ []) l h) as (λ _. ⊥) [
      | inl same ↦ let is : x ≡ l.var = ap (λ (k : Lit). k.var) same in omega arith
      | inr rest ↦ elim (Contains-cons_cases f [] l rest) as (λ _. ⊥) [
        | inl same ↦ let is : next.first + position_or_len (lies_in g.low) next.nodes ≡ l.var = ap (λ (k : Lit). k.var) same in omega arith
        | inr none ↦ Contains-nil l none
      ]
    ] in
    child_justified K low t ts next x id g level facts g.low 0 t.coef (omega arith) (facts.linked.off inner) clause (t.lit.var ∷ []) (front_weakened clause (opposite t) apart)
    (first_among (negated (positive_of x)) (f ∷ [])) (second_among (negated (positive_of x)) f [])

on_justified : (K : ℕ → Constraint → Type 0) (low : ℕ) (t : Weighted) (ts : List Weighted) (next : Below) (x id : ℕ) (g : Interval) → LevelHas K low t ts next → NodeFacts K low t ts next x id g → t.coef ≤ g.low
    → IsJustified K (record { clause = negated (positive_of x) ∷ negated t.lit ∷ node_at next.first next.nodes (g.low - t.coef) ∷ []; ids = id ∷ child_id next (g.low - t.coef) ∷ []; weakened = [] })
on_justified K low t ts next x id g level facts room =
    let f = node_at next.first next.nodes (g.low - t.coef) in
    let clause = negated (positive_of x) ∷ negated t.lit ∷ f ∷ [] in
    child_justified K low t ts next x id g level facts (g.low - t.coef) t.coef 0 (omega arith) (facts.linked.on room) clause [] (front_false clause (opposite t) (second_among (negated (positive_of x)) (negated t.lit) (f ∷ [])))
    (first_among (negated (positive_of x)) (negated t.lit ∷ f ∷ [])) (third_among (negated (positive_of x)) (negated t.lit) f [])

-- a variable that the later terms do not have
abbrev IsGone : ℕ → ℕ → ℕ → Type 0
IsGone low v w = (w < low) × (v ≢ w)

full_justified : (K : ℕ → Constraint → Type 0) (low : ℕ) (t : Weighted) (ts : List Weighted) (next : Below) (x id : ℕ) (g : Interval) → LevelHas K low t ts next → NodeFacts K low t ts next x id g → g.low < t.coef
    → IsJustified K (record { clause = negated (positive_of x) ∷ negated t.lit ∷ []; ids = id ∷ []; weakened = vars_of ts })
full_justified K low t ts next x id g level facts less =
    let clause = negated (positive_of x) ∷ negated t.lit ∷ [] in
    let m = node_reification x (t ∷ ts) g in
    let ends = facts.linked.full less in
    let mine = facts.above in
    let light = level.light in
    let heavy = weight-both t ts in
    let some = facts.some in
    let each : All (IsGone low t.lit.var) (vars_of ts) =
    All-map (IsGone low t.lit.var) (λ (u : Weighted). u.lit.var) ts
    (λ k d within. (level.below (get_or ts k d) (Contains-there t ts (get_or ts k d) (All-contains_itself ts k d within)), AllPairs-head (λ (v w : Weighted). v.lit.var ≢ w.lit.var) t ts level.apart k d within)) in
    let apart : (l : Lit) → Contains clause l → ¬ Contains (vars_of ts) l.var = λ l h gone.
    let is = All-contains (IsGone low t.lit.var) (vars_of ts) l.var each gone in
    elim (Contains-cons_cases (negated (positive_of x)) (negated t.lit ∷ []) l h) as (λ _. ⊥) [
      | inl same ↦ let e : x ≡ l.var = ap (λ (k : Lit). k.var) same in let under = is.0 in omega arith
      | inr rest ↦ elim (Contains-cons_cases (negated t.lit) [] l rest) as (λ _. ⊥) [
        | inl same ↦ is.1 (ap (λ (k : Lit). k.var) same)
        | inr none ↦ Contains-nil l none
      ]
    ] in (
      forward_of m ∷ [],
      (facts.known, tt),
      follows_alone clause (opposite t) (map opposite ts) (vars_of ts) m refl
          (first_among (negated (positive_of x)) (negated t.lit ∷ []))
          (second_among (negated (positive_of x)) (negated t.lit) [])
          (omega (arith, ends, weight-opposite ts, weight-cons t ts))
          (omega (arith, some, weight-opposite (t ∷ ts)))
          (λ u h. subst (λ (vs : List ℕ). Contains vs u.lit.var) (vars-opposite ts) (Contains-map (λ (w : Weighted). w.lit.var) (map opposite ts) u h))
          apart
          (omega (arith, light, heavy))
          (id ∷ []),
    )

-- ---- of a level, and of all

false_justified : (K : ℕ → Constraint → Type 0) (low : ℕ) (t : Weighted) (ts : List Weighted) (next : Below) (x id : ℕ) (g : Interval) → LevelHas K low t ts next → NodeFacts K low t ts next x id g → All (IsJustified K) (false_justifications t (weight ts) next x id g)
false_justified K low t ts next x id g level facts =
    let off : Justification = record { clause = negated (positive_of x) ∷ node_at next.first next.nodes g.low ∷ []; ids = id ∷ child_id next g.low ∷ []; weakened = t.lit.var ∷ [] } in
    cond_both (leb (weight ts) g.low) [] (off ∷ []) (λ rs. All (IsJustified K) rs) (λ _. All-nil (IsJustified K))
    (λ fails. All-cons (IsJustified K) off [] (off_justified K low t ts next x id g level facts (leb-false (weight ts) g.low fails)) (All-nil (IsJustified K)))

true_justified : (K : ℕ → Constraint → Type 0) (low : ℕ) (t : Weighted) (ts : List Weighted) (next : Below) (x id : ℕ) (g : Interval) → LevelHas K low t ts next → NodeFacts K low t ts next x id g → IsJustified K (true_justification t ts next x id g)
true_justified K low t ts next x id g level facts =
    let child : List Lit = node_at next.first next.nodes (g.low - t.coef) ∷ [] in
    let justification : Bool → Justification = λ b. record {
      clause = negated (positive_of x) ∷ negated t.lit ∷ cond {A = List Lit} b [] child;
      ids = id ∷ cond {A = List ℕ} b [] (child_id next (g.low - t.coef) ∷ []);
      weakened = cond {A = List ℕ} b (vars_of ts) [];
    } in
    elim (cases_Bool (ltb g.low t.coef)) as (λ _. IsJustified K (justification (ltb g.low t.coef))) [
      | inl e ↦ subst (λ (b : Bool). IsJustified K (justification b)) (sym e) (full_justified K low t ts next x id g level facts (ltb-true g.low t.coef e))
      | inr e ↦ subst (λ (b : Bool). IsJustified K (justification b)) (sym e) (on_justified K low t ts next x id g level facts (ltb-false g.low t.coef e))
    ]

level_justified : (K : ℕ → Constraint → Type 0) (low : ℕ) (t : Weighted) (ts : List Weighted) (next : Below) (x id : ℕ) (gs : List Interval) → LevelHas K low t ts next
    → ((p : ℕ) (g : Interval) → IsNodeAt gs p g → NodeFacts K low t ts next (x + p) (id + 2 * p) g) → All (IsJustified K) (level_justifications t ts next x id gs)
level_justified K low t ts next x id [] level each = All-nil (IsJustified K)
level_justified K low t ts next x id (g ∷ gs) level each =
    let first = each 0 g (omega arith, refl) in
    let e : x + 0 ≡ x = omega arith in
    let f : id + 2 * 0 ≡ id = omega arith in
    let here = subst (λ (n : ℕ). NodeFacts K low t ts next x n g) f (subst (λ (n : ℕ). NodeFacts K low t ts next n (id + 2 * 0) g) e first) in
    All-append (IsJustified K) (false_justifications t (weight ts) next x id g) (true_justification t ts next x id g ∷ level_justifications t ts next (x + 1) (id + 2) gs)
    (false_justified K low t ts next x id g level here)
    (All-cons (IsJustified K) (true_justification t ts next x id g) (level_justifications t ts next (x + 1) (id + 2) gs)
    (true_justified K low t ts next x id g level here)
    (level_justified K low t ts next (x + 1) (id + 2) gs level (λ p h at.
    let later = each (p + 1) h (omega (arith, at.0), subst (λ (k : ℕ). get_or (g ∷ gs) k h ≡ h) (let s : suc p ≡ p + 1 = omega arith in s) at.1) in
    let a : x + (p + 1) ≡ x + 1 + p = omega arith in
    let b : id + 2 * (p + 1) ≡ id + 2 + 2 * p = omega arith in
    subst (λ (n : ℕ). NodeFacts K low t ts next (x + 1 + p) n h) b (subst (λ (n : ℕ). NodeFacts K low t ts next n (id + 2 * (p + 1)) h) a later))))

-- what stands of the next level
next_known : (K : ℕ → Constraint → Type 0) (first id : ℕ) (ts : List Weighted) (levels : List (List Interval)) → AreLinked ts levels → ReificationsKnown K id (node_reifications first ts levels) → NextKnown K (record { nodes = head_level levels; first = first; id = id }) ts
next_known K first id [] [] linked known p g at = absurd (omega (arith, at.0))
next_known K first id [] (nodes ∷ levels) linked known p g at = absurd linked
next_known K first id (t ∷ ts) [] linked known p g at = absurd linked
next_known K first id (t ∷ ts) (nodes ∷ levels) linked known p g at = (level_known K first id t ts nodes levels known p g at).1

nodes_justified : (K : ℕ → Constraint → Type 0) (low first id : ℕ) (ts : List Weighted) (levels : List (List Interval)) → AreLinked ts levels → AreRising levels
    → low ≤ first → ((u : Weighted) → Contains ts u → u.lit.var < low) → AreApartTerms ts → weight ts < 2 ^ 100 → ReificationsKnown K id (node_reifications first ts levels)
    → All (IsJustified K) (node_justifications first id ts levels)
nodes_justified K low first id [] levels linked rising le below apart light known = All-nil (IsJustified K)
nodes_justified K low first id (t ∷ ts) [] linked rising le below apart light known = All-nil (IsJustified K)
nodes_justified K low first id (t ∷ ts) (nodes ∷ levels) linked rising le below apart light known =
    let next = below_of first id nodes levels in
    let later = levels_known K first id t ts nodes levels known in
    let sum = weight-cons t ts in
    All-append (IsJustified K) (level_justifications t ts next first id nodes) (node_justifications (first + length nodes) (id + 2 * length nodes) ts levels)
    (level_justified K low t ts next first id nodes
    (record {
      known = next_known K (first + length nodes) (id + 2 * length nodes) ts levels linked.1 later;
      within = tops_within ts levels linked.1;
      above = omega arith;
      below = below;
      apart = apart;
      light = omega (arith, light, sum);
    })
    (λ p g at. record {
      linked = subst (λ (h : Interval). Linked t.coef (weight ts) (head_level levels) h) at.1 (linked.0 p g at.0);
      known = (level_known K first id t ts nodes levels known p g at).0;
      some = let up = rising.0 g (p, at.0, at.1) in omega arith;
      above = omega arith;
    }))
    (nodes_justified K low (first + length nodes) (id + 2 * length nodes) ts levels linked.1 rising.1 (omega arith) (λ u h. below u (Contains-there t ts u h))
    (AllPairs-tail (λ (v w : Weighted). v.lit.var ≢ w.lit.var) t ts apart) (omega (arith, light, sum)) later)

-- the root's reification and the sum's own constraint
top_justified : (K : ℕ → Constraint → Type 0) (first id own bound : ℕ) (ts : List Weighted) (levels : List (List Interval)) → AreLinked ts levels → IsRootNode bound levels
    → bound < weight ts → weight ts < 2 ^ 100 → ReificationsKnown K id (node_reifications first ts levels) → K own (record { terms = map opposite ts; degree = weight ts - bound })
    → IsJustified K (top_justification first id own)
top_justified K first id own bound [] [] linked root above light known held = absurd (omega (arith, above))
top_justified K first id own bound [] (nodes ∷ levels) linked root above light known held = absurd linked
top_justified K first id own bound (t ∷ ts) [] linked root above light known held = absurd linked
top_justified K first id own bound (t ∷ ts) (nodes ∷ levels) linked root above light known held =
    let us = t ∷ ts in
    let g = root.root in
    let at : IsNodeAt nodes 0 g = (omega (arith, ap length root.is), ap (λ (l : List Interval). get_or l 0 g) root.is) in
    let second = (level_known K first id t ts nodes levels known 0 g at).1 in
    let e : first + 0 ≡ first = omega arith in
    let f : id + 2 * 0 + 1 ≡ id + 1 = omega arith in
    let m = node_reification first us g in
    let there = subst (λ (i : ℕ). K i (reverse_of m)) f (subst (λ (v : ℕ). K (id + 2 * 0 + 1) (reverse_of (node_reification v us g))) e second) in
    let constraint : Constraint = record { terms = map opposite us; degree = weight us - bound } in
    let top = tops_within us (nodes ∷ levels) linked 0 g at in
    let ends = root.ends in (
      reverse_of m ∷ constraint ∷ [],
      (there, (held, tt)),
      follows_top (positive_of first ∷ []) m constraint (first_among (positive_of first) []) refl
          (omega (arith, top, ends, above, weight-opposite us)) (omega (arith, weight-opposite us)) (omega (arith, light, weight-opposite us)) ((id + 1) ∷ own ∷ []),
    )

pub diagram_justified : (K : ℕ → Constraint → Type 0) (first id own bound : ℕ) (ts : List Weighted) (levels : List (List Interval)) → AreLinked ts levels → AreRising levels → IsRootNode bound levels
    → ((u : Weighted) → Contains ts u → u.lit.var < first) → AreApartTerms ts → bound < weight ts → weight ts < 2 ^ 100
    → ReificationsKnown K id (node_reifications first ts levels) → K own (record { terms = map opposite ts; degree = weight ts - bound })
    → All (IsJustified K) (justifications_over ts levels first id own)
diagram_justified K first id own bound ts levels linked rising root below apart above light known held =
    All-append (IsJustified K) (node_justifications first id ts levels) (top_justification first id own ∷ [])
    (nodes_justified K first first id ts levels linked rising (omega arith) below apart light known)
    (All-cons (IsJustified K) (top_justification first id own) [] (top_justified K first id own bound ts levels linked root above light known held) (All-nil (IsJustified K)))
