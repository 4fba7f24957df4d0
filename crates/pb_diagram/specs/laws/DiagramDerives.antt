-- The derivation of a diagram runs from each ready database, and puts out the diagram's clauses.
use Rattle.std.proofs.Common.{◌≡◌, ◌≢◌, ◌≤◌, ◌<◌, ◌+◌, ◌-◌, ◌*◌, ◌^◌, ℕ, Bool, true, false, cond, List, [], ◌∷◌, ◌++◌, length, map, refl, ap, sym, ◌∙◌, subst, arith, inl, inr}
use Rattle.std.specs.Prelude.{All, if◌then◌else◌, nat_le, nat_lt}
use Rattle.std.proofs.lemmas.Bool.{cond_both}
use Rattle.std.proofs.lemmas.List.{map-append}
use Rattle.std.proofs.lemmas.List.Elements.{All-nil, All-cons, All-append, All-head, All-tail, All-weaker, All-contains, All-map}
use Rattle.pb_base.specs.declared.literal.Lit.{Lit}
use Rattle.pb_base.specs.Literals.{negated}
use Rattle.pb_norm.specs.Constraints.{Weighted, weight}
use Rattle.pb_norm.specs.BoundedSums.{BoundedSum, IsProper, vars_of}
use Rattle.pb_steps.specs.Database.{Database}
use Rattle.pb_derive.specs.Derivations.{IsReadyFor, Derives}
use Rattle.pb_derive.specs.Justifications.{Justification, by_justification}
use Rattle.pb_derive.proofs.Justified.{IsWhole, IsReached, IsSum, all_unmapped, apart_from_vars, justified_derives}
use Rattle.pb_derive.proofs.Phases.{phases_few}
use Rattle.pb_derive.proofs.JustificationClauses.{justification_clauses, clauses-justifications}
use Rattle.pb_family.specs.Families.{VarsBelow, IsNamed}
use Rattle.pb_family.specs.Fresh.{positive_of}
use Rattle.pb_diagram.specs.declared.interval.Interval.{Interval}
use Rattle.pb_diagram.specs.Clauses.{node_at, false_clause, true_clause, level_clauses, head_level, node_clauses, clauses_over, diagram_clauses, diagram_fresh, diagram_size}
use Rattle.pb_diagram.specs.DiagramSteps.{node_reifications, Below, child_id, false_justifications, true_justification, level_justifications, below_of, node_justifications, top_justification, justifications_over, diagram_steps}
use Rattle.pb_diagram.specs.Levels.{coefs_of, levels_of}
use Rattle.pb_diagram.specs.laws.DiagramLaws.{linked, diagram_counts, diagram_names}
use Rattle.pb_diagram.specs.laws.DiagramJustifications.{diagram_justified}
use Rattle.pb_diagram.specs.laws.LevelFacts.{levels_root}
use Rattle.pb_diagram.specs.laws.NodeReifications.{AreRising, levels_rise, length-nodes, nodes_row, nodes_reached}

-- ---- the clauses

abbrev clause_in : Justification → List Lit
clause_in x = x.clause

map-unless : {X Y : Type 0} (f : X → Y) (b : Bool) (x : X) → map f (if b then [] else (x ∷ [])) ≡ (if b then [] else (f x ∷ []))
map-unless f true x = refl
map-unless f false x = refl

level_justifications_clauses : (t : Weighted) (ts : List Weighted) (next : Below) (x id : ℕ) (gs : List Interval) → map clause_in (level_justifications t ts next x id gs) ≡ level_clauses t (weight ts) next.first next.nodes x gs
level_justifications_clauses t ts next x id [] = refl
level_justifications_clauses t ts next x id (g ∷ gs) =
    let rest = true_justification t ts next x id g ∷ level_justifications t ts next (x + 1) (id + 2) gs in
    let off : Justification = record { clause = negated (positive_of x) ∷ node_at next.first next.nodes g.low ∷ []; ids = id ∷ child_id next g.low ∷ []; weakened = t.lit.var ∷ [] } in
    map-append clause_in (false_justifications t (weight ts) next x id g) rest
    ∙ ap (λ (cs : List (List Lit)). cs ++ map clause_in rest) (map-unless clause_in (nat_le (weight ts) g.low) off)
    ∙ ap (λ (cs : List (List Lit)). false_clause (weight ts) next.first next.nodes x g ++ (true_clause t next.first next.nodes x g ∷ cs)) (level_justifications_clauses t ts next (x + 1) (id + 2) gs)

node_justifications_clauses : (first id : ℕ) (ts : List Weighted) (levels : List (List Interval)) → map clause_in (node_justifications first id ts levels) ≡ node_clauses first ts levels
node_justifications_clauses first id [] levels = refl
node_justifications_clauses first id (t ∷ ts) [] = refl
node_justifications_clauses first id (t ∷ ts) (nodes ∷ levels) =
    let here = level_justifications t ts (below_of first id nodes levels) first id nodes in
    let later = node_justifications (first + length nodes) (id + 2 * length nodes) ts levels in
    map-append clause_in here later
    ∙ ap (λ (cs : List (List Lit)). cs ++ map clause_in later) (level_justifications_clauses t ts (below_of first id nodes levels) first id nodes)
    ∙ ap (λ (cs : List (List Lit)). level_clauses t (weight ts) (first + length nodes) (head_level levels) first nodes ++ cs) (node_justifications_clauses (first + length nodes) (id + 2 * length nodes) ts levels)

-- the justifications are of the clauses, in order
justifications_clauses : (ts : List Weighted) (levels : List (List Interval)) (first id own : ℕ) → map clause_in (justifications_over ts levels first id own) ≡ clauses_over ts levels first
justifications_clauses ts levels first id own =
    map-append clause_in (node_justifications first id ts levels) (top_justification first id own ∷ [])
    ∙ ap (λ (cs : List (List Lit)). cs ++ (positive_of first ∷ []) ∷ []) (node_justifications_clauses first id ts levels)

-- ---- the justifications by themselves

abbrev UpTo : ℕ → ℕ → Type 0
UpTo vars v = v ≤ vars

some_ids : (i : ℕ) (is : List ℕ) → i ∷ is ≢ []
some_ids i is e = absurd (omega (arith, ap length e))

level_whole : (vars : ℕ) (t : Weighted) (ts : List Weighted) (next : Below) (x id : ℕ) (gs : List Interval) → t.lit.var ≤ vars → All (λ w. w.lit.var ≤ vars) ts → All (IsWhole vars) (level_justifications t ts next x id gs)
level_whole vars t ts next x id [] le h = All-nil (IsWhole vars)
level_whole vars t ts next x id (g ∷ gs) le h =
    let off : Justification = record { clause = negated (positive_of x) ∷ node_at next.first next.nodes g.low ∷ []; ids = id ∷ child_id next g.low ∷ []; weakened = t.lit.var ∷ [] } in
    All-append (IsWhole vars) (false_justifications t (weight ts) next x id g) (true_justification t ts next x id g ∷ level_justifications t ts next (x + 1) (id + 2) gs)
    (cond_both (nat_le (weight ts) g.low) [] (off ∷ []) (λ rs. All (IsWhole vars) rs) (λ _. All-nil (IsWhole vars))
    (λ _. All-cons (IsWhole vars) off [] (record { some = some_ids id (child_id next g.low ∷ []); vars_known = All-cons (UpTo vars) t.lit.var [] le (All-nil (UpTo vars)) }) (All-nil (IsWhole vars))))
    (All-cons (IsWhole vars) (true_justification t ts next x id g) (level_justifications t ts next (x + 1) (id + 2) gs)
    (record {
      some = some_ids id (cond {A = List ℕ} (nat_lt g.low t.coef) [] (child_id next (g.low - t.coef) ∷ []));
      vars_known = cond_both (nat_lt g.low t.coef) (vars_of ts) [] (λ vs. All (UpTo vars) vs) (λ _. All-map (UpTo vars) (λ (w : Weighted). w.lit.var) ts h) (λ _. All-nil (UpTo vars));
    })
    (level_whole vars t ts next (x + 1) (id + 2) gs le h))

nodes_whole : (vars first id : ℕ) (ts : List Weighted) (levels : List (List Interval)) → All (λ w. w.lit.var ≤ vars) ts → All (IsWhole vars) (node_justifications first id ts levels)
nodes_whole vars first id [] levels h = All-nil (IsWhole vars)
nodes_whole vars first id (t ∷ ts) [] h = All-nil (IsWhole vars)
nodes_whole vars first id (t ∷ ts) (nodes ∷ levels) h =
    let rest = All-tail (λ (w : Weighted). w.lit.var ≤ vars) t ts h in
    All-append (IsWhole vars) (level_justifications t ts (below_of first id nodes levels) first id nodes) (node_justifications (first + length nodes) (id + 2 * length nodes) ts levels)
    (level_whole vars t ts (below_of first id nodes levels) first id nodes (All-head (λ (w : Weighted). w.lit.var ≤ vars) t ts h) rest)
    (nodes_whole vars (first + length nodes) (id + 2 * length nodes) ts levels rest)

justifications_whole : (vars : ℕ) (ts : List Weighted) (levels : List (List Interval)) (first id own : ℕ) → All (λ w. w.lit.var ≤ vars) ts → All (IsWhole vars) (justifications_over ts levels first id own)
justifications_whole vars ts levels first id own h =
    All-append (IsWhole vars) (node_justifications first id ts levels) (top_justification first id own ∷ []) (nodes_whole vars first id ts levels h)
    (All-cons (IsWhole vars) (top_justification first id own) [] (record { some = some_ids (id + 1) (own ∷ []); vars_known = All-nil (UpTo vars) }) (All-nil (IsWhole vars)))

-- ---- the whole

module _ (m : BoundedSum) where
  abbrev ts : List Weighted
  ts = m.terms

  abbrev levels : List (List Interval)
  levels = levels_of m

  pub rising : AreRising (levels_of m)
  rising = levels_rise m.bound [] (coefs_of m.terms)

  pub clauses_are : (first id own : ℕ) → justification_clauses (justifications_over m.terms (levels_of m) first id own) ≡ diagram_clauses m first
  clauses_are first id own = clauses-justifications (justifications_over ts levels first id own) ∙ justifications_clauses ts levels first id own

  pub count_reifications : (first : ℕ) → length (node_reifications first m.terms (levels_of m)) ≡ diagram_fresh m
  count_reifications first = length-nodes first ts levels (linked m)

  -- three lines for each node, and two for each clause
  pub diagram_lines : (first own next : ℕ) → length (diagram_steps m first own next) ≤ 8 * (diagram_fresh m + diagram_size m)
  diagram_lines first own next =
      omega (
        arith,
        phases_few next (node_reifications first ts levels) (map by_justification (justifications_over ts levels first next own)),
        count_reifications first,
        ap length (clauses_are first next own),
        diagram_counts m first,
      )

  module _ (proper : IsProper m) (light : weight m.terms < 2 ^ 100) (first : ℕ) (below : VarsBelow first m.terms) where
    pub sum_of : IsSum first m.terms
    sum_of = record { below = below; apart = apart_from_vars ts proper.distinct; positive = proper.positive; light = light }

    pub reifications_reached : All (IsReached first) (node_reifications first m.terms (levels_of m))
    reifications_reached = nodes_reached first first ts levels (linked m) rising sum_of

    named_below : (l : Lit) → IsNamed m.terms first (diagram_fresh m) l → l.var < first + diagram_fresh m
    named_below l h =
        elim h as (λ _. l.var < first + diagram_fresh m) [
          | inl old ↦ let less : l.var < first = All-contains (λ (v : ℕ). v < first) (vars_of ts) l.var (All-map (λ (v : ℕ). v < first) (λ (w : Weighted). w.lit.var) ts below) old in omega arith
          | inr new ↦ new.1
        ]

    -- from each database that is ready, the steps run and put out the clauses
    pub diagram_derives : (own : ℕ) (db : Database) → IsReadyFor m first (diagram_fresh m) own db → Derives db (diagram_steps m first own db.next) (diagram_clauses m first) (first + diagram_fresh m)
    diagram_derives own db ready =
        let fresh = diagram_fresh m in
        let rs = justifications_over ts levels first db.next own in
        let vars = ready.vars in
        let up_to : All (λ (w : Weighted). w.lit.var ≤ db.vars) ts = All-weaker (λ (w : Weighted). w.lit.var < first) (λ (w : Weighted). w.lit.var ≤ db.vars) (λ w k. omega arith) ts below in
        let N : Lit → Type 0 = λ l. l.var < first + fresh in
        let names : All (λ (r : Justification). All N r.clause) rs =
        all_unmapped (All N) clause_in rs
        (subst (λ (cs : List (List Lit)). All (All N) cs) (sym (justifications_clauses ts levels first db.next own))
        (All-weaker (All (IsNamed ts first fresh)) (All N) (λ c h. All-weaker (IsNamed ts first fresh) N named_below c h) (diagram_clauses m first) (diagram_names m proper first))) in
        subst (λ (cs : List (List Lit)). Derives db (diagram_steps m first own db.next) cs (first + fresh)) (clauses_are first db.next own)
        (justified_derives m first fresh own db (node_reifications first ts levels) rs ready (nodes_row first ts levels) (count_reifications first) reifications_reached names (justifications_whole db.vars ts levels first db.next own up_to)
        (λ K known held. diagram_justified K first db.next own m.bound ts levels (linked m) rising (levels_root m.bound ts proper.heavy) (λ u h. All-contains (λ (w : Weighted). w.lit.var < first) ts u below h)
        sum_of.apart proper.heavy light known held))
