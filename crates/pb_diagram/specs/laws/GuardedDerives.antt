-- The guarded derivation of a diagram runs from each ready database, and puts out the diagram's clauses.
use Rattle.std.proofs.Common.{◌≡◌, ◌≤◌, ◌<◌, ◌+◌, ◌-◌, ◌^◌, ℕ, List, [], ◌∷◌, ◌++◌, length, map, refl, ap, sym, ◌∙◌, subst, append_assoc, arith}
use Rattle.std.specs.Prelude.{All}
use Rattle.std.proofs.lemmas.List.{map-append}
use Rattle.std.proofs.lemmas.List.Elements.{All-head, All-tail}
use Rattle.std.proofs.lemmas.List.Sums.{sum_by-cons}
use Rattle.pb_base.specs.declared.literal.Lit.{Lit}
use Rattle.pb_norm.specs.Constraints.{Weighted, weight}
use Rattle.pb_norm.specs.BoundedSums.{BoundedSum, IsProper}
use Rattle.pb_norm.specs.Reduction.{opposite}
use Rattle.pb_steps.specs.Database.{Database}
use Rattle.pb_derive.specs.Claims.{Claim}
use Rattle.pb_derive.specs.Derivations.{IsReadyFor, Derives}
use Rattle.pb_derive.specs.Later.{IsUnnamed, IsNumbered, Knows}
use Rattle.pb_derive.proofs.Justified.{apart_from_vars}
use Rattle.pb_family.specs.Families.{VarsBelow}
use Rattle.pb_family.specs.Fresh.{positive_of}
use Rattle.pb_diagram.specs.declared.interval.Interval.{Interval}
use Rattle.pb_diagram.specs.Clauses.{head_level, level_clauses, node_clauses, clauses_over, node_count, diagram_clauses, diagram_fresh}
use Rattle.pb_diagram.specs.declared.node.Node.{Node}
use Rattle.pb_diagram.specs.GuardedSteps.{node_in, nodes_in, count_nodes, level_claims, all_claims, root_claim, root_of, claims_over, guarded_by, guarded_steps}
use Rattle.pb_diagram.specs.Levels.{coefs_of, levels_of}
use Rattle.pb_diagram.specs.inner.Links.{AreLinked, IsRootNode}
use Rattle.pb_diagram.specs.laws.DiagramLaws.{linked}
use Rattle.pb_diagram.specs.laws.GuardedClauses.{clause_in, level-clauses, all-clauses, count-nodes}
use Rattle.pb_diagram.specs.laws.GuardedRuns.{MayGuard, guarded_runs}
use Rattle.pb_diagram.specs.laws.LevelFacts.{levels_root}
use Rattle.pb_diagram.specs.laws.NodesOver.{AreStanding, levels_stand, nodes_levels, AreNarrow}
use Rattle.pb_diagram.specs.laws.SumsRun.{AreTerms}

pub linked-length : (ts : List Weighted) (levels : List (List Interval)) → AreLinked ts levels → length ts ≡ length levels
linked-length [] [] h = refl
linked-length [] (gs ∷ levels) h = absurd h
linked-length (t ∷ ts) [] h = absurd h
linked-length (t ∷ ts) (gs ∷ levels) h = omega (arith, linked-length ts levels h.1)

pub claims-clauses : (t : Weighted) (ts : List Weighted) (g : Interval) (levels : List (List Interval)) (first own base orders before : ℕ)
    → map (λ c. c.clause) (claims_over t ts (node_in t.coef (weight ts) (head_level levels) g) (nodes_in ts levels) first own base orders before) ≡ clauses_over (t ∷ ts) ((g ∷ []) ∷ levels) first
claims-clauses t ts g levels first own base orders before =
    let n : Node = node_in t.coef (weight ts) (head_level levels) g in
    let here : List Claim = level_claims t.lit (first + 1) first (before + 1) (n ∷ []) in
    let later : List Claim = all_claims base (first + 1) ts (nodes_in ts levels) in
    let last : List Claim = root_claim (root_of t n (nodes_in ts levels) first orders before) own before ∷ [] in
    let cs : List (List Lit) = level_clauses t (weight ts) (first + 1) (head_level levels) first (g ∷ []) in
    let ds : List (List Lit) = node_clauses (first + 1) ts levels in
    let end : List (List Lit) = (positive_of first ∷ []) ∷ [] in
    map-append clause_in here (later ++ last)
    ∙ ap (λ (es : List (List Lit)). es ++ map clause_in (later ++ last)) (level-clauses t (weight ts) (first + 1) first (before + 1) (head_level levels) (g ∷ []))
    ∙ ap (λ (es : List (List Lit)). cs ++ es) (map-append clause_in later last ∙ ap (λ (es : List (List Lit)). es ++ end) (all-clauses base (first + 1) ts levels))
    ∙ sym (append_assoc cs ds end)

-- the sum's terms and levels, and a database that is ready
pub record MayGuardAll (ts : List Weighted) (levels : List (List Interval)) (bound first own : ℕ) (db : Database) : Type 0 where
  pub links : AreLinked ts levels
  pub stands : AreStanding levels
  pub root : IsRootNode bound levels
  pub terms : AreTerms first ts
  pub narrow : AreNarrow (nodes_in ts levels)
  pub heavy : bound < weight ts
  pub within : All (λ t. t.coef ≤ bound) ts
  pub original : db.original < first
  pub vars : first + node_count levels ≤ db.vars + 1
  pub numbered : IsNumbered db
  pub known : Knows db own (record { terms = map opposite ts; degree = weight ts - bound })
  pub unnamed : (v : ℕ) → first ≤ v → v < first + node_count levels → IsUnnamed v db

by_levels : (ts : List Weighted) (levels : List (List Interval)) (bound first own : ℕ) (db : Database) → MayGuardAll ts levels bound first own db → Derives db (guarded_by ts (nodes_in ts levels) first own db.next) (clauses_over ts levels first) (first + node_count levels)
by_levels [] [] bound first own db h = absurd (omega (arith, ap length h.root.is))
by_levels [] (gs ∷ levels) bound first own db h = absurd h.links
by_levels (t ∷ ts) [] bound first own db h = absurd h.links
by_levels (t ∷ ts) ([] ∷ levels) bound first own db h = absurd (omega (arith, ap length h.root.is))
by_levels (t ∷ ts) ((g ∷ k ∷ gs) ∷ levels) bound first own db h = absurd (omega (arith, ap length h.root.is))
by_levels (t ∷ ts) ((g ∷ []) ∷ levels) bound first own db h =
    let n : Node = node_in t.coef (weight ts) (head_level levels) g in
    let below : List (List Node) = nodes_in ts levels in
    let count : node_count ((g ∷ []) ∷ levels) ≡ 1 + count_nodes below = omega (arith, sum_by-cons (length {A = Interval}) (g ∷ []) levels, count-nodes ts levels (linked-length ts levels h.links.1)) in
    let same : g.top ≡ h.root.root.top = ap head_top h.root.is in
    let may : MayGuard t ts n below bound first own db = record {
      shape = nodes_levels (t ∷ ts) ((g ∷ []) ∷ levels) h.links h.stands;
      terms = h.terms;
      narrow = All-tail (λ (ns : List Node). length ns < 2 ^ 20) (n ∷ []) below h.narrow;
      ends = omega (arith, same, h.root.ends);
      heavy = h.heavy;
      within = All-head (λ (u : Weighted). u.coef ≤ bound) t ts h.within;
      original = h.original;
      vars = omega (arith, h.vars, count);
      numbered = h.numbered;
      stands = h.known;
      unnamed = λ v from to. h.unnamed v from (omega (arith, to, count));
    } in
    subst (λ (k : ℕ). Derives db (guarded_by (t ∷ ts) (nodes_in (t ∷ ts) ((g ∷ []) ∷ levels)) first own db.next) (clauses_over (t ∷ ts) ((g ∷ []) ∷ levels) first) (first + k)) (sym count)
    (subst (λ (cs : List (List Lit)). Derives db (guarded_by (t ∷ ts) (nodes_in (t ∷ ts) ((g ∷ []) ∷ levels)) first own db.next) cs (first + (1 + count_nodes below))) (claims-clauses t ts g levels first own db.next _ _)
    (guarded_runs t ts n below bound first own db may))
  where
    head_top : List Interval → ℕ
    head_top [] = 0
    head_top (k ∷ ks) = k.top

-- from each database that is ready, the steps run and put out the clauses
pub guarded_derives : (m : BoundedSum) → IsProper m → weight m.terms < 2 ^ 100 → AreNarrow (nodes_in m.terms (levels_of m)) → (first : ℕ) → VarsBelow first m.terms → (own : ℕ) (db : Database) → IsReadyFor m first (diagram_fresh m) own db
    → Derives db (guarded_steps m first own db.next) (diagram_clauses m first) (first + diagram_fresh m)
guarded_derives m proper light narrow first below own db ready =
    by_levels m.terms (levels_of m) m.bound first own db (record {
      links = linked m;
      stands = levels_stand m.bound [] (coefs_of m.terms);
      root = levels_root m.bound m.terms proper.heavy;
      terms = record { below = below; apart = apart_from_vars m.terms proper.distinct; positive = proper.positive; light = omega (arith, light) };
      narrow = narrow;
      heavy = proper.heavy;
      within = proper.within;
      original = ready.original;
      vars = ready.vars;
      numbered = ready.numbered;
      known = ready.stands;
      unnamed = ready.unnamed;
    })
