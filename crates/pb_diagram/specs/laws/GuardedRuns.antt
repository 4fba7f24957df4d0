-- All steps of the guarded derivation run, and put out the claims' clauses.
use Rattle.std.proofs.Common.{◌≡◌, ◌≢◌, ◌≤◌, ◌<◌, ◌+◌, ◌-◌, ◌*◌, ◌^◌, ℕ, List, [], ◌∷◌, ◌++◌, length, map, refl, subst, arith}
use Rattle.std.specs.Prelude.{All, Contains}
use Rattle.std.proofs.lemmas.List.Elements.{All-nil, All-cons, All-head, All-append, All-weaker}
use Rattle.std.proofs.lemmas.List.Kept.{AllPairs-cons}
use Rattle.std.proofs.lemmas.List.Sums.{sum_by-append}
use Rattle.pb_base.specs.declared.literal.Lit.{Lit}
use Rattle.pb_base.proofs.Members.{Contains-here}
use Rattle.pb_base.proofs.Pairs.{AllPairs-nil}
use Rattle.pb_norm.specs.Constraints.{Weighted, Constraint, weight}
use Rattle.pb_norm.specs.Reduction.{opposite}
use Rattle.pb_steps.specs.Database.{Database}
use Rattle.pb_derive.specs.Claims.{Claim}
use Rattle.pb_derive.specs.Deletions.{deletion_steps}
use Rattle.pb_derive.specs.Derivations.{Derives}
use Rattle.pb_derive.specs.Later.{IsUnnamed, IsNumbered, IsLater, Knows}
use Rattle.pb_derive.specs.Reifications.{Reification, forward_of, reification_steps}
use Rattle.pb_derive.specs.inner.Meant.{IsReification, NamesNot, AreReifications}
use Rattle.pb_derive.specs.inner.Ran.{StepGives, IsClaim, Ran, RanSwept}
use Rattle.pb_derive.proofs.FollowedBy.{later_wider}
use Rattle.pb_derive.proofs.Given.{IsOfClause}
use Rattle.pb_derive.proofs.Laters.{later_then, later_knows, known_below}
use Rattle.pb_derive.proofs.Lines.{MeantFrom, meant_from}
use Rattle.pb_derive.proofs.Meant.{Meant, reifications_ran}
use Rattle.pb_derive.proofs.Opposites.{weight-opposite}
use Rattle.pb_derive.proofs.Phases.{reifications_add, swept_derives}
use Rattle.pb_derive.proofs.Scoped.{scoped}
use Rattle.pb_family.specs.Fresh.{positive_of}
use Rattle.pb_diagram.specs.declared.node.Node.{Node}
use Rattle.pb_diagram.specs.Guards.{Rung, weighing, rises, child_reification, last_top}
use Rattle.pb_diagram.specs.GuardedSteps.{first_nodes, count_nodes, all_reifications, orders_end, head_order, all_orders, climbs_at, sums_steps, root_claim, level_claims, all_claims, root_of, claims_over, core_steps, ordered_steps, guarded_over}
use Rattle.pb_diagram.specs.laws.ClimbLines.{climb_of}
use Rattle.pb_diagram.specs.laws.FewTerms.{apart_one, positive_one}
use Rattle.pb_diagram.specs.laws.GuardSplit.{IsRung}
use Rattle.pb_diagram.specs.laws.LevelShape.{some_last}
use Rattle.pb_diagram.specs.laws.LevelWorths.{climbed}
use Rattle.pb_diagram.specs.laws.NodeClaims.{adds_gives, level_claimed, all_claimed}
use Rattle.pb_diagram.specs.laws.NodesAdded.{child_added, child_named, nodes_added}
use Rattle.pb_diagram.specs.laws.NodesOver.{AreLevels, AreNarrow, first_narrow, ends_within}
use Rattle.pb_diagram.specs.laws.OrdersRun.{OrdersRan, orders_ran}
use Rattle.pb_diagram.specs.laws.RootGoal.{own_of_sum, root_split}
use Rattle.pb_diagram.specs.laws.RootRuns.{root_ran}
use Rattle.pb_diagram.specs.laws.RungFacts.{off_in, on_in, AreBothKnown, LevelsMeant, level_meant, levels_meant, length-all, first-count, head_ordered, both_later, levels_later, ordered_later, rung_is}
use Rattle.pb_diagram.specs.laws.RungLines.{unit_clause, rises-weight}
use Rattle.pb_diagram.specs.laws.RungRuns.{Below, ClimbRan}
use Rattle.pb_diagram.specs.laws.RungSizes.{IsModest, sums_small}
use Rattle.pb_diagram.specs.laws.SumsRun.{AreTerms, terms_tail, MayStartClimbs, sums_ran}

-- a diagram over its root, and a database that is ready for it
pub record MayGuard (t : Weighted) (ts : List Weighted) (n : Node) (levels : List (List Node)) (bound first own : ℕ) (db : Database) : Type 0 where
  pub shape : AreLevels (t ∷ ts) ((n ∷ []) ∷ levels)
  pub terms : AreTerms first (t ∷ ts)
  pub narrow : AreNarrow levels
  pub ends : bound < n.top
  pub heavy : bound < weight (t ∷ ts)
  pub within : t.coef ≤ bound
  pub original : db.original < first
  pub vars : first + (1 + count_nodes levels) ≤ db.vars + 1
  pub numbered : IsNumbered db
  pub stands : Knows db own (record { terms = map opposite (t ∷ ts); degree = weight (t ∷ ts) - bound })
  pub unnamed : (v : ℕ) → first ≤ v → v < first + (1 + count_nodes levels) → IsUnnamed v db

unit_gives : (v : ℕ) → IsOfClause (positive_of v ∷ []) (unit_clause v)
unit_gives v = record {
  apart = apart_one (weighing 1 (positive_of v));
  positive = positive_one (weighing 1 (positive_of v)) (omega arith);
  among = All-cons (λ (t : Weighted). (t.coef ≤ 1) × Contains (positive_of v ∷ []) t.lit) (weighing 1 (positive_of v)) [] (omega arith, Contains-here (positive_of v) []) (All-nil (λ (t : Weighted). (t.coef ≤ 1) × Contains (positive_of v ∷ []) t.lit));
  some = omega arith;
}

module _ (t : Weighted) (ts : List Weighted) (n : Node) (levels : List (List Node)) (bound first own : ℕ) (db : Database) (h : MayGuard t ts n levels bound first own db) where
  abbrev limit : ℕ
  limit = first + (1 + count_nodes levels)

  abbrev P : ℕ → Type 0
  P = Below limit

  -- all but the root's variable, which the guards take
  abbrev Q : ℕ → Type 0
  Q w = (w < limit) × (w ≢ first)

  abbrev q : ℕ
  q = first + 1

  abbrev next : List Node
  next = first_nodes levels

  less : AreTerms first ts
  less = terms_tail first t ts h.terms

  own_low : t.lit.var < first
  own_low = All-head (λ (u : Weighted). u.lit.var < first) t ts h.terms.below

  low_q : All (λ u. u.lit.var < q) ts
  low_q = All-weaker (λ (u : Weighted). u.lit.var < first) (λ (u : Weighted). u.lit.var < q) (λ u k. omega (arith, k)) ts less.below

  few : length next ≤ count_nodes levels
  few = first-count levels

  -- ---- the nodes below the root

  abbrev ms : List Reification
  ms = all_reifications q ts levels

  size : length ms ≡ count_nodes levels
  size = length-all q ts levels h.shape.1

  nodes : Meant Q db ms
  nodes = reifications_ran Q db ms h.numbered
      (nodes_added Q db q ts levels h.shape.1 low_q (All-weaker (λ (u : Weighted). u.lit.var < first) (λ (u : Weighted). Q u.lit.var) (λ u k. (omega (arith, k), (λ e. omega (arith, e, k)))) ts less.below) (omega (arith, h.original)) (omega (arith, h.vars))
      (λ w from to. ((omega (arith, to), (λ e. omega (arith, e, from))), h.unnamed w (omega (arith, from)) (omega (arith, to)))))

  abbrev d1 : Database
  d1 = nodes.ran.end

  abbrev orders : ℕ
  orders = db.next + 2 * count_nodes levels

  at_1 : d1.next ≡ orders
  at_1 = omega (arith, nodes.ran.next, size)

  meant_1 : LevelsMeant d1 db.next q ts levels
  meant_1 = levels_meant d1 db.next q ts levels h.shape.1 nodes.meant

  -- ---- their orders

  ordered : OrdersRan Q d1 (all_orders db.next q ts levels orders) orders q levels
  ordered = orders_ran Q d1 db.next orders q ts levels nodes.ran.later.numbered at_1 h.shape.1 meant_1 (omega (arith, h.vars, nodes.ran.later.vars)) h.narrow (λ w from to. (omega (arith, to), (λ e. omega (arith, e, from))))

  abbrev d2 : Database
  d2 = ordered.added.ran.end

  abbrev sums : ℕ
  sums = orders_end orders levels

  later_2 : IsLater Q db d2
  later_2 = later_then Q db d1 d2 nodes.ran.later ordered.added.ran.later

  meant_2 : LevelsMeant d2 db.next q ts levels
  meant_2 = levels_later Q d1 d2 ordered.added.ran.later nodes.ran.later.numbered db.next q ts levels meant_1

  start : MayStartClimbs limit d2 first
  start = record {
    original = omega (arith, h.original, later_2.original);
    fits = omega (arith, h.vars, later_2.vars);
    numbered = later_2.numbered;
    unnamed = later_2.unnamed first (λ k. k.1 refl) (h.unnamed first (omega arith) (omega arith));
  }

  -- ---- the levels' sums

  summed : ClimbRan limit d2 d2 first (sums_steps first db.next orders q ts levels sums) (climbs_at sums levels) (climb_of ts q (first_nodes levels))
  summed = sums_ran limit d2 first db.next orders sums start ordered.at q ts levels h.shape.1 meant_2 ordered.known less h.narrow (omega arith) (omega arith) (omega arith)

  abbrev held : ℕ
  held = climbs_at sums levels

  abbrev d3 : Database
  d3 = summed.end

  later_3 : IsLater P d2 d3
  later_3 = summed.holding.later

  -- ---- the root's node

  abbrev root : Reification
  root = child_reification t.lit q first n

  vars_3 : q + length next ≤ d3.vars + 1
  vars_3 = omega (arith, few, h.vars, later_2.vars, later_3.vars)

  root_added : AreReifications P d3 (root ∷ [])
  root_added =
      let fs = off_in next n.top n.off h.shape.0.over.0.off in
      let gs = on_in t.coef next n.top n.on h.shape.0.over.0.on in
      record {
        each = All-cons (IsReification d3.original d3.vars) root [] (child_added d3.original d3.vars t.lit q (length next) first n (omega (arith, start.original, later_3.original)) own_low (omega arith) vars_3 fs gs) (All-nil (IsReification d3.original d3.vars));
        named = All-cons (λ m. All (λ u. P u.lit.var) (forward_of m).terms) root [] (child_named P t.lit q (length next) first n fs gs (omega arith) (omega (arith, own_low)) (λ w from to. omega (arith, to, few))) (All-nil (λ m. All (λ u. P u.lit.var) (forward_of m).terms));
        unnamed = All-cons (λ m. IsUnnamed m.var d3) root [] summed.unnamed (All-nil (λ m. IsUnnamed m.var d3));
        in_order = AllPairs-cons NamesNot root [] (All-nil (NamesNot root)) (AllPairs-nil NamesNot);
      }

  rooted : MeantFrom P d3 (held + 1) (root ∷ [])
  rooted = meant_from P d3 (held + 1) (root ∷ []) summed.at (reifications_ran P d3 (root ∷ []) later_3.numbered root_added)

  abbrev d4 : Database
  d4 = rooted.added.ran.end

  later_4 : IsLater P d2 d4
  later_4 = later_then P d2 d3 d4 later_3 rooted.added.ran.later

  known_root : AreBothKnown d4 t.lit q first (held + 1) (n ∷ [])
  known_root = level_meant d4 t.lit q first (held + 1) (n ∷ []) rooted.meant

  -- ---- the clauses

  abbrev r : Rung
  r = root_of t n levels first orders held

  low_bound : weight (t ∷ ts) ≤ 2 ^ 100
  low_bound = h.terms.light

  -- in each later database
  module _ (end : Database) (later : IsLater P d4 end) where
    later_end : IsLater P d2 end
    later_end = later_then P d2 d4 end later_4 later

    root_rung : IsRung end r
    root_rung = rung_is end r h.shape.0 (ordered_later P d2 end later_end later_2.numbered (head_order orders levels) q (length next) (head_ordered d2 orders q levels ordered.known))
        (omega (arith, few, h.vars, later_2.vars, later_end.vars)) own_low (omega arith) (All-head (λ (u : Weighted). 0 < u.coef) t ts h.terms.positive) (some_last 0 n [] h.shape.0.up)
        (both_later P d4 end later later_4.numbered t.lit q first (held + 1) (n ∷ []) known_root)

    own_known : Knows end own (own_of_sum end r n ts bound own held root_rung refl h.ends h.heavy h.within)
    own_known =
        let s : Constraint = record { terms = map opposite (t ∷ ts); degree = weight (t ∷ ts) - bound } in
        let one = later_knows Q db d2 own s later_2 (known_below db own s h.numbered h.stands) h.stands in
        later_knows P d2 end own s later_end (known_below d2 own s later_2.numbered one) one

    held_known : Knows end held (climb_of ts r.after r.next)
    held_known =
        let s : Constraint = climb_of ts q next in
        let whole = later_then P d3 d4 end rooted.added.ran.later later in
        later_knows P d3 end held s whole (known_below d3 held s later_3.numbered summed.known) summed.known

    modest : IsModest r
    modest = record {
      ends = omega (arith, ends_within (t ∷ ts) ((n ∷ []) ∷ levels) h.shape, low_bound);
      next_ends = omega (arith, ends_within ts levels h.shape.1, less.light);
      next_few = first_narrow levels h.narrow;
    }

    root_gives : StepGives end (root_claim r own held).step (positive_of first ∷ [])
    root_gives =
        let climb : weight (climb_of ts r.after r.next).terms ≡ weight ts + climbed 0 r.next = omega (arith, sum_by-append (λ (u : Weighted). u.coef) ts (rises positive_of r.after 0 r.next), rises-weight positive_of r.after 0 r.next) in
        let bytes = sums_small r modest root_rung.up root_rung.rise root_rung.top (weight (map opposite (t ∷ ts)) + (weight (t ∷ ts) - bound) + (weight (climb_of ts r.after r.next).terms + last_top r.next))
        (omega (arith, weight-opposite (t ∷ ts), low_bound, less.light, climb, root_rung.last, modest.next_ends)) in
        adds_gives P end (root_claim r own held).step (unit_clause first) (positive_of first ∷ [])
        (root_split end r n ts bound own held root_rung refl h.ends h.heavy h.within P own_known held_known (omega arith) bytes) (unit_gives first)

  root_claimed : IsClaim P d4 (root_claim r own held)
  root_claimed = record {
    named = All-cons (λ (l : Lit). P l.var) (positive_of first) [] (omega arith) (All-nil (λ (l : Lit). P l.var));
    takes = refl;
    gives = root_gives;
  }

  abbrev claims : List Claim
  claims = claims_over t ts n levels first own db.next orders held

  claimed : All (IsClaim P d4) (claims_over t ts n levels first own db.next orders held)
  claimed =
      let fits : q + count_nodes levels ≤ d4.vars + 1 = omega (arith, h.vars, later_2.vars, later_4.vars) in
      All-append (IsClaim P d4) (level_claims t.lit q first (held + 1) (n ∷ [])) (all_claims db.next q ts levels ++ root_claim r own held ∷ [])
      (level_claimed P d4 later_4.numbered t.lit q t.coef next (omega (arith, few, fits)) (omega (arith, own_low)) (λ w from to. omega (arith, to, few)) first (held + 1) (n ∷ []) own_low (omega arith) (λ w from to. omega (arith, to)) h.shape.0.over known_root)
      (All-append (IsClaim P d4) (all_claims db.next q ts levels) (root_claim r own held ∷ [])
      (all_claimed P d4 db.next q ts levels later_4.numbered h.shape.1 (levels_later P d2 d4 later_4 later_2.numbered db.next q ts levels meant_2) low_q (All-weaker (λ (u : Weighted). u.lit.var < first) (λ (u : Weighted). P u.lit.var) (λ u k. omega (arith, k)) ts less.below)
      fits (λ w from to. omega (arith, to)))
      (All-cons (IsClaim P d4) (root_claim r own held) [] root_claimed (All-nil (IsClaim P d4))))

  -- ---- the whole

  abbrev clauses : List (List Lit)
  clauses = map (λ (c : Claim). c.clause) claims

  abbrev core_ids : ℕ
  core_ids = held + 3 + length claims - d2.next

  core : RanSwept P d2 (core_steps t ts n levels first own db.next orders sums) (map (λ (c : Claim). c.clause) (claims_over t ts n levels first own db.next orders held)) (held + 3 + length (claims_over t ts n levels first own db.next orders held) - d2.next)
  core = root_ran P d2 d3 root held claims summed.holding summed.at rooted claimed (sums_steps first db.next orders q ts levels sums) summed.runs

  wider : (w : ℕ) → Q w → P w
  wider w k = k.0

  inner : RanSwept P d1 (ordered_steps t ts n levels first own db.next orders) clauses (ordered.ids + core_ids)
  inner =
      let one : Ran P d1 (all_orders db.next q ts levels orders) [] ordered.ids = record {
        end = d2;
        runs = ordered.added.ran.runs;
        later = later_wider Q P wider d1 d2 ordered.added.ran.later;
        next = ordered.added.ran.next;
      } in
      let all = scoped P d1 (all_orders db.next q ts levels orders) (core_steps t ts n levels first own db.next orders sums) clauses ordered.ids core_ids 1 (sums - orders) one nodes.ran.later.numbered ordered.added.adding core
      (omega (arith, ordered.at, ordered.added.ran.next, at_1)) in
      subst (λ (i : ℕ). RanSwept P d1 (all_orders db.next q ts levels orders ++ (core_steps t ts n levels first own db.next orders sums ++ deletion_steps 1 i (sums - orders))) clauses (ordered.ids + core_ids)) at_1 all.all

  pub guarded_runs : Derives db (guarded_over t ts n levels first own db.next) (map (λ c. c.clause) (claims_over t ts n levels first own db.next (db.next + 2 * count_nodes levels) (climbs_at (orders_end (db.next + 2 * count_nodes levels) levels) levels))) (first + (1 + count_nodes levels))
  guarded_runs =
      let one : Ran P db (reification_steps db.next ms) [] (2 * length ms) = record {
        end = d1;
        runs = nodes.ran.runs;
        later = later_wider Q P wider db d1 nodes.ran.later;
        next = nodes.ran.next;
      } in
      let all = scoped P db (reification_steps db.next ms) (ordered_steps t ts n levels first own db.next orders) clauses (2 * length ms) (ordered.ids + core_ids) 2 (count_nodes levels) one h.numbered (reifications_add db.next ms) inner (omega (arith, size)) in
      swept_derives db (guarded_over t ts n levels first own db.next) clauses limit (2 * length ms + (ordered.ids + core_ids)) h.numbered all.all
