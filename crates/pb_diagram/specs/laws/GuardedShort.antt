-- The guarded derivation's lines can be said, and are short.
use Rattle.std.proofs.Common.{◌≡◌, ◌≤◌, ◌<◌, ◌+◌, ◌-◌, ◌*◌, ◌^◌, ℕ, zero, suc, true, leb, ltb, List, [], ◌∷◌, ◌++◌, length, refl, ap, sym, ◌∙◌, subst, arith, append_assoc, length-append}
use Rattle.std.specs.Prelude.{All, min}
use Rattle.std.specs.List.{range_with_len}
use Rattle.std.proofs.Math.Nat.{mul-le-mul_right}
use Rattle.std.proofs.lemmas.Bool.{and_parts, ltb-true, leb-true}
use Rattle.std.proofs.lemmas.List.{length-map}
use Rattle.std.proofs.lemmas.List.Elements.{All-nil, All-cons, All-head, All-tail, All-append, All-weaker}
use Rattle.std.proofs.lemmas.List.FromFn.{length-range_with_len}
use Rattle.std.proofs.lemmas.List.Sums.{sum_by-cons}
use Rattle.pb_norm.specs.Constraints.{Weighted, AllPositive, weight}
use Rattle.pb_norm.specs.BoundedSums.{BoundedSum, IsProper}
use Rattle.pb_norm.proofs.AdditionSizes.{weight-cons}
use Rattle.pb_steps.specs.declared.op.PolOp.{PolOp}
use Rattle.pb_steps.specs.declared.op.PolOp.TheVariants.{Push, Axiom, Add}
use Rattle.pb_steps.specs.declared.step.Step.{Step}
use Rattle.pb_steps.specs.declared.step.Step.TheVariants.{Del, Out}
use Rattle.pb_steps.specs.Sayable.{IsId, IsVariable, IsSayable}
use Rattle.pb_steps.specs.StepSizes.{op_size, step_size}
use Rattle.pb_derive.specs.Claims.{Claim, claim_steps}
use Rattle.pb_derive.specs.Deletions.{deletion_steps}
use Rattle.pb_derive.specs.Reifications.{Reification, reification_steps}
use Rattle.pb_derive.specs.Short.{AreShort}
use Rattle.pb_derive.proofs.Fine.{AreFine, fine_within, fine_short, fine_append, fine_claims, fine_reifications, fine_deletions}
use Rattle.pb_derive.proofs.FineStages.{IsFine, fine_none, fine_deleted}
use Rattle.pb_derive.proofs.IdRanges.{each_between}
use Rattle.pb_derive.proofs.Sayable.{IsSlimReification}
use Rattle.pb_family.specs.Derivations.{AreOriginal, MayStart}
use Rattle.pb_diagram.specs.declared.interval.Interval.{Interval}
use Rattle.pb_diagram.specs.Clauses.{head_level, node_count, clause_count_over, diagram_fresh, diagram_size}
use Rattle.pb_diagram.specs.declared.node.Node.{Node}
use Rattle.pb_diagram.specs.Guards.{Rung, child_reification, plus_times, own_of, last_top, windows}
use Rattle.pb_diagram.specs.GuardedSteps.{node_in, nodes_in, first_nodes, count_nodes, all_reifications, orders_end, all_orders, climbs_at, sums_steps, root_goal, root_claim, level_claims, all_claims, root_of, claims_over, root_steps, core_steps, ordered_steps, guarded_over, guarded_by, guarded_steps, is_narrow, are_narrow, is_guarded}
use Rattle.pb_diagram.specs.Levels.{coefs_of, levels_of}
use Rattle.pb_diagram.specs.inner.Links.{AreLinked, IsRootNode}
use Rattle.pb_diagram.specs.laws.DiagramLaws.{linked}
use Rattle.pb_diagram.specs.laws.FineGuarded.{child_slim, child_few, AreLimited, limited_tail, nodes_fine, all_orders_fine, level_fits, nodes_tame, next_low}
use Rattle.pb_diagram.specs.laws.FineLines.{RungFits, split_bytes, split_fine}
use Rattle.pb_diagram.specs.laws.FineOps.{AreOps, ops_within, ops_cons, ops_append, push_ops, axiom_ops, times_ops}
use Rattle.pb_diagram.specs.laws.FineSums.{sums_bytes, sums-few, sums_fine, IsSmall, level_small, all_small}
use Rattle.pb_diagram.specs.laws.GuardedClauses.{count-nodes}
use Rattle.pb_diagram.specs.laws.GuardedCounts.{orders-few, climbs-few}
use Rattle.pb_diagram.specs.laws.GuardedDerives.{linked-length, claims-clauses}
use Rattle.pb_diagram.specs.laws.LevelFacts.{levels_root}
use Rattle.pb_diagram.specs.laws.LinkedCounts.{linked_counts, inner-le}
use Rattle.pb_diagram.specs.laws.NodesOver.{AreStanding, levels_stand, nodes_levels, ends_within}
use Rattle.pb_diagram.specs.laws.RungFacts.{off_in, on_in, count-cons, first-count}

-- ---- deletions one by one

fine_single : (most id n : ℕ) → 24 ≤ most → 1 ≤ id → id + n < 2 ^ 63 → AreFine most (24 * n) (deletion_steps 1 id n)
fine_single most id zero room from under = fine_within most most 0 (24 * 0) [] (omega arith) (omega arith) (fine_none most)
fine_single most id (suc n) room from under =
    let ids : List ℕ = range_with_len id 1 in
    let size = length-range_with_len id 1 in
    fine_within most most (4 + 20 * length ids + 24 * n) (24 * suc n) (deletion_steps 1 id (suc n)) (omega arith) (omega (arith, size))
    (fine_append most (4 + 20 * length ids) (24 * n) (Del ids ∷ []) (deletion_steps 1 (id + 1) n) (fine_deleted most ids (omega (arith, size)) (omega (arith, size, room)) (each_between IsId id 1 (λ i low high. (omega (arith, low, from), omega (arith, high, under)))))
    (fine_single most (id + 1) n room (omega arith) (omega (arith, under))))

claim_steps-append : (id : ℕ) (cs ds : List Claim) → claim_steps id (cs ++ ds) ≡ claim_steps id cs ++ claim_steps (id + length cs) ds
claim_steps-append id [] ds = ap (λ (k : ℕ). claim_steps k ds) (let e : id ≡ id + 0 = omega arith in e)
claim_steps-append id (c ∷ cs) ds =
    ap (λ (ss : List Step). c.step ∷ Out id ∷ ss)
    (claim_steps-append (id + 1) cs ds ∙ ap (λ (k : ℕ). claim_steps (id + 1) cs ++ claim_steps k ds) (let e : id + 1 + length cs ≡ id + length (c ∷ cs) = omega arith in e))

-- ---- the whole

module _ (t : Weighted) (ts : List Weighted) (n : Node) (levels : List (List Node)) (first own next clauses most : ℕ) (h : AreLimited first (first + (1 + count_nodes levels)) (t ∷ ts) ((n ∷ []) ∷ levels))
    (own_from : 1 ≤ own) (own_before : own < next) (few : next ≤ 2 ^ 61) (room : 2 ^ 27 ≤ most) (long : 31 + 56 * length ts ≤ most) (low : All (λ u. u.lit.var < first) (t ∷ ts)) where
  abbrev c : ℕ
  c = count_nodes levels

  abbrev limit : ℕ
  limit = first + (1 + count_nodes levels)

  abbrev q : ℕ
  q = first + 1

  abbrev orders : ℕ
  orders = next + 2 * count_nodes levels

  abbrev sums : ℕ
  sums = orders_end orders levels

  abbrev held : ℕ
  held = climbs_at sums levels

  small : c < 2 ^ 31
  small = omega (arith, h.under)

  below : AreLimited q limit ts levels
  below = limited_tail first limit t ts (n ∷ []) levels h

  ob : (orders ≤ sums) × (sums ≤ orders + c)
  ob = orders-few orders levels

  hb : (sums ≤ held) × (held ≤ sums + 4 * c)
  hb = climbs-few sums levels

  abbrev next_level : List Node
  next_level = first_nodes levels

  first_few : length next_level ≤ c
  first_few = first-count levels

  own_var : IsVariable t.lit.var
  own_var = All-head (λ (u : Weighted). IsVariable u.lit.var) t ts h.vars

  root_slim : IsSlimReification (child_reification t.lit q first n)
  root_slim = child_slim t.lit q (length next_level) first n own_var (omega arith) (omega (arith, first_few, h.under)) (h.from, omega (arith, h.under)) (off_in next_level n.top n.off h.shape.0.over.0.off) (on_in t.coef next_level n.top n.on h.shape.0.over.0.on)

  abbrev r : Rung
  r = root_of t n levels first orders held

  count_all : count_nodes ((n ∷ []) ∷ levels) ≡ 1 + c
  count_all = count-cons (n ∷ []) levels

  fits : RungFits r
  fits = record {
    level = level_fits first limit (held + 1) orders t ts (n ∷ []) levels h (omega arith) (omega (arith, hb.1, ob.1, few, small, count_all)) (omega (arith, own_before)) (omega (arith, few, small, count_all));
    tame = nodes_tame first limit (held + 1) orders t ts (n ∷ []) levels h (omega arith) (omega (arith, hb.1, ob.1, few, small, count_all)) (omega (arith, own_before)) (omega (arith, few, small, count_all));
    low = next_low first limit (held + 1) orders t ts (n ∷ []) levels h (omega arith) (omega (arith, hb.1, ob.1, few, small, count_all)) (omega (arith, own_before)) (omega (arith, few, small, count_all));
    var_from = h.from;
    var_under = omega (arith, h.under);
    counts_from = omega arith;
    counts_under = omega (arith, hb.1, ob.1, few, small);
  }

  goal_ops : AreOps 98 (root_goal r own held)
  goal_ops =
      let add : op_size Add ≡ 2 = refl in
      let more : List PolOp = plus_times (r.term.coef - own_of r) (Axiom t.lit ∷ []) in
      ops_within (20 + (20 + (2 + (13 + 43)))) 98 (root_goal r own held) (omega arith)
      (ops_append 20 (20 + (2 + (13 + 43))) (Push own ∷ []) (Push held ∷ Add ∷ more) (push_ops own (own_from, omega (arith, own_before, few)))
      (ops_append 20 (2 + (13 + 43)) (Push held ∷ []) (Add ∷ more) (push_ops held (omega (arith, hb.0, ob.0, own_before), omega (arith, hb.1, ob.1, few, small)))
      (ops_cons 2 (13 + 43) Add more tt (omega (arith, add)) (times_ops (r.term.coef - own_of r) 13 (Axiom t.lit ∷ []) (omega (arith, weight-cons t ts, h.light)) (axiom_ops t.lit own_var)))))

  narrow : (length (n ∷ []) < 2 ^ 14) × (windows (n ∷ []) ≤ 255 * length (n ∷ []))
  narrow = All-head (λ ns. (length ns < 2 ^ 14) × (windows ns ≤ 255 * length ns)) (n ∷ []) levels h.narrow

  next_narrow : length next_level < 2 ^ 14
  next_narrow = by_levels levels (All-tail (λ ns. (length ns < 2 ^ 14) × (windows ns ≤ 255 * length ns)) (n ∷ []) levels h.narrow)
    where
      by_levels : (ls : List (List Node)) → All (λ ns. (length ns < 2 ^ 14) × (windows ns ≤ 255 * length ns)) ls → length (first_nodes ls) < 2 ^ 14
      by_levels [] k = omega arith
      by_levels (ms ∷ ls) k = (All-head (λ ns. (length ns < 2 ^ 14) × (windows ns ≤ 255 * length ns)) ms ls k).0

  root_fine : IsFine (split_bytes r 98) (root_claim r own held).step
  root_fine = split_fine r (root_goal r own held) 98 (r.term.coef + last_top r.next + last_top r.nodes + 1) fits goal_ops (omega arith)
      (omega (arith, ends_within (t ∷ ts) ((n ∷ []) ∷ levels) h.shape, ends_within ts levels h.shape.1, weight-cons t ts, h.light))

  abbrev claims : List Claim
  claims = level_claims t.lit q first (held + 1) (n ∷ []) ++ all_claims next q ts levels

  small_claims : All IsSmall (level_claims t.lit q first (held + 1) (n ∷ []) ++ all_claims next q ts levels)
  small_claims =
      All-append IsSmall (level_claims t.lit q first (held + 1) (n ∷ [])) (all_claims next q ts levels)
      (level_small t.coef first (held + 1) t.lit q next_level (n ∷ []) own_var (omega arith) (omega (arith, first_few, h.under)) (omega arith) (omega (arith, hb.1, ob.1, few, small)) h.shape.0.over)
      (all_small q limit next ts levels below (omega (arith, own_before)) (omega (arith, few, small)))

  -- all of it, where the claims are no more than the clauses
  pub over_fine : length (level_claims t.lit (first + 1) first (climbs_at (orders_end (next + 2 * count_nodes levels) levels) levels + 1) (n ∷ []) ++ all_claims next (first + 1) ts levels) + 1 ≡ clauses → clauses ≤ 2 ^ 33
      → AreFine most (729000 * count_nodes levels + 117 * clauses + 2071000 + 56 * length ts) (guarded_over t ts n levels first own next)
  over_fine size most_clauses =
      let last : List Claim = root_claim r own held ∷ [] in
      let all : List Claim = claims_over t ts n levels first own next orders held in
      let k : ℕ = held + 3 in
      let whole : all ≡ claims ++ last = sym (append_assoc (level_claims t.lit q first (held + 1) (n ∷ [])) (all_claims next q ts levels) last) in
      let parts : claim_steps k all ≡ claim_steps k claims ++ claim_steps (k + length claims) last = ap (claim_steps k) whole ∙ claim_steps-append k claims last in
      let one = fine_claims most 93 k claims (omega (arith, room)) (omega (arith, room)) (omega arith) (omega (arith, hb.1, ob.1, few, small, size, most_clauses)) (All-weaker IsSmall (λ d. IsSayable d.step) (λ d s. s.0) claims small_claims) (All-weaker IsSmall (λ d. step_size d.step ≤ 93) (λ d s. s.1) claims small_claims) in
      let two = fine_claims most (split_bytes r 98) (k + length claims) last (omega (arith, room)) (omega (arith, room, narrow.0, narrow.1, next_narrow)) (omega arith) (omega (arith, hb.1, ob.1, few, small, size, most_clauses))
      (All-cons (λ d. IsSayable d.step) (root_claim r own held) [] root_fine.0 (All-nil (λ d. IsSayable d.step))) (All-cons (λ d. step_size d.step ≤ split_bytes r 98) (root_claim r own held) [] root_fine.1 (All-nil (λ d. step_size d.step ≤ split_bytes r 98))) in
      let put : AreFine most ((93 + 24) * length claims + (split_bytes r 98 + 24) * 1) (claim_steps k all) =
      subst (AreFine most ((93 + 24) * length claims + (split_bytes r 98 + 24) * 1)) (sym parts) (fine_append most ((93 + 24) * length claims) ((split_bytes r 98 + 24) * 1) (claim_steps k claims) (claim_steps (k + length claims) last) one two) in
      let ids : List ℕ = range_with_len held 3 in
      let three = length-range_with_len held 3 in
      let gone : AreFine most (4 + 20 * length ids) (deletion_steps 3 held 1) =
      fine_deleted most ids (omega (arith, three)) (omega (arith, three, room)) (each_between IsId held 3 (λ i from to. (omega (arith, from, hb.0, ob.0, own_before), omega (arith, to, hb.1, ob.1, few, small)))) in
      let root : Reification = child_reification t.lit q first n in
      let reds = fine_reifications most 3 (held + 1) (root ∷ []) (omega (arith, room)) (omega arith) (omega (arith, hb.1, ob.1, few, small)) (All-cons IsSlimReification root [] root_slim (All-nil IsSlimReification)) (All-cons (λ m. length m.sum ≤ 3) root [] (child_few t.lit q n.off n.on) (All-nil (λ m. length m.sum ≤ 3))) in
      let a : ℕ = (93 + 24) * length claims + (split_bytes r 98 + 24) * 1 in
      let b : ℕ = 4 + 20 * length ids in
      let roots : AreFine most ((238 + 106 * 3) * 1 + (a + b)) (root_steps t ts n levels first own next orders held) =
      fine_append most ((238 + 106 * 3) * 1) (a + b) (reification_steps (held + 1) (root ∷ [])) (claim_steps k all ++ deletion_steps 3 held 1) reds (fine_append most a b (claim_steps k all) (deletion_steps 3 held 1) put gone) in
      let climbs = sums_fine most first q limit next orders sums ts levels below room long (omega (arith, own_before)) (omega (arith, few, small)) (omega (arith, own_before)) (omega (arith, few, small)) (omega (arith, ob.0, own_before)) (omega (arith, ob.1, few, small)) h.from (omega arith) (All-tail (λ (u : Weighted). u.lit.var < first) t ts low) in
      let s : ℕ = sums_bytes levels + (31 + 56 * length ts) in
      let core = fine_append most s ((238 + 106 * 3) * 1 + (a + b)) (sums_steps first next orders q ts levels sums) (root_steps t ts n levels first own next orders held) climbs roots in
      let order = all_orders_fine most q limit next orders ts levels (omega (arith, room)) below (omega (arith, own_before)) (omega (arith, few, small)) (omega (arith, own_before)) (omega (arith, few, small)) in
      let singles = fine_single most orders (sums - orders) (omega (arith, room)) (omega (arith, own_before)) (omega (arith, ob.1, few, small)) in
      let e : ℕ = s + ((238 + 106 * 3) * 1 + (a + b)) in
      let ordered = fine_append most (721096 * c) (e + 24 * (sums - orders)) (all_orders next q ts levels orders) (core_steps t ts n levels first own next orders sums ++ deletion_steps 1 orders (sums - orders)) order
      (fine_append most e (24 * (sums - orders)) (core_steps t ts n levels first own next orders sums) (deletion_steps 1 orders (sums - orders)) core singles) in
      let pairs = fine_deletions most next c (omega (arith, room)) (omega (arith, own_before)) (omega (arith, few, small)) in
      let nodes = nodes_fine most q limit next ts levels (omega (arith, room)) below (omega (arith, own_before)) (omega (arith, few, small)) in
      let f : ℕ = 721096 * c + (e + 24 * (sums - orders)) in
      fine_within most most (556 * c + (f + 44 * c)) (729000 * count_nodes levels + 117 * clauses + 2071000 + 56 * length ts) (guarded_over t ts n levels first own next) (omega arith)
      (omega (arith, sums-few levels, size, ob.1, three, narrow.1, next_narrow))
      (fine_append most (556 * c) (f + 44 * c) (reification_steps next (all_reifications q ts levels)) (ordered_steps t ts n levels first own next orders ++ deletion_steps 2 next c) nodes (fine_append most f (44 * c) (ordered_steps t ts n levels first own next orders) (deletion_steps 2 next c) ordered pairs))

-- ---- of a diagram

abbrev Narrow : List Node → Type 0
Narrow ns = (length ns < 2 ^ 14) × (windows ns ≤ 255 * length ns)

narrow_from : (most : ℕ) → most ≤ 255 → (levels : List (List Node)) → are_narrow most levels ≡ true → All (λ ns. (length ns < 2 ^ 14) × (windows ns ≤ 255 * length ns)) levels
narrow_from most le [] e = All-nil Narrow
narrow_from most le (ns ∷ levels) e =
    let parts = and_parts (is_narrow most ns) (are_narrow most levels) e in
    let here = and_parts (ltb (length ns) (2 ^ 14)) (leb (windows ns) (most * length ns)) parts.0 in
    let more : most * length ns ≤ 255 * length ns = mul-le-mul_right (length ns) le in
    All-cons Narrow ns levels (ltb-true (length ns) (2 ^ 14) here.0, omega (arith, leb-true (windows ns) (most * length ns) here.1, more)) (narrow_from most le levels parts.1)

-- the levels of a sum that is derived by guards
pub narrow_of : (m : BoundedSum) → is_guarded m ≡ true → All (λ ns. (length ns < 2 ^ 14) × (windows ns ≤ 255 * length ns)) (nodes_in m.terms (levels_of m))
narrow_of m guarded =
    let n : ℕ = length m.terms in
    let levels : List (List Node) = nodes_in m.terms (levels_of m) in
    narrow_from (min 255 n) (omega arith) levels (and_parts (leb 20 n) (are_narrow (min 255 n) levels) guarded).1

-- the sum's terms and levels, and where the derivation starts
pub record MayWrite (ts : List Weighted) (levels : List (List Interval)) (bound first own next : ℕ) : Type 0 where
  pub links : AreLinked ts levels
  pub stands : AreStanding levels
  pub root : IsRootNode bound levels
  pub original : AreOriginal first ts
  pub light : weight ts ≤ 2 ^ 100
  pub positive : AllPositive ts
  pub narrow : All (λ ns. (length ns < 2 ^ 14) × (windows ns ≤ 255 * length ns)) (nodes_in ts levels)
  pub start : MayStart first (node_count levels) own next

abbrev pub guarded_bytes : ℕ → ℕ → ℕ → ℕ
guarded_bytes n fresh clauses = 729000 * fresh + 117 * clauses + 2071000 + 56 * n

fine_by : (ts : List Weighted) (levels : List (List Interval)) (bound first own next most : ℕ) → MayWrite ts levels bound first own next → 2 ^ 27 ≤ most → 31 + 56 * length ts ≤ most
    → AreFine most (guarded_bytes (length ts) (node_count levels) (clause_count_over ts levels)) (guarded_by ts (nodes_in ts levels) first own next)
fine_by [] [] bound first own next most h room long = absurd (omega (arith, ap length h.root.is))
fine_by [] (gs ∷ levels) bound first own next most h room long = absurd h.links
fine_by (t ∷ ts) [] bound first own next most h room long = absurd h.links
fine_by (t ∷ ts) ([] ∷ levels) bound first own next most h room long = absurd (omega (arith, ap length h.root.is))
fine_by (t ∷ ts) ((g ∷ k ∷ gs) ∷ levels) bound first own next most h room long = absurd (omega (arith, ap length h.root.is))
fine_by (t ∷ ts) ((g ∷ []) ∷ levels) bound first own next most h room long =
    let n : Node = node_in t.coef (weight ts) (head_level levels) g in
    let below : List (List Node) = nodes_in ts levels in
    let orders : ℕ = next + 2 * count_nodes below in
    let held : ℕ = climbs_at (orders_end orders below) below in
    let count : node_count ((g ∷ []) ∷ levels) ≡ 1 + count_nodes below = omega (arith, sum_by-cons (length {A = Interval}) (g ∷ []) levels, count-nodes ts levels (linked-length ts levels h.links.1)) in
    let clauses : ℕ = clause_count_over (t ∷ ts) ((g ∷ []) ∷ levels) in
    let all : List Claim = claims_over t ts n below first own next orders held in
    let claims : length all ≡ clauses = omega (arith, length-map all (λ (c : Claim). c.clause), ap length (claims-clauses t ts g levels first own next orders held), linked_counts (t ∷ ts) ((g ∷ []) ∷ levels) h.links first) in
    let here : List Claim = level_claims t.lit (first + 1) first (held + 1) (n ∷ []) in
    let later : List Claim = all_claims next (first + 1) ts below in
    let last : List Claim = root_claim (root_of t n below first orders held) own held ∷ [] in
    let most_clauses : clauses ≤ 2 ^ 33 = omega (arith, inner-le (t ∷ ts) ((g ∷ []) ∷ levels), h.start.fits) in
    let size : length (here ++ later) + 1 ≡ clauses = omega (arith, claims, length-append here (later ++ last), length-append later last, length-append here later) in
    let limited : AreLimited first (first + (1 + count_nodes below)) (t ∷ ts) ((n ∷ []) ∷ below) = record {
      shape = nodes_levels (t ∷ ts) ((g ∷ []) ∷ levels) h.links h.stands;
      vars = All-weaker (λ (u : Weighted). (1 ≤ u.lit.var) × (u.lit.var < first)) (λ (u : Weighted). IsVariable u.lit.var) (λ u o. (o.0, omega (arith, o.1, h.start.fits))) (t ∷ ts) h.original;
      light = h.light;
      positive = h.positive;
      below = All-weaker (λ (u : Weighted). (1 ≤ u.lit.var) × (u.lit.var < first)) (λ (u : Weighted). u.lit.var < first) (λ u o. o.1) (t ∷ ts) h.original;
      within = omega (arith, count-cons (n ∷ []) below);
      under = omega (arith, h.start.fits, count);
      from = h.start.low;
      narrow = h.narrow;
    } in
    fine_within most most (729000 * count_nodes below + 117 * clauses + 2071000 + 56 * length ts) (guarded_bytes (length (t ∷ ts)) (node_count ((g ∷ []) ∷ levels)) clauses) _ (omega arith) (omega (arith, count))
    (over_fine t ts n below first own next clauses most limited h.start.given h.start.known h.start.few room (omega (arith, long)) limited.below size most_clauses)

module _ (m : BoundedSum) (proper : IsProper m) (light : weight m.terms < 2 ^ 100) (guarded : is_guarded m ≡ true) (first own next : ℕ) (original : AreOriginal first m.terms) (start : MayStart first (diagram_fresh m) own next) where
  may : MayWrite m.terms (levels_of m) m.bound first own next
  may = record {
    links = linked m;
    stands = levels_stand m.bound [] (coefs_of m.terms);
    root = levels_root m.bound m.terms proper.heavy;
    original = original;
    light = omega (arith, light);
    positive = proper.positive;
    narrow = narrow_of m guarded;
    start = start;
  }

  pub guarded_sayable : All IsSayable (guarded_steps m first own next)
  guarded_sayable = (fine_by m.terms (levels_of m) m.bound first own next (2 ^ 28 + 31 + 56 * length m.terms) may (omega arith) (omega arith)).sayable

  pub guarded_short : length m.terms ≤ 2 ^ 21 → AreShort (length m.terms) (diagram_fresh m) (diagram_size m) (guarded_steps m first own next)
  guarded_short few =
      let n : ℕ = length m.terms in
      let fresh : ℕ = diagram_fresh m in
      let some : 1 * n ≤ (fresh + 1) * n = mul-le-mul_right n (let e : 1 ≤ fresh + 1 = omega arith in e) in
      let spread : 512 * ((fresh + 1) * n) ≡ 512 * (fresh + 1) * n = grind arith in
      fine_short (2 ^ 28) (guarded_bytes n fresh (diagram_size m)) n fresh (diagram_size m) (guarded_steps m first own next) (omega arith) (omega (arith, some, spread)) (fine_by m.terms (levels_of m) m.bound first own next (2 ^ 28) may (omega arith) (omega (arith, few)))
