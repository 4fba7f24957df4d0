-- The lines of a diagram's derivation are within their limits, and short. It serves proofs alone.
use Rattle.std.proofs.Common.{◌≡◌, ◌≤◌, ◌<◌, ◌+◌, ◌-◌, ◌*◌, ◌^◌, ℕ, Bool, true, false, cond, not, List, [], ◌∷◌, length, map, ap, subst, arith}
use Rattle.std.specs.Prelude.{All, nat_le, nat_lt}
use Rattle.std.specs.List.{position_or_len}
use Rattle.std.proofs.lemmas.Bool.{cond_both}
use Rattle.std.proofs.lemmas.List.{length-map}
use Rattle.std.proofs.lemmas.List.Elements.{All-nil, All-cons, All-append, All-head, All-tail, All-weaker, All-map}
use Rattle.std.proofs.lemmas.List.Sums.{sum_by-cons, prefix_len-le-length}
use Rattle.pb_base.specs.Literals.{negated}
use Rattle.pb_norm.specs.Constraints.{Weighted, weight}
use Rattle.pb_norm.specs.BoundedSums.{BoundedSum, IsProper, vars_of}
use Rattle.pb_steps.specs.declared.step.Step.{Step}
use Rattle.pb_steps.specs.Sayable.{IsId, IsVariable, IsSayable}
use Rattle.pb_derive.specs.Claims.{Claim}
use Rattle.pb_derive.specs.Reifications.{Reification}
use Rattle.pb_derive.specs.Justifications.{Justification, by_justification}
use Rattle.pb_derive.specs.Short.{AreShort}
use Rattle.pb_derive.proofs.Sayable.{IsSlimTerm, IsSlimReification, phases_sayable}
use Rattle.pb_derive.proofs.ShortJustifications.{IsSlimJustification, justifications_sayable, justifications_short, gone_few}
use Rattle.pb_derive.proofs.SlimRows.{slim_terms, row_slim}
use Rattle.pb_family.specs.Derivations.{AreOriginal, MayStart}
use Rattle.pb_family.specs.Families.{VarsBelow}
use Rattle.pb_family.specs.Fresh.{positive_of}
use Rattle.pb_diagram.specs.declared.interval.Interval.{Interval}
use Rattle.pb_diagram.specs.Clauses.{node_at, node_count, diagram_fresh, diagram_size}
use Rattle.pb_diagram.specs.DiagramSteps.{node_reifications, Below, child_id, false_justifications, true_justification, level_justifications, below_of, node_justifications, top_justification, justifications_over, diagram_steps}
use Rattle.pb_diagram.specs.Levels.{lies_in, levels_of}
use Rattle.pb_diagram.specs.laws.DiagramDerives.{clauses_are, count_reifications, reifications_reached}
use Rattle.pb_diagram.specs.laws.DiagramLaws.{diagram_counts}
use Rattle.pb_diagram.specs.laws.LinkedCounts.{inner-le}
use Rattle.pb_diagram.specs.laws.LinkedNodes.{head_le}
use Rattle.pb_diagram.specs.laws.NodeReifications.{nodes_row, nodes_terms, nodes_few}

-- ---- each justification

-- the ids of the next level's nodes, of which there are no more than a number
record HasIds (most : ℕ) (next : Below) : Type 0 where
  pub within : next.id + 2 * length next.nodes ≤ most
  pub fits : most + 1 < 2 ^ 63

one_id : (i : ℕ) → IsId i → All IsId (i ∷ [])
one_id i h = All-cons IsId i [] h (All-nil IsId)

two_ids : (i j : ℕ) → IsId i → IsId j → All IsId (i ∷ j ∷ [])
two_ids i j h k = All-cons IsId i (j ∷ []) h (one_id j k)

child_is : (most : ℕ) (next : Below) (residue : ℕ) → HasIds most next → IsId (child_id next residue)
child_is most next residue has =
    let p : position_or_len (lies_in residue) next.nodes ≤ length next.nodes = prefix_len-le-length (λ (g : Interval). not (lies_in residue g)) next.nodes in
    let within = has.within in
    let fits = has.fits in
    ((let low : 1 ≤ child_id next residue = omega arith in low), (let high : child_id next residue < 2 ^ 63 = omega (arith, p, within, fits) in high))

module _ (n most : ℕ) (t : Weighted) (ts : List Weighted) (next : Below) (has : HasIds most next) (own : IsVariable t.lit.var) (later : All (λ w. IsVariable w.lit.var) ts) (few : length ts + 1 ≤ n) where
  false_slim : (x id : ℕ) (g : Interval) → IsId id → All (IsSlimJustification n) (false_justifications t (weight ts) next x id g)
  false_slim x id g is =
      let off : Justification = record { clause = negated (positive_of x) ∷ node_at next.first next.nodes g.low ∷ []; ids = id ∷ child_id next g.low ∷ []; weakened = t.lit.var ∷ [] } in
      cond_both (nat_le (weight ts) g.low) [] (off ∷ []) (λ rs. All (IsSlimJustification n) rs) (λ _. All-nil (IsSlimJustification n)) (λ _. All-cons (IsSlimJustification n) off []
      (record {
        some = λ e. cc;
        two = omega arith;
        ids = two_ids id (child_id next g.low) is (child_is most next g.low has);
        variables = All-cons IsVariable t.lit.var [] own (All-nil IsVariable);
        few = omega (arith, few);
      }) (All-nil (IsSlimJustification n)))

  true_slim : (x id : ℕ) (g : Interval) → IsId id → IsSlimJustification n (true_justification t ts next x id g)
  true_slim x id g is = by_test (nat_lt g.low t.coef)
    where
      by_test : (b : Bool) → IsSlimJustification n (record {
        clause = (true_justification t ts next x id g).clause;
        ids = id ∷ cond {A = List ℕ} b [] (child_id next (g.low - t.coef) ∷ []);
        weakened = cond {A = List ℕ} b (vars_of ts) [];
      })
      by_test true = record {
        some = λ e. cc;
        two = omega arith;
        ids = one_id id is;
        variables = All-map IsVariable (λ (w : Weighted). w.lit.var) ts later;
        few = omega (arith, few, length-map ts (λ (w : Weighted). w.lit.var));
      }
      by_test false = record {
        some = λ e. cc;
        two = omega arith;
        ids = two_ids id (child_id next (g.low - t.coef)) is (child_is most next (g.low - t.coef) has);
        variables = All-nil IsVariable;
        few = omega arith;
      }

  level_slim : (x id : ℕ) (gs : List Interval) → 1 ≤ id → id + 2 * length gs ≤ most → All (IsSlimJustification n) (level_justifications t ts next x id gs)
  level_slim x id [] low high = All-nil (IsSlimJustification n)
  level_slim x id (g ∷ gs) low high =
      let fits = has.fits in
      let is : IsId id = (low, (let small : id < 2 ^ 63 = omega (arith, high, fits) in small)) in
      All-append (IsSlimJustification n) (false_justifications t (weight ts) next x id g) (true_justification t ts next x id g ∷ level_justifications t ts next (x + 1) (id + 2) gs) (false_slim x id g is)
      (All-cons (IsSlimJustification n) (true_justification t ts next x id g) (level_justifications t ts next (x + 1) (id + 2) gs) (true_slim x id g is) (level_slim (x + 1) (id + 2) gs (omega arith) (omega (arith, high))))

nodes_slim : (n first id : ℕ) (ts : List Weighted) (levels : List (List Interval)) → 1 ≤ id → id + 2 * node_count levels + 1 < 2 ^ 63 → All (λ w. IsVariable w.lit.var) ts → length ts ≤ n → All (IsSlimJustification n) (node_justifications first id ts levels)
nodes_slim n first id [] levels low high known few = All-nil (IsSlimJustification n)
nodes_slim n first id (t ∷ ts) [] low high known few = All-nil (IsSlimJustification n)
nodes_slim n first id (t ∷ ts) (nodes ∷ levels) low high known few =
    let count = sum_by-cons (length {A = Interval}) nodes levels in
    let later = All-tail (λ (w : Weighted). IsVariable w.lit.var) t ts known in
    let most : ℕ = id + 2 * length nodes + 2 * node_count levels in
    let has : HasIds most (below_of first id nodes levels) = record { within = omega (arith, head_le levels); fits = omega (arith, high, count) } in
    All-append (IsSlimJustification n) (level_justifications t ts (below_of first id nodes levels) first id nodes) (node_justifications (first + length nodes) (id + 2 * length nodes) ts levels)
    (level_slim n most t ts (below_of first id nodes levels) has (All-head (λ (w : Weighted). IsVariable w.lit.var) t ts known) later (omega (arith, few)) first id nodes low (omega arith))
    (nodes_slim n (first + length nodes) (id + 2 * length nodes) ts levels (omega (arith, low)) (omega (arith, high, count)) later (omega (arith, few)))

-- ---- the whole

module _ (m : BoundedSum) (proper : IsProper m) (light : weight m.terms < 2 ^ 100) (first own next : ℕ) (original : AreOriginal first m.terms) (start : MayStart first (diagram_fresh m) own next) where
  abbrev ts : List Weighted
  ts = m.terms

  abbrev n : ℕ
  n = length m.terms

  abbrev fresh : ℕ
  fresh = diagram_fresh m

  abbrev ms : List Reification
  ms = node_reifications first m.terms (levels_of m)

  abbrev rs : List Justification
  rs = justifications_over m.terms (levels_of m) first next own

  room : first + diagram_fresh m ≤ 2 ^ 31
  room = start.fits

  few : next ≤ 2 ^ 61
  few = start.few

  variables : All (λ w. IsVariable w.lit.var) m.terms
  variables = All-weaker (λ (w : Weighted). (1 ≤ w.lit.var) × (w.lit.var < first)) (λ (w : Weighted). IsVariable w.lit.var) (λ w h. (h.0, (let small : w.lit.var < 2 ^ 31 = omega (arith, h.1, room) in small))) ts original

  below : VarsBelow first m.terms
  below = All-weaker (λ (w : Weighted). (1 ≤ w.lit.var) × (w.lit.var < first)) (λ (w : Weighted). w.lit.var < first) (λ w h. h.1) ts original

  justifications_slim : All (IsSlimJustification (length m.terms)) (justifications_over m.terms (levels_of m) first next own)
  justifications_slim =
      let given = start.given in
      let known = start.known in
      let own_is : IsId own = (given, (let small : own < 2 ^ 63 = omega (arith, known, few) in small)) in
      let top_is : IsId (next + 1) = ((let low : 1 ≤ next + 1 = omega arith in low), (let high : next + 1 < 2 ^ 63 = omega (arith, few) in high)) in
      All-append (IsSlimJustification n) (node_justifications first next ts (levels_of m)) (top_justification first next own ∷ [])
      (nodes_slim n first next ts (levels_of m) (omega (arith, known)) (omega (arith, few, room)) variables (omega arith))
      (All-cons (IsSlimJustification n) (top_justification first next own) []
      (record { some = λ e. cc; two = omega arith; ids = two_ids (next + 1) own top_is own_is; variables = All-nil IsVariable; few = omega arith }) (All-nil (IsSlimJustification n)))

  reifications_slim : All IsSlimReification (node_reifications first m.terms (levels_of m))
  reifications_slim =
      let low = start.low in
      row_slim first ms (nodes_row first ts (levels_of m)) low (omega (arith, count_reifications m first, room)) (reifications_reached m proper light first below)
      (nodes_terms IsSlimTerm first ts (levels_of m) (slim_terms ts (omega (arith, light)) variables))

  count_claims : length (map by_justification (justifications_over m.terms (levels_of m) first next own)) ≡ diagram_size m
  count_claims = omega (arith, length-map (map by_justification rs) (λ (c : Claim). c.clause), ap length (clauses_are m first next own), diagram_counts m first)

  -- two clauses for each node, and the root's
  size_small : diagram_size m ≤ 2 * diagram_fresh m + 1
  size_small = omega (arith, inner-le m.terms (levels_of m))

  pub diagram_sayable : All IsSayable (diagram_steps m first own next)
  diagram_sayable =
      let known = start.known in
      phases_sayable next ms (map by_justification rs) (omega (arith, known)) (omega (arith, count_reifications m first, count_claims, size_small, room, few)) reifications_slim (justifications_sayable n rs justifications_slim)

  pub diagram_short : length m.terms ≤ 2 ^ 21 → AreShort (length m.terms) (diagram_fresh m) (diagram_size m) (diagram_steps m first own next)
  diagram_short narrow =
      let count = count_reifications m first in
      let gone = gone_few n (length ms + 1) rs justifications_slim (omega (arith, length-map rs by_justification, count_claims, size_small, count)) in
      let short = justifications_short n next ms rs diagram_sayable narrow (nodes_few n first ts (levels_of m) (omega arith)) justifications_slim gone in
      let steps : List Step = diagram_steps m first own next in
      subst (λ (k : ℕ). AreShort n fresh k steps) count_claims (subst (λ (k : ℕ). AreShort n k (length (map by_justification rs)) steps) count short)
