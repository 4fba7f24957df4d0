-- The claims are of the diagram's clauses, in order.
use Rattle.std.proofs.Common.{◌≡◌, ◌+◌, ◌-◌, ◌*◌, ◌++◌, ℕ, Bool, true, false, cond, leb, ltb, List, [], ◌∷◌, length, map, refl, ap, ◌∙◌, arith}
use Rattle.std.specs.Prelude.{Option, None, Some}
use Rattle.std.specs.List.{position_or_len}
use Rattle.std.proofs.lemmas.List.{map-append, length-map}
use Rattle.pb_base.specs.declared.literal.Lit.{Lit}
use Rattle.pb_base.specs.Literals.{negated}
use Rattle.pb_norm.specs.Constraints.{Weighted, weight}
use Rattle.pb_derive.specs.Claims.{Claim}
use Rattle.pb_family.specs.Fresh.{positive_of}
use Rattle.pb_diagram.specs.declared.interval.Interval.{Interval}
use Rattle.pb_diagram.specs.Clauses.{false_clause, true_clause, level_clauses, head_level, node_clauses, node_count}
use Rattle.pb_diagram.specs.declared.node.Node.{Node}
use Rattle.pb_diagram.specs.GuardedSteps.{node_in, nodes_in, count_nodes, off_claims_by, off_claims, on_literals, on_claim, level_claims, all_claims}
use Rattle.pb_diagram.specs.Levels.{lies_in}
use Rattle.pb_diagram.specs.laws.RungFacts.{count-cons}
use Rattle.std.proofs.lemmas.List.Sums.{sum_by-cons}

abbrev pub clause_in : Claim → List Lit
clause_in c = c.clause

off-clauses : (b : Bool) (l : Lit) (q p id f : ℕ) (t : Option ℕ) → map clause_in (off_claims_by l q p id (cond {A = Option ℕ} b None (Some f)) t) ≡ cond {A = List (List Lit)} b [] ((negated (positive_of p) ∷ positive_of (q + f) ∷ []) ∷ [])
off-clauses true l q p id f t = refl
off-clauses false l q p id f t = refl

on-literals-by : (b : Bool) (q t : ℕ) → on_literals q (cond {A = Option ℕ} b None (Some t)) ≡ cond {A = List Lit} b [] (positive_of (q + t) ∷ [])
on-literals-by true q t = refl
on-literals-by false q t = refl

pub level-clauses : (t : Weighted) (whole q p id : ℕ) (next gs : List Interval) → map clause_in (level_claims t.lit q p id (map (node_in t.coef whole next) gs)) ≡ level_clauses t whole q next p gs
level-clauses t whole q p id next [] = refl
level-clauses t whole q p id next (g ∷ gs) =
    let n : Node = node_in t.coef whole next g in
    let rest : List Claim = level_claims t.lit q (p + 1) (id + 2) (map (node_in t.coef whole next) gs) in
    let off = off-clauses (leb whole g.low) t.lit q p id (position_or_len (lies_in g.low) next) n.on in
    let on = on-literals-by (ltb g.low t.coef) q (position_or_len (lies_in (g.low - t.coef)) next) in
    map-append clause_in (off_claims t.lit q p id n) (on_claim t.lit q p id n ∷ rest)
    ∙ ap (λ (cs : List (List Lit)). cs ++ ((negated (positive_of p) ∷ negated t.lit ∷ on_literals q n.on) ∷ map clause_in rest)) off
    ∙ ap (λ (ls : List Lit). false_clause whole q next p g ++ ((negated (positive_of p) ∷ negated t.lit ∷ ls) ∷ map clause_in rest)) on
    ∙ ap (λ (cs : List (List Lit)). false_clause whole q next p g ++ (true_clause t q next p g ∷ cs)) (level-clauses t whole q (p + 1) (id + 2) next gs)

pub all-clauses : (base p : ℕ) (ts : List Weighted) (levels : List (List Interval)) → map clause_in (all_claims base p ts (nodes_in ts levels)) ≡ node_clauses p ts levels
all-clauses base p [] levels = refl
all-clauses base p (t ∷ ts) [] = refl
all-clauses base p (t ∷ ts) (gs ∷ levels) =
    let ns : List Node = map (node_in t.coef (weight ts) (head_level levels)) gs in
    let q : ℕ = p + length ns in
    let same : p + length ns ≡ p + length gs = ap (λ (k : ℕ). p + k) (length-map gs (node_in t.coef (weight ts) (head_level levels))) in
    let here : List Claim = level_claims t.lit q p (base + 2 * count_nodes (nodes_in ts levels)) ns in
    let later : List Claim = all_claims base q ts (nodes_in ts levels) in
    map-append clause_in here later
    ∙ ap (λ (cs : List (List Lit)). cs ++ map clause_in later) (level-clauses t (weight ts) q p (base + 2 * count_nodes (nodes_in ts levels)) (head_level levels) gs)
    ∙ ap (λ (cs : List (List Lit)). level_clauses t (weight ts) q (head_level levels) p gs ++ cs) (all-clauses base q ts levels)
    ∙ ap (λ (k : ℕ). level_clauses t (weight ts) k (head_level levels) p gs ++ node_clauses k ts levels) same

pub count-nodes : (ts : List Weighted) (levels : List (List Interval)) → length ts ≡ length levels → count_nodes (nodes_in ts levels) ≡ node_count levels
count-nodes [] [] same = refl
count-nodes [] (gs ∷ levels) same = absurd (omega (arith, same))
count-nodes (t ∷ ts) [] same = absurd (omega (arith, same))
count-nodes (t ∷ ts) (gs ∷ levels) same =
    omega (
      arith,
      count-cons (map (node_in t.coef (weight ts) (head_level levels)) gs) (nodes_in ts levels),
      length-map gs (node_in t.coef (weight ts) (head_level levels)),
      sum_by-cons (length {A = Interval}) gs levels,
      count-nodes ts levels (omega (arith, same)),
    )
