-- A ladder's clauses and derivation, one number after another.
use Rattle.std.proofs.Common.{◌≡◌, ◌≤◌, ◌+◌, ◌-◌, ◌*◌, ◌∙◌, ◌++◌, ℕ, zero, suc, List, [], ◌∷◌, map, length, ap, sym, arith, append_assoc, append-nil}
use Rattle.std.specs.List.{range_with_len}
use Rattle.pb_base.specs.declared.literal.Lit.{Lit}
use Rattle.pb_base.specs.declared.literal.Term.{Term}
use Rattle.pb_norm.specs.Constraints.{weights}
use Rattle.pb_norm.specs.Reduction.{lits_of}
use Rattle.pb_steps.specs.declared.step.Step.{Step}
use Rattle.pb_derive.specs.Claims.{claim_steps}
use Rattle.pb_derive.specs.Deletions.{deletion_steps}
use Rattle.pb_derive.specs.Ones.{unit_of}
use Rattle.pb_derive.specs.Reifications.{reification_steps}
use Rattle.pb_family.specs.Derivations.{in_turn, meant}
use Rattle.pb_family.specs.Fresh.{literal_at, fresh_at}
use Rattle.pb_family.proofs.Sequence.{reification_pieces, claim_pieces, one_each}
use Rattle.pb_family.proofs.TermSlices.{literal_count}
use Rattle.pb_amo.specs.declared.rung_parts.RungPart.{RungPart}
use Rattle.pb_amo.specs.declared.rung_parts.RungKind.TheVariants.{Meanings, Fronts, Clauses}
use Rattle.pb_amo.specs.declared.rung_steps.RungSteps.{RungSteps}
use Rattle.pb_amo.specs.Ladder.{ladder_clauses}
use Rattle.pb_amo.specs.LadderSteps.{rung, rungs, front_line, fronts_at, clause_at, places, place_claim, ladder_steps}
use Rattle.pb_amo.specs.inner.LadderOrder.{place_at}
use Rattle.pb_amo.specs.inner.RungPieces.{literals_of, rung_count, rung_width, rung_piece}
use Rattle.pb_amo.specs.laws.LadderPlaces.{ladder_by_places, order_map}

pub clauses_by_number : (ts : List Term) (first : ℕ) → map (λ (k : ℕ). clause_at (lits_of (weights ts)) first (place_at (length ts) k)) (range_with_len 0 (3 * length ts - 4)) ≡ ladder_clauses (lits_of (weights ts)) first
clauses_by_number ts first =
    let ms = lits_of (weights ts) in
    sym (order_map (clause_at ms first) (length ts)) ∙ ap (λ (n : ℕ). map (clause_at ms first) (places n)) (sym (literal_count ts)) ∙ ladder_by_places ms first

-- a variable that is not the last, by the literal and the variable of the next place
pub rung_same : (ts : List Term) (first number next : ℕ) (y l z : Lit) → 1 ≤ number → y ≡ fresh_at first (length ts - 2 - number) → l ≡ literal_at (lits_of (weights ts)) (length ts - 1 - number) → z ≡ fresh_at first (length ts - 2 - (number - 1))
    → meant next y.var (unit_of l ∷ unit_of z ∷ []) 1 ≡ reification_steps next (rung (lits_of (weights ts)) first number ∷ [])
rung_same ts first zero next y l z some is one other = absurd (omega (arith, some))
rung_same ts first (suc j) next y l z some is one other =
    let size : length ts ≡ length (lits_of (weights ts)) = sym (literal_count ts) in
    let before : suc j - 1 ≡ j = omega arith in
    λ x. meant next ((ap (λ (k : Lit). k.var) is ∙ ap (λ (n : ℕ). first + (n - 2 - suc j)) size) x)
    (unit_of ((one ∙ ap (λ (n : ℕ). literal_at (lits_of (weights ts)) (n - 1 - suc j)) size) x) ∷ unit_of ((other ∙ (λ i. fresh_at first (size i - 2 - before i))) x) ∷ []) 1

-- ---- the parts

abbrev pub parts_of : RungSteps → List RungPart
parts_of s = record { steps = s; kind = Meanings } ∷ record { steps = s; kind = Fronts } ∷ record { steps = s; kind = Clauses } ∷ []

abbrev pub parts_steps : RungSteps → ℕ → List Step
parts_steps s next = in_turn (λ (p : RungPart). rung_count p.kind p.steps) (λ (p : RungPart). rung_width p.kind) (λ (p : RungPart). rung_piece p.kind p.steps) next (parts_of s)

regroup : (ps qs rs ss : List Step) → (ps ++ (qs ++ (rs ++ []))) ++ ss ≡ (ps ++ qs) ++ (rs ++ ss)
regroup ps qs rs ss =
    ap (λ (xs : List Step). (ps ++ (qs ++ xs)) ++ ss) (append-nil rs) ∙ ap (λ (xs : List Step). xs ++ ss) (sym (append_assoc ps qs rs)) ∙ append_assoc (ps ++ qs) rs ss

-- and what goes at the end
pub ladder_in_parts : (s : RungSteps) (next : ℕ) → s.base ≡ next → parts_steps s next ++ deletion_steps 3 s.base (length s.rungs.terms.now - 1) ≡ ladder_steps (weights s.rungs.terms.now) s.rungs.first s.id next
ladder_in_parts s next is =
    let ts : List Term = s.rungs.terms.now in
    let ms : List Lit = literals_of s in
    let first : ℕ = s.rungs.first in
    let n : ℕ = length ts in
    let size : n ≡ length ms = sym (literal_count ts) in
    let start : next + 2 * (n - 1) + 1 * (n - 1) ≡ next + 3 * (n - 1) = omega arith in
    let meanings : List Step = reification_steps next (map (rung ms first) (range_with_len 0 (n - 1))) in
    let fronts : List Step = map (front_line s.id s.base (fronts_at n s.base)) (range_with_len 0 (n - 1)) in
    let clauses : List Step = claim_steps (next + 3 * (n - 1)) (map (place_claim ms first s.base) (places n)) in
    (λ x. (sym (reification_pieces (rung ms first) next 0 (n - 1)) x
    ++ (one_each (front_line s.id s.base (fronts_at n s.base)) (next + 2 * (n - 1)) 0 (n - 1) x
    ++ ((sym (claim_pieces (λ k. place_claim ms first s.base (place_at n k)) (next + 2 * (n - 1) + 1 * (n - 1)) 0 (3 * n - 4)) ∙ (λ y. claim_steps (start y) (sym (order_map (place_claim ms first s.base) n) y))) x ++ [])))
    ++ deletion_steps 3 s.base (n - 1))
    ∙ regroup meanings fronts clauses (deletion_steps 3 s.base (n - 1))
    ∙ (λ x. (reification_steps next (map (rung ms first) (range_with_len 0 (size x - 1))) ++ map (front_line s.id (is x) (fronts_at (size x) (is x))) (range_with_len 0 (size x - 1)))
    ++ (claim_steps (next + 3 * (size x - 1)) (map (place_claim ms first (is x)) (places (size x))) ++ deletion_steps 3 (is x) (size x - 1)))
