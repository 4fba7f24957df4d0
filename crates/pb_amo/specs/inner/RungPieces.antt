-- The steps of a ladder as the code that hands them over has their parts.
use Rattle.std.specs.Prelude.{◌≡◌, ℕ, ◌-◌, ◌*◌, List, [], ◌∷◌, length, refl, count_by}
use Rattle.pb_base.specs.declared.literal.Lit.{Lit}
use Rattle.pb_norm.specs.Constraints.{weights}
use Rattle.pb_norm.specs.Reduction.{lits_of}
use Rattle.pb_steps.specs.Steps.{takes_id}
use Rattle.pb_steps.specs.declared.step.Step.{Step}
use Rattle.pb_derive.specs.Claims.{claim_steps}
use Rattle.pb_derive.specs.Reifications.{reification_steps}
use Rattle.pb_family.proofs.Sequence.{reification_ids}
use Rattle.pb_amo.specs.LadderSteps.{rung, front_line, fronts_at, place_claim}
use Rattle.pb_amo.specs.inner.LadderOrder.{place_at}
use Rattle.pb_amo.specs.declared.rung_parts.RungKind.{RungKind}
use Rattle.pb_amo.specs.declared.rung_parts.RungKind.TheVariants.{Meanings, Fronts, Clauses}
use Rattle.pb_amo.specs.declared.rung_steps.RungSteps.{RungSteps}

abbrev pub literals_of : RungSteps → List Lit
literals_of s = lits_of (weights s.rungs.terms.now)

abbrev pub rung_count : RungKind → RungSteps → ℕ
rung_count Meanings s = length s.rungs.terms.now - 1
rung_count Fronts s = length s.rungs.terms.now - 1
rung_count Clauses s = 3 * length s.rungs.terms.now - 4

abbrev pub rung_width : RungKind → ℕ
rung_width Meanings = 2
rung_width Fronts = 1
rung_width Clauses = 1

abbrev pub rung_piece : RungKind → RungSteps → ℕ → ℕ → List Step
rung_piece Meanings s next k = reification_steps next (rung (literals_of s) s.rungs.first k ∷ [])
rung_piece Fronts s next k = front_line s.id s.base (fronts_at (length s.rungs.terms.now) s.base) k ∷ []
rung_piece Clauses s next k = claim_steps next (place_claim (literals_of s) s.rungs.first s.base (place_at (length s.rungs.terms.now) k) ∷ [])

pub rung_piece_ids : (kind : RungKind) (s : RungSteps) (next k : ℕ) → count_by takes_id (rung_piece kind s next k) ≡ rung_width kind
rung_piece_ids Meanings s next k = reification_ids next (rung (literals_of s) s.rungs.first k)
rung_piece_ids Fronts s next k = refl
rung_piece_ids Clauses s next k = refl
