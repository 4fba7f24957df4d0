-- How the clauses of a ladder are derived (our own). Places count from 0. The last variable is given its meaning first, and each other one by
-- that of the next place.
use Rattle.std.specs.Prelude.{ℕ, zero, suc, ◌+◌, ◌-◌, ◌*◌, List, [], ◌∷◌, ◌++◌, map, length}
use Rattle.std.specs.List.{range_with_len}
use Rattle.pb_base.specs.declared.literal.Lit.{Lit}
use Rattle.pb_norm.specs.Constraints.{Weighted}
use Rattle.pb_norm.specs.Reduction.{lits_of}
use Rattle.pb_steps.specs.declared.step.Step.{Step}
use Rattle.pb_steps.specs.declared.step.Step.TheVariants.{Pol}
use Rattle.pb_derive.specs.Claims.{Claim, claim_steps}
use Rattle.pb_derive.specs.Deletions.{deletion_steps}
use Rattle.pb_derive.specs.Justifications.{adding}
use Rattle.pb_derive.specs.Ones.{ones}
use Rattle.pb_derive.specs.Reifications.{Reification, reification_steps}
use Rattle.pb_derive.specs.Rups.{by_rup}
use Rattle.pb_family.specs.Fresh.{literal_at, fresh_at}
use Rattle.pb_amo.specs.Ladder.{link, none_after, some_after}
use Rattle.pb_amo.specs.declared.rung.Place.{Place}
use Rattle.pb_amo.specs.declared.rung.Place.TheVariants.{Link, NoneAfter, SomeAfter}

-- ---- what the variables mean, counted from the last one

-- the variable of the next place, if there is one
abbrev pub next_bit : ℕ → ℕ → ℕ → List Lit
next_bit first n zero = []
next_bit first n (suc i) = fresh_at first (n - 2 - i) ∷ []

-- the literal at the next place, and that variable, for all that stand behind
abbrev pub behind : List Lit → ℕ → ℕ → List Lit
behind ms first i = literal_at ms (length ms - 1 - i) ∷ next_bit first (length ms) i

-- one of them is true
abbrev pub rung : List Lit → ℕ → ℕ → Reification
rung ms first i = record { var = first + (length ms - 2 - i); sum = ones (behind ms first i); least = 1 }

-- ---- at most one of the literals up to a place, and its variable, is true: by the same of the next place, which is the constraint of all

abbrev pub front_before : ℕ → ℕ → ℕ → ℕ
front_before id fronts zero = id
front_before id fronts (suc i) = fronts + i

abbrev pub front_line : ℕ → ℕ → ℕ → ℕ → Step
front_line id base fronts i = Pol (adding (front_before id fronts i ∷ (base + 2 * i) ∷ []))

abbrev pub fronts_at : ℕ → ℕ → ℕ
fronts_at n base = base + 2 * (n - 1)

-- ---- the clauses

-- the clause at a place
abbrev pub clause_at : List Lit → ℕ → Place → List Lit
clause_at ms first (Link k) = link first k
clause_at ms first (NoneAfter k) = none_after ms first k
clause_at ms first (SomeAfter k) = some_after ms first k

-- all places, of so many literals
abbrev pub places : ℕ → List Place
places n = map Link (range_with_len 0 (n - 2)) ++ (map NoneAfter (range_with_len 0 (n - 1)) ++ map SomeAfter (range_with_len 0 (n - 1)))

-- the constraint that it follows from: what its variable means where it is false, or the front
abbrev pub source_at : ℕ → ℕ → Place → ℕ
source_at n base (Link k) = base + 2 * (n - 2 - k) + 1
source_at n base (NoneAfter k) = fronts_at n base + (n - 2 - k)
source_at n base (SomeAfter k) = base + 2 * (n - 2 - k) + 1

abbrev pub place_claim : List Lit → ℕ → ℕ → Place → Claim
place_claim ms first base p = by_rup (source_at (length ms) base p ∷ []) (clause_at ms first p)

-- ---- all of it

abbrev pub rungs : List Lit → ℕ → List Reification
rungs ms first = map (rung ms first) (range_with_len 0 (length ms - 1))

abbrev pub front_lines : ℕ → ℕ → ℕ → List Step
front_lines n id base = map (front_line id base (fronts_at n base)) (range_with_len 0 (n - 1))

abbrev pub ladder_claims : List Lit → ℕ → ℕ → List Claim
ladder_claims ms first base = map (place_claim ms first base) (places (length ms))

abbrev pub steps_of : List Lit → ℕ → ℕ → ℕ → List Step
steps_of ms first id next =
    (reification_steps next (rungs ms first) ++ front_lines (length ms) id next)
    ++ (claim_steps (next + 3 * (length ms - 1)) (ladder_claims ms first next) ++ deletion_steps 3 next (length ms - 1))

abbrev pub ladder_steps : List Weighted → ℕ → ℕ → ℕ → List Step
ladder_steps ts first id next = steps_of (lits_of ts) first id next
