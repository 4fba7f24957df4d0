-- What is so of a text that denotes a problem.
use Rattle.std.proofs.Common.{◌≡◌, ◌≤◌, ◌<◌, ◌^◌, ◌∙◌, List, ℕ, ℤ, Option, Some, None, ap, arith, subst, sym}
use Rattle.std.specs.Prelude.{◌⊎◌, IfSome}
use Rattle.std.specs.Option.{option_map_or}
use Rattle.pb_base.specs.declared.file.File.TheVariants.{Opb}
use Rattle.pb_base.specs.declared.limit.LimitKind.TheVariants.{Weight}
use Rattle.pb_base.specs.declared.problem.Problem.{Problem}
use Rattle.pb_base.specs.Problems.{IsWithinLimits}
use Rattle.pb_desk.specs.Desk.{DeskState, IfTold}
use Rattle.pb_opb.specs.Bounded.{bound_weight, bounded}
use Rattle.pb_opb.specs.declared.fault.OpbFault.TheVariants as opb
use Rattle.pb_opb.proofs.BoundedLemmas.{bounded_within, reads_few}
use Rattle.pb_opb.proofs.Bounds.{reads-within}
use Rattle.pb_opb.proofs.Reading.{reads-no_fault, says_one}
use Rattle.pb_suite.specs.declared.outcome.Outcome.{Outcome}
use Rattle.pb_suite.specs.declared.outcome.Outcome.TheVariants as outcome
use Rattle.pb_suite.specs.Outputs.{nothing}
use Rattle.pb_suite.specs.Denoted.{IsDenoted, Denotes}
use Rattle.pb_suite.specs.Refusals.{RefusesOpb}
use Rattle.pb_suite.specs.Refusals.RefusesOpb.{token, limit, heavy}
use Rattle.pb_suite.specs.inner.Runs.{HasText, RefusesFile}
use Rattle.pb_suite.specs.inner.Runs.RefusesFile.{token as at_token, limit as at_limit}
use Rattle.pb_suite.proofs.Going.{shelf_is_if, Goes}
use Rattle.pb_suite.proofs.Texts.{told_more}

-- the problem keeps the limits
pub denotes_within : (bound : Option ℤ) (text : List ℕ) (p : Problem) → Denotes bound text p → IsWithinLimits p
denotes_within bound text p denotes = subst IsWithinLimits (sym denotes.is) (by_bound bound denotes.light)
  where
    within : IsWithinLimits denotes.plain
    within = reads-within text denotes.plain denotes.reads

    by_bound : (o : Option ℤ) → IfSome o (λ b. bound_weight denotes.plain b < 2 ^ 100) → IsWithinLimits (option_map_or (bounded denotes.plain) o denotes.plain)
    by_bound None light = within
    by_bound (Some b) light = bounded_within denotes.plain b within (reads_few text denotes.plain denotes.reads) light

-- it is the only one
pub denotes_one : (bound : Option ℤ) (text : List ℕ) (p q : Problem) → Denotes bound text p → Denotes bound text q → p ≡ q
denotes_one bound text p q denotes other = denotes.is ∙ ap (λ (q : Problem). option_map_or (bounded q) bound q) (says_one text denotes.plain other.plain denotes.reads.says other.reads.says) ∙ sym other.is

-- and the text is not refused
pub denotes_unrefused : (bound : Option ℤ) (text : List ℕ) (p : Problem) (answer : Outcome) → Denotes bound text p → RefusesOpb bound text answer → ⊥
denotes_unrefused bound text p _ denotes (token place e first) = let no : opb.Token place e ≡ opb.NoMemory = reads-no_fault text denotes.plain (opb.Token place e) denotes.reads first in cc
denotes_unrefused bound text p _ denotes (limit place which first) = let no : opb.Limit place which ≡ opb.NoMemory = reads-no_fault text denotes.plain (opb.Limit place which) denotes.reads first in cc
denotes_unrefused bound text p _ denotes (heavy q b given reads weight) =
    let same : q ≡ denotes.plain = says_one text q denotes.plain reads.says denotes.reads.says in
    let light : bound_weight denotes.plain b < 2 ^ 100 = subst (λ (o : Option ℤ). IfSome o (λ c. bound_weight denotes.plain c < 2 ^ 100)) given denotes.light in
    let much : 2 ^ 100 ≤ bound_weight denotes.plain b = subst (λ (r : Problem). 2 ^ 100 ≤ bound_weight r b) same weight in
    omega (arith, light, much)

-- ---- a refusal

-- why a text is given up: memory was wanting, or it is refused
abbrev pub GivenUp : Option ℤ → List ℕ → Outcome → Type 0
GivenUp bound text answer = (answer ≡ outcome.NoMemory) ⊎ RefusesOpb bound text answer

pub opb_refused : (bound : Option ℤ) (text : List ℕ) (answer : Outcome) → RefusesOpb bound text answer → RefusesFile Opb answer
opb_refused bound text _ (token place e first) = at_token place e
opb_refused bound text _ (limit place which first) = at_limit place which
opb_refused bound text _ (heavy q b given reads weight) = at_limit None Weight

pub opb_no_read_fault : (bound : Option ℤ) (text : List ℕ) (answer : Outcome) → RefusesOpb bound text answer → answer ≡ outcome.ReadFault → ⊥
opb_no_read_fault bound text _ (token place e first) is = cc
opb_no_read_fault bound text _ (limit place which first) is = cc
opb_no_read_fault bound text _ (heavy q b given reads weight) is = cc

-- ---- on a desk

-- a problem that was read
pub denoted_by : (name : List ℕ) (bound : Option ℤ) (p : Problem) {few : ℕ} (a b : DeskState) → Goes few nothing a b → HasText name (λ text. Denotes bound text p) a → IfTold b (λ t. IsDenoted t.shelf name bound p)
denoted_by name bound p a b goes denotes =
    shelf_is_if a b goes (λ shelf. IsDenoted shelf name bound p)
    (told_more a (λ t. (text : List ℕ) × (t.shelf name ≡ Some text) × Denotes bound text p) (λ t. IsDenoted t.shelf name bound p) (λ t found. record { text = found.0; on_shelf = found.1; denotes = found.2 }) denotes)
