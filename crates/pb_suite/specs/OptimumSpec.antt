-- The specification of a certified optimum: `optimum OPB MODEL CNF PROOF LRAT`. Our own.
use Rattle.std.specs.Prelude.{ℤ, ◌≡◌, ◌⊎◌, ◌-ℤ◌, pos, [], ◌∷◌, Some, None, IsSome}
use Rattle.pb_base.specs.declared.file.File.TheVariants.{Opb, Cnf, Proof, Lrat, Model as ModelText}
use Rattle.pb_base.specs.declared.problem.Problem.{Problem}
use Rattle.pb_lrat.specs.LratWalk.{LratEnding as ending}
use Rattle.pb_model.specs.declared.decoding.Decoded.TheVariants as decoded
use Rattle.pb_model.specs.declared.model.Model.{Model}
use Rattle.pb_model.specs.SolutionText.{optimum_text}
use Rattle.pb_opb.specs.Bounded.{objective_value}
use Rattle.pb_words.specs.DecodeWords.{DecodeWords}
use Rattle.pb_words.specs.OptimumWords.{OptimumWords}
use Rattle.pb_words.specs.RefuteWords.{RefuteWords}
use Rattle.pb_suite.specs.declared.outcome.Outcome.{Outcome}
use Rattle.pb_suite.specs.declared.outcome.Outcome.TheVariants as outcome
use Rattle.pb_suite.specs.Outputs.{only_words}
use Rattle.pb_suite.specs.CommandSpec.{CommandSpec, Ended, IsUnended, Shelf, Taken}
use Rattle.pb_suite.specs.DecodeSpec.{ComesTo, StopsDecode}
use Rattle.pb_suite.specs.Denoted.{IsDenoted}
use Rattle.pb_suite.specs.Refusals.{IsUnread, RefusesOpb}
use Rattle.pb_suite.specs.RefuteSpec.{IsFollowed, IsUnfollowed, StopsRefute}

-- the model is decoded beside the plain problem
abbrev pub decoding_of : OptimumWords → DecodeWords
decoding_of w = record { opb = w.opb; model = w.model; bound = None }

-- and the other texts are to refute it with this bound
abbrev pub refuting_of : OptimumWords → ℤ → RefuteWords
refuting_of w bound = record { checked = record { opb = w.opb; cnf = w.cnf; proof = w.proof; bound = Some bound }; lrat = w.lrat }

-- the greatest number below the value that the values give the objective
abbrev pub next_below : Problem → Model → ℤ
next_below p m = objective_value p m.values -ℤ pos 1

-- the text says a problem with an objective
pub record HasAim (shelf : Shelf) (w : OptimumWords) (p : Problem) : Type 0 where
  pub denoted : IsDenoted shelf w.opb None p
  pub aims : IsSome p.objective

-- and what a solver said is a solution of it
pub record IsReached (shelf : Shelf) (w : OptimumWords) (p : Problem) (m : Model) : Type 0 where
  pub aim : HasAim shelf w p
  pub comes : ComesTo shelf (decoding_of w) p m decoded.Solution

-- In the order of a run: the problem's text; that it has an objective; what stops the decoding of the solver's text; and behind a solution what stops a refutation of the problem with the bound one below its value: that the bound is too heavy, the CNF and the derivation, and the refutation.
pub data StopsOptimum (shelf : Shelf) (w : OptimumWords) : Outcome → Type 0 where
  unread : (answer : Outcome) → IsUnread shelf w.opb (RefusesOpb None) answer → StopsOptimum shelf w answer
  aimless : (p : Problem) → IsDenoted shelf w.opb None p → p.objective ≡ None → StopsOptimum shelf w outcome.NoObjective
  undecoded : (p : Problem) (answer : Outcome) → HasAim shelf w p → StopsDecode shelf (decoding_of w) answer → StopsOptimum shelf w answer
  unproved : (p : Problem) (m : Model) (answer : Outcome) → IsReached shelf w p m → StopsRefute shelf (refuting_of w (next_below p m)) answer → StopsOptimum shelf w answer

-- what is due: the values are a solution, and with the bound one below their value the problem is refuted
pub record IsProved (shelf : Shelf) (w : OptimumWords) (p : Problem) (m : Model) : Type 0 where
  pub reached : IsReached shelf w p m
  pub followed : IsFollowed shelf (refuting_of w (next_below p m)) ending.refuted

-- none of the texts that are to refute is open
abbrev pub IsUnbegun : OptimumWords → Taken → Type 0
IsUnbegun w taken = (taken 1 w.cnf ≡ None) × (taken 2 w.proof ≡ None) × (taken 3 w.lrat ≡ None)

-- the problem's text is read yet, or behind it the solver's, and no other is open; or there is a solution, and what was taken of the others leaves open whether they refute a better one
abbrev pub IsUnproved : Shelf → OptimumWords → Taken → Ended → Type 0
IsUnproved shelf w taken ended =
    (IsUnended 0 w.opb taken ended × IsUnbegun w taken × (taken 4 w.model ≡ None))
    ⊎ (((p : Problem) × HasAim shelf w p × IsUnbegun w taken × IsUnended 4 w.model taken ended)
    ⊎ ((p : Problem) × (m : Model) × IsReached shelf w p m × IsUnfollowed shelf (refuting_of w (next_below p m)) taken ended))

-- The texts stand by their reading slots, of which the first four are those of a refutation; the solver's is read second.
abbrev pub optimum_spec : OptimumWords → CommandSpec
optimum_spec w = record {
  texts = record { kind = Opb; name = w.opb } ∷ record { kind = Cnf; name = w.cnf } ∷ record { kind = Proof; name = w.proof } ∷ record { kind = Lrat; name = w.lrat } ∷ record { kind = ModelText; name = w.model } ∷ [];
  leaves_open = λ shelf taken ended. IsUnproved shelf w taken ended;
  stops = λ shelf answer. StopsOptimum shelf w answer;
  done = λ shelf out. (p : Problem) × (m : Model) × IsProved shelf w p m × (out ≡ only_words (optimum_text p m.values));
}
