-- What is so on the way to an optimum. It serves proofs.
use Rattle.std.specs.Prelude.{◌≡◌, false}
use Rattle.pb_base.specs.declared.problem.Problem.{Problem}
use Rattle.pb_desk.specs.Desk.{DeskState}
use Rattle.pb_model.specs.declared.model.Model.{Model}
use Rattle.pb_words.specs.OptimumWords.{OptimumWords}
use Rattle.pb_suite.specs.CommandSpec.{Shelf}
use Rattle.pb_suite.specs.DecodeSpec.{IsAnswered}
use Rattle.pb_suite.specs.OptimumSpec.{decoding_of, HasAim}

-- the slots of the texts that are to refute are closed
pub record HasFree (desk : DeskState) : Type 0 where
  pub cnf : desk.view.reading 1 ≡ false
  pub proof : desk.view.reading 2 ≡ false
  pub lrat : desk.view.reading 3 ≡ false

-- there is a problem with an objective, and the solver's text tells this model
pub record IsAimedAt (shelf : Shelf) (w : OptimumWords) (p : Problem) (m : Model) : Type 0 where
  pub aim : HasAim shelf w p
  pub answered : IsAnswered shelf (decoding_of w) p m
