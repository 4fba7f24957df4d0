use Rattle.std.proofs.Common.{◌≡◌, ◌++◌, ◌∙◌, ℕ, List, ap, refl}
use Rattle.pb_model.specs.SolutionText.{solution_text}
use Rattle.pb_suite.specs.declared.outcome.Outcome.TheVariants as outcome
use Rattle.pbcnf_c.specs.Decodings.{AreWords}
use Rattle.pbcnf_c.specs.Rooms.Ends.{made}
use Rattle.pbcnf_c.proofs.Endings.{stops_as}
use Rattle.pbcnf_c.proofs.decoding.put_solution.Goals as goal

pub returns-in-Ok : goal.returns-in-Ok
returns-in-Ok c =
    let text = c.as_slice.ensures.value ∙ c.in-Ok.ensures.ok ∙ ap (λ (start : List ℕ). start ++ solution_text c.args.problem.now c.args.model.now.values) c.new-text.ensures.items in
    made c.as_slice.result.now c.spoken.result.outcome (text, c.spoken.ensures.length) c.spoken.ensures.room

pub returns : goal.returns
returns c = stops_as (AreWords (solution_text c.args.problem.now c.args.model.now.values)) (λ a. a ≡ outcome.NoMemory) 0 c.args.room.now _ _ outcome.NoMemory refl c.silent.ensures.outcome c.silent.ensures.length
