use Rattle.std.proofs.Common.{subst}
use Rattle.pb_model.specs.declared.decoding.Decoded.{Decoded}
use Rattle.pb_model.specs.Decoding.{IsDecoded}
use Rattle.pb_suite.specs.declared.outcome.Outcome.TheVariants as outcome
use Rattle.pbcnf_c.specs.Decodings.{GivesNone, IsSolutionSaid}
use Rattle.pbcnf_c.specs.Decodings.GivesNone.{no_model, violated}
use Rattle.pbcnf_c.proofs.Decoded.{concluded}
use Rattle.pbcnf_c.proofs.Endings.{stops_as}
use Rattle.pbcnf_c.proofs.decoding.conclude.Goals as goal

pub returns-in-NoModel : goal.returns-in-NoModel
returns-in-NoModel c =
    let p = c.args.problem.now in
    let m = c.args.model.now in
    stops_as (IsSolutionSaid p m) (GivesNone p m) 0 c.args.room.now _ _ outcome.NoModel (no_model (subst (λ (d : Decoded). IsDecoded p m d) c.in-NoModel.is c.decode.ensures)) c.silent.ensures.outcome c.silent.ensures.length

pub returns-in-Violates : goal.returns-in-Violates
returns-in-Violates c =
    let p = c.args.problem.now in
    let m = c.args.model.now in
    let n = c.in-Violates.statement in
    stops_as (IsSolutionSaid p m) (GivesNone p m) 0 c.args.room.now _ _ (outcome.NotASolution n) (violated n (subst (λ (d : Decoded). IsDecoded p m d) c.in-Violates.is c.decode.ensures)) c.silent-in-Violates.ensures.outcome c.silent-in-Violates.ensures.length

pub returns-in-Solution : goal.returns-in-Solution
returns-in-Solution c =
    let p = c.args.problem.now in
    let m = c.args.model.now in
    concluded p m c.args.room.now c.put_solution.new.room _ _ (subst (λ (d : Decoded). IsDecoded p m d) c.in-Solution.is c.decode.ensures) c.put_solution.ensures
