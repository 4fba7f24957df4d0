use Rattle.pbcnf_c.specs.Choices.{bound_of}
use Rattle.pbcnf_c.specs.Decodings.{IsSolutionOf, StopsDecoding}
use Rattle.pbcnf_c.proofs.Decoded.{decoded_of, not_modelled, not_read}
use Rattle.pbcnf_c.proofs.Endings.{stops_as}
use Rattle.pbcnf_c.proofs.decoding.decode_into.Goals as goal

pub returns-in-Err : goal.returns-in-Err
returns-in-Err c =
    let bound = bound_of c.args.bound.now in
    stops_as (IsSolutionOf bound c.args.opb.now c.args.answer.now) (StopsDecoding bound c.args.opb.now c.args.answer.now) 0 c.args.room.now _ _ c.in-Err.outcome
    (not_read bound c.bound_of.result c.args.opb.now c.args.answer.now c.in-Err.outcome c.bound_of.ensures c.in-Err.ensures.stopped) c.silent.ensures.outcome c.silent.ensures.length

pub returns-in-Ok-read_model : goal.returns-in-Ok-read_model
returns-in-Ok-read_model c =
    decoded_of (bound_of c.args.bound.now) c.bound_of.result c.args.opb.now c.args.answer.now c.in-Ok.problem c.in-Ok-read_model.model c.args.room.now c.conclude.new.room _ _ c.bound_of.ensures c.in-Ok.ensures.denotes c.in-Ok-read_model.ensures.says c.conclude.ensures

pub returns : goal.returns
returns c =
    let bound = bound_of c.args.bound.now in
    stops_as (IsSolutionOf bound c.args.opb.now c.args.answer.now) (StopsDecoding bound c.args.opb.now c.args.answer.now) 0 c.args.room.now _ _ c.model_refusal.result
    (not_modelled bound c.bound_of.result c.args.opb.now c.args.answer.now c.in-Ok.problem c.in-Err-read_model.fault c.model_refusal.result c.bound_of.ensures c.in-Ok.ensures.denotes c.in-Err-read_model.ensures.fault c.model_refusal.ensures) c.silent-in-Err-read_model.ensures.outcome c.silent-in-Err-read_model.ensures.length
