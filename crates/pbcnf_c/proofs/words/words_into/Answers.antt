use Rattle.std.proofs.Common.{◌∙◌, refl}
use Rattle.pbcnf_c.proofs.Worded.{no_words, not_known, wants, words_put}
use Rattle.pbcnf_c.proofs.words.words_into.Goals as goal

pub returns-in_default : goal.returns-in_default
returns-in_default c = no_words c.args.refusal.now c.args.room.now _ _ (not_known c.args.refusal.now c.without_blame.result _ c.without_blame.ensures (c.in_default.ensures.none refl) c.silent.ensures.outcome) c.silent.ensures.length

pub returns-in-Ok : goal.returns-in-Ok
returns-in-Ok c =
    words_put c.args.refusal.now c.without_blame.result c.in-Some.outcome c.blame_in.result _ c.args.room.now c.spoken.new.room _ _ c.without_blame.ensures c.in-Some.ensures.some c.blame_in.ensures (c.as_bytes.ensures.value ∙ c.in-Ok.ensures.ok) c.spoken.ensures.room c.spoken.ensures.length

pub returns-in-Err : goal.returns-in-Err
returns-in-Err c = no_words c.args.refusal.now c.args.room.now _ _ (wants c.args.refusal.now _ c.silent-in-Err.ensures.outcome) c.silent-in-Err.ensures.length
