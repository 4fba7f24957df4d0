use Rattle.std.proofs.Common.{◌∙◌}
use Rattle.pb_encode.specs.Weighted.{weighted_text}
use Rattle.pbcnf_c.proofs.Endings.{put, wants}
use Rattle.pbcnf_c.proofs.weighing.put_wcnf.Goals as goal

pub returns-in_default : goal.returns-in_default
returns-in_default c = wants (weighted_text c.args.ready.now.options c.args.ready.now.problem) c.args.ready.now c.args.wcnf.now _ _ c.stopped.ensures.outcome c.stopped.ensures.size

pub returns-in-Ok-weighted_text : goal.returns-in-Ok-weighted_text
returns-in-Ok-weighted_text c =
    let r = c.args.ready.now in
    put (weighted_text r.options r.problem) c.as_slice.result.now r c.args.wcnf.now c.delivered.new.room _ _ c.requires (c.as_slice.ensures.value ∙ c.in-Ok-weighted_text.ensures) c.delivered.ensures.room c.delivered.ensures.size

pub returns : goal.returns
returns c = wants (weighted_text c.args.ready.now.options c.args.ready.now.problem) c.args.ready.now c.args.wcnf.now _ _ c.stopped-in-Err.ensures.outcome c.stopped-in-Err.ensures.size
