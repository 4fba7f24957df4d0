use Rattle.std.proofs.Common.{refl, subst, sym}
use Rattle.pb_encode.specs.Bounds.{bound_rows}
use Rattle.pb_suite.specs.declared.outcome.Outcome.TheVariants as outcome
use Rattle.pbcnf_c.specs.Bounds.{TellRows}
use Rattle.pbcnf_c.specs.Put.{AreSizedRows, IsWanting}
use Rattle.pbcnf_c.specs.Sizes.{no_size}
use Rattle.pbcnf_c.proofs.Bounded.{put_rows}
use Rattle.pbcnf_c.proofs.Endings.{stops_as}
use Rattle.pbcnf_c.proofs.bounds.put_rows.Goals as goal

pub returns-in-Ok : goal.returns-in-Ok
returns-in-Ok c =
    let r = c.args.ready.now in
    put_rows r c.as_slice.result.now c.args.rows.now c.delivered.new.room _ _ c.requires (subst (TellRows (bound_rows r.options r.problem)) (sym c.as_slice.ensures.value) c.in-Ok.ensures) c.delivered.ensures.room c.delivered.ensures.size

pub returns-in-Err : goal.returns-in-Err
returns-in-Err c = stops_as (AreSizedRows c.args.ready.now) IsWanting no_size c.args.rows.now _ _ outcome.NoMemory refl c.stopped.ensures.outcome c.stopped.ensures.size
