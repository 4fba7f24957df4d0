use Rattle.pb_suite.specs.inner.Saying.EndsSaying.{whole, cut_off}
use Rattle.pb_suite.proofs.saying.say.Goals as goal

pub returns-in-Ok : goal.returns-in-Ok
returns-in-Ok g c = whole c.in-Ok.ensures.ok

pub returns-in-Err : goal.returns-in-Err
returns-in-Err g c = cut_off c.in-Err.ensures.failed c.in-Err.ensures.steady
