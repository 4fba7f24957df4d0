use Rattle.std.proofs.Common.{refl}
use Rattle.pb_suite.specs.Programs.AnswersSome.{usage, no_memory}
use Rattle.pb_suite.proofs.Programs.{answers_some}
use Rattle.pb_suite.proofs.SeenLemmas.{stays_same}
use Rattle.pb_suite.proofs.program.run_given.Goals as goal

pub returns-in-Err-clause-answers : goal.returns-in-Err-clause-answers
returns-in-Err-clause-answers g c = no_memory refl

pub returns-in-Err-2-clause-answers : goal.returns-in-Err-2-clause-answers
returns-in-Err-2-clause-answers g c = usage refl

pub returns-in_default-clause-answers : goal.returns-in_default-clause-answers
returns-in_default-clause-answers g c = no_memory refl

pub returns-clause-answers : goal.returns-clause-answers
returns-clause-answers g c = let does = c.run.ensures.implements in answers_some does.derive does.accepted _ _ _ _ does.implements c.run.ensures.taken c.run.ensures.unmoved

pub returns-in-Err-clause-stays : goal.returns-in-Err-clause-stays
returns-in-Err-clause-stays g c = stays_same (g.D.Desk.state c.args.desk.now)

pub returns-in-Err-2-clause-stays : goal.returns-in-Err-2-clause-stays
returns-in-Err-2-clause-stays g c = stays_same (g.D.Desk.state c.args.desk.now)

pub returns-in_default-clause-stays : goal.returns-in_default-clause-stays
returns-in_default-clause-stays g c = stays_same (g.D.Desk.state c.args.desk.now)
