use Rattle.std.proofs.Common.{refl}
use Rattle.pbcnf_c.specs.Checks.Refutes.{no_memory}
use Rattle.pbcnf_c.proofs.Checked.{refuted_files}
use Rattle.pbcnf_c.proofs.checking.refute_texts.Goals as goal

pub returns-in-Ok : goal.returns-in-Ok
returns-in-Ok c = refuted_files _ c.in-Ok.shelf c.args.opb.now c.args.cnf.now c.args.proof.now c.args.lrat.now c.refute_shelf.result c.in-Ok.ensures refl refl refl refl c.refute_shelf.ensures.refutes c.refute_shelf.ensures.answers

pub returns-in-Err : goal.returns-in-Err
returns-in-Err c = no_memory
