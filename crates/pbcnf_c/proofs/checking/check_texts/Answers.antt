use Rattle.std.proofs.Common.{refl}
use Rattle.pbcnf_c.specs.Checks.Checks.{no_memory}
use Rattle.pbcnf_c.proofs.Checked.{checked_files}
use Rattle.pbcnf_c.proofs.checking.check_texts.Goals as goal

pub returns-in-Ok : goal.returns-in-Ok
returns-in-Ok c = checked_files _ c.in-Ok.shelf c.args.opb.now c.args.cnf.now c.args.proof.now c.check_shelf.result c.in-Ok.ensures refl refl refl c.check_shelf.ensures

pub returns-in-Err : goal.returns-in-Err
returns-in-Err c = no_memory
