use Rattle.std.proofs.Common.{refl}
use Rattle.pb_files.specs.inner.PieceLaws.{all_by_pieces}
use Rattle.pbcnf.proofs.OverFiles.{exits_over}
use Rattle.pbcnf.proofs.over_files.run_over.Goals as goal

pub returns-clause-files : goal.returns-clause-files
returns-clause-files g c = exits_over _ _ _ _ _ _ refl refl refl refl _ _ _ c.run_program.ensures.exits

pub returns-clause-pieces : goal.returns-clause-pieces
returns-clause-pieces g c = let desk = c.run_program.new.desk in all_by_pieces (g.S.System.files desk.system) (g.S.System.calls desk.system) desk.moves
