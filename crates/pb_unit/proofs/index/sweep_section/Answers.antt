use Rattle.std.proofs.Common.{◌∙◌}
use Rattle.pb_unit.proofs.Sections.{swept_elsewhere, length_part}
use Rattle.pb_unit.proofs.index.sweep_section.Goals as goal

pub returns-clause-others : goal.returns-clause-others
returns-clause-others c = swept_elsewhere c.args.starts.now c.args.ends.now c.args.units.now c.squeeze-count.new.units c.args.number c.squeeze-count.result c.requires.sections c.requires.known
    (c.squeeze-count.auto.units ∙ length_part c.args.starts.now c.args.ends.now c.args.units.now c.args.number c.requires.sections c.requires.known)
