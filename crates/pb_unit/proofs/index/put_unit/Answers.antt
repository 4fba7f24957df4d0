use Rattle.pb_unit.proofs.Sections.{unit_here, unit_elsewhere}
use Rattle.pb_unit.proofs.index.put_unit.Goals as goal

pub returns-clause-here : goal.returns-clause-here
returns-clause-here c = unit_here c.args.starts.now c.args.ends.now c.args.units.now c.args.number c.args.place c.requires.sections c.requires.known c.if-end-starts.false

pub returns-clause-others : goal.returns-clause-others
returns-clause-others c = unit_elsewhere c.args.starts.now c.args.ends.now c.args.units.now c.args.number c.args.place c.requires.sections c.requires.known c.if-end-starts.false
