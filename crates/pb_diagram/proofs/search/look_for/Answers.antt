use Rattle.std.proofs.Common.{rules}
use Rattle.pb_diagram.proofs.search.look_for.Goals as goal

pub returns-in-Some-on_side : goal.returns-in-Some-on_side
returns-in-Some-on_side c = search rules
