use Rattle.pb_diagram.proofs.Children.{children_are_of_nodes}
use Rattle.pb_diagram.proofs.laws.children_are_of_nodes.Goals as goal

pub returns : goal.returns
returns c = children_are_of_nodes
