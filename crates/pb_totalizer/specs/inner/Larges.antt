-- A large node as the code has it, by its numbers.
use Rattle.pb_totalizer.specs.declared.large_node.LargeNode.{LargeNode}
use Rattle.pb_totalizer.specs.inner.Windows.{Large}

abbrev pub large_of : LargeNode → Large
large_of n = record {
  row = n.row;
  inputs = n.inputs;
  left = n.left;
  right = n.right;
  own = n.own;
  cap = n.cap;
  left_narrows = n.left_narrows;
  right_narrows = n.right_narrows;
  left_others = n.left_others;
  right_others = n.right_others;
}
