use Rattle.std.proofs.Common.{◌≡◌, ◌++◌, drop, take}
use Rattle.pb_base.specs.Lines.{first_line}
use Rattle.pb_opb.proofs.first_line.first_line.Given as goal

abbrev pub invariant-loop-i : goal.invariant-loop-i
invariant-loop-i l = take l.i l.text ++ first_line (drop l.i l.text) ≡ first_line l.text
