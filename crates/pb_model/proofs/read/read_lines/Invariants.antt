use Rattle.std.proofs.Common.{◌≤◌, ◌+◌, [], length}
use Rattle.pb_desk.specs.Lines.{lines_of}
use Rattle.pb_model.specs.ModelLines.{symbols_from, symbols_of}
use Rattle.pb_model.proofs.Going.{GoesOn}
use Rattle.pb_model.proofs.read.read_lines.Given as goal

abbrev pub invariant-lines : goal.invariant-lines
invariant-lines l = record {
  going : GoesOn l.fn.reader.listing.vars [] (symbols_of l.fn.reader.listing.vars l.fn.text) (symbols_from l.fn.reader.listing.vars l.number (lines_of l.left)) l.reader;
  few : l.number + length l.left ≤ length l.fn.text + 1;
}

abbrev pub decreases-lines : goal.decreases-lines
decreases-lines l = length l.left
