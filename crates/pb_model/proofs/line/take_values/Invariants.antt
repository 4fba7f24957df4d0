use Rattle.std.proofs.Common.{ℕ, List, map}
use Rattle.pb_model.specs.ModelLines.{Symbol, word_symbol}
use Rattle.pb_model.specs.inner.Reading.{Knows}
use Rattle.pb_model.proofs.Going.{GoesOn}
use Rattle.pb_model.proofs.line.take_values.Given as goal

abbrev pub invariant-loop-word : goal.invariant-loop-word
invariant-loop-word l = (vars : ℕ) (ss : List Symbol) → Knows vars ss l.fn.reader → GoesOn vars ss (map (word_symbol vars l.number) l.fn.words) (map (word_symbol vars l.number) l.word-iterator) l.reader
