use Rattle.std.proofs.Common.{codes, take}
use Rattle.pb_words.specs.inner.Commands.{with_commands}
use Rattle.pb_words.specs.Rules.{bare_program, IsCommand}
use Rattle.pb_words.proofs.program.program.Given as goal

abbrev pub invariant-loop-syntax : goal.invariant-loop-syntax
invariant-loop-syntax l = IsCommand (with_commands (bare_program (codes "pbcnf")) (take l.syntax-index l.syntax-items)) l.program
