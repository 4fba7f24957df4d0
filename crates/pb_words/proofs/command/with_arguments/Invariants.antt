use Rattle.std.proofs.Common.{take}
use Rattle.clap.specs.Words.{App}
use Rattle.pb_words.specs.inner.Commands.{with_arguments}
use Rattle.pb_words.specs.Rules.{IsCommand}
use Rattle.pb_words.proofs.command.with_arguments.Given as goal

abbrev pub invariant-loop-argument : goal.invariant-loop-argument
invariant-loop-argument l = (app : App) → IsCommand app l.initial.command → IsCommand (with_arguments app (take l.argument-index l.arguments)) l.command
