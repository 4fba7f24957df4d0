use Rattle.std.proofs.Common.{fold, take}
use Rattle.clap.specs.Words.{new_app}
use Rattle.pb_words.specs.inner.Commands.{with_arguments}
use Rattle.pb_words.specs.Rules.{IsCommand}
use Rattle.pb_words.proofs.command.command_of.Given as goal

abbrev pub invariant-loop-group : goal.invariant-loop-group
invariant-loop-group l = IsCommand (fold (λ app group. with_arguments app group.now) (new_app l.syntax.name.now) (take l.group-index l.syntax.groups.now)) l.command
