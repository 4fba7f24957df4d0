-- Commands as the program lists them, and what clap's definitions make of them.
use Rattle.std.specs.Prelude.{List, fold}
use Rattle.clap.specs.Words.{App, Rule, new_app, new_rule, with_rule, with_subcommand}
use Rattle.pb_words.specs.declared.argument.Argument.{Argument}
use Rattle.pb_words.specs.declared.argument.Argument.TheVariants.{Name, OptionalName, Words, Valued, Flag}
use Rattle.pb_words.specs.declared.command.Syntax.{Syntax}
use Rattle.pb_words.specs.Rules.{flag_rule, name_rule, option_rule, words_rule}

abbrev pub rule_for : Argument → Rule
rule_for (Name id) = name_rule id.now
rule_for (OptionalName id) = new_rule id.now
rule_for (Words id) = words_rule id.now
rule_for (Valued id) = option_rule id.now
rule_for (Flag id) = flag_rule id.now

-- a command that takes these besides
abbrev pub with_arguments : App → List Argument → App
with_arguments = fold (λ app argument. with_rule app (rule_for argument))

-- a command that takes what its groups list and nothing else
abbrev pub app_for : Syntax → App
app_for syntax = fold (λ app group. with_arguments app group.now) (new_app syntax.name.now) syntax.groups.now

-- a program that takes these commands besides
abbrev pub with_commands : App → List Syntax → App
with_commands = fold (λ app syntax. with_subcommand app (app_for syntax).top)
