-- Commands and their arguments, as clap's definitions see them.
use Rattle.std.specs.Prelude.{◌≡◌, false, true, List, fold, Some}
use Rattle.clap.specs.Words.{App, Rule, Text, app_of, new_app, new_rule, with_rule, with_subcommand}
use Rattle.clap.specs.Simple.{on_top}
use Rattle.clap.specs.declared.builder.action.ArgAction.TheVariants.{Append, SetTrue}
use Rattle.clap.specs.declared.builder.command.Command.{Command}
use Rattle.clap.specs.declared.builder.command.Command.TheViews.{out-Command}

-- a name that has to be given
abbrev pub name_rule : Text → Rule
name_rule id = record (new_rule id) { required = true }

-- any number of words, none included
abbrev pub words_rule : Text → Rule
words_rule id = record (new_rule id) { action = Some Append }

-- an option `--id value`, which may be given once
abbrev pub option_rule : Text → Rule
option_rule id = record (new_rule id) { long = Some id }

-- an option `--id` without a value, which may be given once
abbrev pub flag_rule : Text → Rule
flag_rule id = record (new_rule id) { long = Some id; action = Some SetTrue }

-- a command that takes these and no others
abbrev pub command_of : Text → List Rule → App
command_of name = fold with_rule (new_app name)

-- a program without commands, of which one has to be given; there is no help or version
abbrev pub bare_program : Text → App
bare_program name = on_top (λ top. record top {
  disable_help_flag = true;
  disable_help_subcommand = true;
  disable_version_flag = true;
  subcommand_required = true;
}) (new_app name)

-- a program that takes these commands and no others
abbrev pub program_of : Text → List App → App
program_of name = fold (λ program command. with_subcommand program command.top) (bare_program name)

-- clap sees the command as this one, and no argument of it is global
abbrev pub IsCommand : App → Command → Type 0
IsCommand app command = (app_of command ≡ app) × ((out-Command command).has_globals ≡ false)
