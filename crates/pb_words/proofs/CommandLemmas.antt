-- A command that gains an argument or a command, as clap's definitions see it.
use Rattle.std.proofs.Common.{◌≡◌, ◌∙◌, ◌+◌, ◌<◌, ◌≤◌, ℕ, ap₂, sym, subst, false, ◌||◌, List, fold, get_or, length, take}
use Rattle.std.proofs.lemmas.List.{take_all}
use Rattle.std.proofs.lemmas.List.Sums.{fold_more}
use Rattle.clap.specs.Words.{AddsArg, AddsSubcommand, App, Rule, rule_of, with_rule, with_subcommand}
use Rattle.clap.specs.declared.builder.arg.Arg.{Arg}
use Rattle.clap.specs.declared.builder.command.Command.{Command}
use Rattle.pb_words.specs.Rules.{IsCommand}

-- one argument more
pub adds_rule : (app : App) (rule : Rule) (old new : Command) (a : Arg) → AddsArg old a new → IsCommand app old → rule_of a ≡ rule → a.global ≡ false
    → IsCommand (with_rule app rule) new
adds_rule app rule old new a adds old_is rule_is local = (
  adds.shape local ∙ ap₂ with_rule old_is.0 rule_is,
  adds.globals ∙ ap₂ (λ x y. x || y) old_is.1 local,
)

-- one command more
pub adds_command : (app sub_app : App) (old sub new : Command) → AddsSubcommand old sub new → IsCommand app old → IsCommand sub_app sub
    → IsCommand (with_subcommand app sub_app.top) new
adds_command app sub_app old sub new adds old_is sub_is = (
  adds.shape sub_is.1 ∙ ap₂ (λ a (s : App). with_subcommand a s.top) old_is.0 sub_is.0,
  adds.globals ∙ ap₂ (λ x y. x || y) old_is.1 sub_is.1,
)

-- a command that gains what a list names, one step further
pub next_step : {X : Type 0} (step : App → X → App) (app : App) (xs : List X) (i : ℕ) (d : X) (command : Command) → i < length xs
    → IsCommand (step (fold step app (take i xs)) (get_or xs i d)) command → IsCommand (fold step app (take (i + 1) xs)) command
next_step step app xs i d command below is = subst (λ a. IsCommand a command) (sym (fold_more step app xs i d below)) is

-- the same after the last step
pub last_step : {X : Type 0} (step : App → X → App) (app : App) (xs : List X) (i : ℕ) (command : Command) → length xs ≤ i
    → IsCommand (fold step app (take i xs)) command → IsCommand (fold step app xs) command
last_step step app xs i command all is = subst (λ l. IsCommand (fold step app l) command) (take_all i xs all) is
