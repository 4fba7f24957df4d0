use Rattle.std.proofs.Common.{subst}
use Rattle.std.specs.Prelude.{IfOk}
use Rattle.std.proofs.lemmas.Result.{IfOk-weaker}
use Rattle.pb_words.specs.Rules.{IsCommand}
use Rattle.pb_words.proofs.CommandLemmas.{adds_command}
use Rattle.pb_words.proofs.program.with_command.Goals as goal

pub returns : goal.returns
returns c = λ app sub is found.
    let given : IsCommand sub c.in_ok-command.command = subst (λ r. IfOk r (IsCommand sub)) c.in_ok-command.was found in
    IfOk-weaker c.subcommand.result _ _ (λ new adds. adds_command app sub c.args.program _ new adds is given) c.subcommand.ensures
