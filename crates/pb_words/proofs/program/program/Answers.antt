use Rattle.clap.specs.Words.{with_subcommand}
use Rattle.pb_words.specs.inner.Commands.{app_for}
use Rattle.pb_words.proofs.CommandLemmas.{last_step, next_step}
use Rattle.pb_words.proofs.program.program.Goals as goal

pub loop-syntax-preserved : goal.loop-syntax-preserved
loop-syntax-preserved c =
    next_step (λ app syntax. with_subcommand app (app_for syntax).top) _ _ _ _ _ c.loop-syntax-test.true (c.in_ok-program.ensures _ _ c.loop-syntax.invariant c.command_of.ensures)

pub returns : goal.returns
returns c = last_step (λ app syntax. with_subcommand app (app_for syntax).top) _ _ _ _ c.loop-syntax-test.false c.loop-syntax.invariant
