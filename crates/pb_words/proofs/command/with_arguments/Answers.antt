use Rattle.clap.specs.Words.{with_rule}
use Rattle.pb_words.specs.inner.Commands.{rule_for}
use Rattle.pb_words.proofs.CommandLemmas.{adds_rule, last_step, next_step}
use Rattle.pb_words.proofs.command.with_arguments.Goals as goal

pub loop-argument-preserved : goal.loop-argument-preserved
loop-argument-preserved c = λ app is.
    let more = adds_rule _ _ _ _ _ c.in_ok-command.ensures (c.loop-argument.invariant app is) c.arg_for.ensures.rule c.arg_for.ensures.local in
    next_step (λ app argument. with_rule app (rule_for argument)) app _ _ _ _ c.loop-argument-test.true more

pub returns : goal.returns
returns c = λ app is. last_step (λ app argument. with_rule app (rule_for argument)) app _ _ _ c.loop-argument-test.false (c.loop-argument.invariant app is)
