use Rattle.pb_words.specs.inner.Commands.{with_arguments}
use Rattle.pb_words.proofs.CommandLemmas.{last_step, next_step}
use Rattle.pb_words.proofs.command.command_of.Goals as goal

pub loop-group-init : goal.loop-group-init
loop-group-init c = (c.new-command.ensures.app, c.new-command.ensures.local)

pub loop-group-preserved : goal.loop-group-preserved
loop-group-preserved c =
    next_step (λ app group. with_arguments app group.now) _ _ _ _ _ c.loop-group-test.true (c.in_ok-command.ensures _ c.loop-group.invariant)

pub returns : goal.returns
returns c = last_step (λ app group. with_arguments app group.now) _ _ _ _ c.loop-group-test.false c.loop-group.invariant
